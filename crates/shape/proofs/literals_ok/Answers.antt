-- `shape::literals_ok` keeps its invariant (`Listing`): the literal that is looked at is in range, its variable has not come, and `last` gets this clause's number there. Assumes nothing.
use mir.Syntax.{w32}
use mir.Val.{of_z, to_z}
use Rattle.std.proofs.Common.{rules, arith, sym, ◌∙◌, ◌≡◌, true, false, ℕ, List, length, take, drop, get_or, length-take, ◌+◌, ◌-◌, ◌≤◌, ◌<◌, ℤ, pos, nat_abs}
use Rattle.std.proofs.lemmas.List.{get_or-take, get_or-drop}
use Rattle.std.proofs.lemmas.Bool.{false≢true}
use Rattle.base.specs.Decide.{says_no}
use Rattle.literal.specs.Literals.{in_range}
use Rattle.literal.proofs.Laws.{literal_tested}
use Rattle.literal.proofs.Signed.{in_range_lem, InRange}
use Rattle.tables.specs.Tables.{class_of}
use Rattle.shape.proofs.Listing.{listing_next, listing_twice}
use Rattle.shape.proofs.literals_ok.Goals as goal
use Rattle.shape.proofs.literals_ok.Goals.{then-repeated-via-then-repeated, then-repeated-via-else-repeated+then-not-own_ok}

-- the literals that the loop goes through
abbrev part : List ℤ → ℕ → ℕ → List ℤ
part literals start len = take (start + len - start) (drop start literals)

placed : (literals : List ℤ) (start len k : ℕ) → start + len ≤ length literals → k < length (part literals start len) → k < len
placed literals start len k room lt =
    let h : length (part literals start len) ≤ start + len - start = omega (arith, length-take (start + len - start) (drop start literals)) in
    omega arith

-- one of them, as the table has it
in_table : (literals : List ℤ) (start len k : ℕ) → start + len ≤ length literals → k < length (part literals start len) → get_or (part literals start len) k (pos 0) ≡ get_or literals (start + k) (pos 0)
in_table literals start len k room lt =
    let h : k < len = placed literals start len k room lt in
    get_or-take (start + len - start) (drop start literals) k (pos 0) (omega arith) ∙ get_or-drop start literals k (pos 0)

pub loop-l-preserved : goal.loop-l-preserved
loop-l-preserved c =
    let a = c.args in
    let l = c.loop-l in
    let item : ℤ = get_or (part a.literals.now a.start a.len) l.l-index (pos 0) in
    let lit : ℤ = get_or a.literals.now (a.start + l.l-index) (pos 0) in
    let read : to_z w32 (of_z w32 item) ≡ item = search rules in
    let is : item ≡ lit = in_table a.literals.now a.start a.len l.l-index c.requires.0 c.loop-l-test.true in
    let range : InRange lit a.v = in_range_lem lit a.v (sym (rw (read, is) at c.in_range.ensures) ∙ c.if-not-in_range.false) in
    let var : c.var_of-w.result ≡ nat_abs lit = rw (read, is) at c.var_of-w.ensures in
    let new : get_or l.last (nat_abs lit - 1) 0 ≡ a.number → ⊥ = rw (← var) c.if-repeated.false in
    let own : a.settled ≡ true → class_of a.variables.now (nat_abs lit) ≡ pos (nat_abs lit) = (rw var at c.own_ok.ensures).holds c.if-not-own_ok.false in
    rw var (listing_next a.v a.literals.now a.variables.now a.settled a.start a.number l.l-index l.last l.invariant c.requires.1 (record { above = range.above; within = range.within }) new own)

pub returns-then-repeated : goal.returns-then-repeated
returns-then-repeated c =
    let a = c.args in
    let l = c.loop-l in
    let inside : l.l-index < a.len = placed a.literals.now a.start a.len l.l-index c.requires.0 c.loop-l-test.true in
    let item : ℤ = get_or (part a.literals.now a.start a.len) l.l-index (pos 0) in
    let lit : ℤ = get_or a.literals.now (a.start + l.l-index) (pos 0) in
    let read : to_z w32 (of_z w32 item) ≡ item = search rules in
    let is : item ≡ lit = in_table a.literals.now a.start a.len l.l-index c.requires.0 c.loop-l-test.true in
    let range : InRange lit a.v = in_range_lem lit a.v (sym (rw (read, is) at c.in_range.ensures) ∙ c.if-not-in_range.false) in
    let var : c.var_of-w.result ≡ nat_abs lit = rw (read, is) at c.var_of-w.ensures in (
      elim c.then-repeated.branch [
        | then-repeated-via-then-repeated w ↦
            says_no (listing_twice a.v a.literals.now a.variables.now a.settled a.start a.number l.l-index l.last l.invariant c.requires.1 range.above (rw var at w.if-repeated.true) a.len inside)
        | then-repeated-via-else-repeated+then-not-own_ok w ↦
            says_no (λ L. (rw var at w.own_ok.ensures).fails w.if-not-own_ok.true (λ s. L.own s l.l-index inside))
      ],
      l.invariant.below,
    )

pub returns-then-not-in_range : goal.returns-then-not-in_range
returns-then-not-in_range c =
    let a = c.args in
    let k = c.loop-l.l-index in
    let inside : k < a.len = placed a.literals.now a.start a.len k c.requires.0 c.loop-l-test.true in
    let item : ℤ = get_or (part a.literals.now a.start a.len) k (pos 0) in
    let lit : ℤ = get_or a.literals.now (a.start + k) (pos 0) in
    let read : to_z w32 (of_z w32 item) ≡ item = search rules in
    let is : item ≡ lit = in_table a.literals.now a.start a.len k c.requires.0 c.loop-l-test.true in
    let out : in_range lit a.v ≡ false = sym (rw (read, is) at c.in_range.ensures) ∙ c.if-not-in_range.true in
    (says_no (λ L. false≢true (sym out ∙ literal_tested (omega (arith, c.requires.1)) (L.ranged k inside))), c.loop-l.invariant.below)
