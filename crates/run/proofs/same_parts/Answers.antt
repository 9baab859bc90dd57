-- The part of a clause as it is compared is the part that its record says. Assumes nothing.
use Rattle.std.proofs.Common.{ℕ, ◌≡◌, ◌+◌, ◌-◌, Bool, List, ℤ, take, drop, sym, ap, ◌∙◌}
use mathlib.Core.Bool.{not}
use lib.Pointwise.{pointwise}
use borrow.Author.Tests.{not-true, not-false}
use Rattle.std.specs.Ordering.{int_eq}
use Rattle.base.specs.Lists.{same_list}
use Rattle.literal.specs.Literals.{eq_z}
use Rattle.literal.proofs.Comparing.{literals_same}
use Rattle.literal.proofs.Zeros.{mid}
use Rattle.tables.specs.Tables.{start_of, length_of}
use Rattle.tables.specs.Clauses.{literals_of}
use Rattle.run.proofs.Unchanged.{below_none, below_next, below_fails}
use Rattle.run.proofs.same_parts.Goals as goal

-- clause i has the same literals in both tables
abbrev same : List ℕ → List ℤ → List ℤ → ℕ → Bool
same clauses old new i = same_list eq_z (literals_of clauses old i) (literals_of clauses new i)

-- what the comparison says of clause i
told : (clauses : List ℕ) (old new : List ℤ) (i : ℕ) {differs : Bool}
    → differs ≡ not (pointwise int_eq (take (start_of clauses i + length_of clauses i - start_of clauses i) (drop (start_of clauses i) old)) (take (start_of clauses i + length_of clauses i - start_of clauses i) (drop (start_of clauses i) new)))
    → differs ≡ not (same clauses old new i)
told clauses old new i e =
    let start = start_of clauses i in
    let size = length_of clauses i in
    e ∙ ap not (literals_same (take (start + size - start) (drop start old)) (take (start + size - start) (drop start new)) ∙ ap (λ (n : ℕ). same_list eq_z (take n (drop start old)) (take n (drop start new))) (mid start size))

pub loop-i-init : goal.loop-i-init
loop-i-init c = below_none (same c.args.clauses.now c.args.old.now c.args.new.now)

pub returns-then-ne : goal.returns-then-ne
returns-then-ne c =
    let a = c.args in
    sym (below_fails (same a.clauses.now a.old.now a.new.now) a.n c.loop-i.i c.loop-i-test.true (not-true _ (sym (told a.clauses.now a.old.now a.new.now c.loop-i.i c.ne.ensures) ∙ c.if-ne.true)))

pub loop-i-preserved : goal.loop-i-preserved
loop-i-preserved c =
    let a = c.args in
    below_next (same a.clauses.now a.old.now a.new.now) c.loop-i.i c.loop-i.invariant (not-false _ (sym (told a.clauses.now a.old.now a.new.now c.loop-i.i c.ne.ensures) ∙ c.if-ne.false))
