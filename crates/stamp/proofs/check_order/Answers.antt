-- `stamp::check_order` meets its contract. Assumes nothing.
use Rattle.std.proofs.Common.{◌≡◌, ◌+◌, ℕ, ℤ, pos, true, false, get_or, set, sym, ap, subst, ◌∙◌, arith}
use Rattle.literal.specs.Literals.{in_range, slot_of}
use Rattle.literal.proofs.Signed.{read, in_range_lem}
use Rattle.stamp.proofs.Ordering.{Looking, looking_none, outside, repeated, new, looked}
use Rattle.stamp.proofs.check_order.Goals as goal

pub loop-i-init : goal.loop-i-init
loop-i-init c = looking_none _ _ c.requires

pub returns-then-not-in_range : goal.returns-then-not-in_range
returns-then-not-in_range c =
    let entry : ℤ = get_or c.args.order.now c.loop-i.i (pos 0) in
    let is = read c.args.order.now c.loop-i.i (omega arith) in
    let out : in_range entry c.args.v ≡ false = sym (rw is at c.in_range.ensures) ∙ c.if-not-in_range.true in
    (outside c.requires c.loop-i.invariant c.loop-i-test.true out, c.loop-i-test.true)

pub returns-then-seen-s : goal.returns-then-seen-s
returns-then-seen-s c =
    let entry : ℤ = get_or c.args.order.now c.loop-i.i (pos 0) in
    let is = read c.args.order.now c.loop-i.i (omega arith) in
    let ranged : in_range entry c.args.v ≡ true = sym (rw is at c.in_range.ensures) ∙ c.if-not-in_range.false in
    let R = in_range_lem entry c.args.v ranged in
    let slot : c.slot_of-s.result ≡ slot_of entry = c.slot_of-s.ensures ∙ ap slot_of is in
    (repeated c.requires c.loop-i.invariant c.loop-i-test.true ranged R.above R.within (sym (ap (λ (k : ℕ). get_or c.loop-i.seen k false) slot) ∙ c.if-seen-s.true), c.loop-i-test.true)

pub loop-i-preserved : goal.loop-i-preserved
loop-i-preserved c =
    let entry : ℤ = get_or c.args.order.now c.loop-i.i (pos 0) in
    let is = read c.args.order.now c.loop-i.i (omega arith) in
    let ranged : in_range entry c.args.v ≡ true = sym (rw is at c.in_range.ensures) ∙ c.if-not-in_range.false in
    let R = in_range_lem entry c.args.v ranged in
    let slot : c.slot_of-s.result ≡ slot_of entry = c.slot_of-s.ensures ∙ ap slot_of is in
    subst (λ (k : ℕ). Looking c.args.v c.args.order.now (set c.loop-i.seen k true) (c.loop-i.i + 1)) (sym slot)
    (new c.requires c.loop-i.invariant c.loop-i-test.true ranged R.above R.within (sym (ap (λ (k : ℕ). get_or c.loop-i.seen k false) slot) ∙ c.if-seen-s.false))

pub returns : goal.returns
returns c = let e = looked c.loop-i.invariant c.loop-i-test.false in let w = c.loop-i.invariant.within in omega arith
