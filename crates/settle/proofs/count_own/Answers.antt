-- One variable more is counted. Assumes nothing.
use Rattle.std.proofs.Common.{ℕ, ◌≡◌, ◌+◌, ◌*◌, get_or, pos, arith, sym, ap, subst, ◌∙◌}
use Rattle.literal.specs.Literals.{slot_of}
use Rattle.literal.proofs.Signed.{back}
use Rattle.settle.proofs.Owning.{Counting, counting_none, counting_class, counting_few, counting_in, counting_out, counting_done}
use Rattle.settle.proofs.count_own.Goals as goal
use Rattle.settle.proofs.count_own.Goals.{then-slot-at, else-slot-at}

pub loop-w-init : goal.loop-w-init
loop-w-init c = counting_none c.args.v c.args.variables.now

pub slot_of-slot-requires : goal.slot_of-slot-requires
slot_of-slot-requires c = let K = counting_class c.requires c.loop-w.invariant c.loop-w-test.true in rw (back K.1) K

pub overflow_add-count : goal.overflow_add-count
overflow_add-count c = omega (arith, counting_few c.requires c.loop-w.invariant c.loop-w-test.true, c.requires.few)

pub loop-w-preserved : goal.loop-w-preserved
loop-w-preserved c =
    let w = c.loop-w.w in
    let K = counting_class c.requires c.loop-w.invariant c.loop-w-test.true in
    let is : c.slot_of-slot.result ≡ slot_of (get_or c.args.variables.now (2 * w) (pos 0)) = c.slot_of-slot.ensures ∙ ap slot_of (back K.1) in
    elim c.if-slot-at.branch [
      | then-slot-at e ↦ subst (λ (n : ℕ). Counting c.args.v c.args.variables.now n (w + 1)) (sym e.count-is) (counting_in c.requires c.loop-w.invariant c.loop-w-test.true (sym is ∙ e.if-slot-at.true))
      | else-slot-at e ↦ subst (λ (n : ℕ). Counting c.args.v c.args.variables.now n (w + 1)) (sym e.count-is) (counting_out c.requires c.loop-w.invariant c.loop-w-test.true (λ q. e.if-slot-at.false (is ∙ q)))
    ]

pub returns : goal.returns
returns c = counting_done c.loop-w.invariant c.loop-w-test.false
