-- `learn::keep_left` meets its contract. Assumes nothing.
use Rattle.std.proofs.Common.{ℕ, sym, ap, ◌∙◌}
use Rattle.window.specs.Window.{places}
use Rattle.learn.specs.Learn.{kept_with}
use Rattle.learn.proofs.Answering.{learn_kept, learn_left}
use Rattle.learn.proofs.keep_left.Goals as goal

pub returns-in-Kept : goal.returns-in-Kept
returns-in-Kept c = λ t f C n e r. learn_kept t c.args.st (places c.args.sizes.now c.args.learnt.now c.args.window) c.args.row.now C f _ (sym c.in-Kept.is ∙ e) r (λ D q m. c.keep_record.ensures t D q (n ∙ m) ∙ ap (λ (k : ℕ). kept_with k D t c.args.st (places c.args.sizes.now c.args.learnt.now c.args.window)) n)

pub returns-in-Left : goal.returns-in-Left
returns-in-Left c = λ t f C n e r. learn_left t c.args.st (places c.args.sizes.now c.args.learnt.now c.args.window) c.args.row.now C f _ c.in-Left.n (sym c.in-Left.is ∙ e) r (λ D q m. c.keep_record-in-Left.ensures t D q m ∙ ap (λ (k : ℕ). kept_with k D t c.args.st (places c.args.sizes.now c.args.learnt.now c.args.window)) n)
