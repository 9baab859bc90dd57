-- `learn::keep_record` meets its contract. Assumes nothing.
use Prim.Native.Nat.{ℕ}
use mathlib.Core.Path.{ap, ◌∙◌}
use Rattle.tables.specs.Calls.{answered}
use Rattle.window.specs.Window.{places, keep, after_window}
use Rattle.learn.specs.Learn.{kept_as}
use borrow.Author.Rules.{rules}
use Rattle.learn.proofs.keep_record.Statement.{statement}
use Rattle.learn.proofs.keep_record.Tie as tie

keep-requires : tie.Need-keep-kept-requires
keep-requires c κs = search rules

kept-as-requires : tie.Need-kept_as-requires
kept-as-requires c κs = search rules

same_length : tie.Need-shape_of-sizes
same_length c = search rules

same-length-2 : tie.Need-shape_of-learnt
same-length-2 c = search rules

returns : tie.Need-returns
returns c = λ t D r e. (λ i. after_window (answered (c.kept_as.ensures i) c.args.st t) (c.keep-kept.ensures D r e i)) ∙ ap (λ (n : ℕ). after_window (answered (kept_as c.args.before n) c.args.st t) (keep D (places c.args.sizes.now c.args.learnt.now c.args.window))) e

pub keep_record_spec : {M : Type 1} → statement M
keep_record_spec =
    tie.close (tie.spec
    keep-requires
    kept-as-requires
    same_length
    same-length-2
    returns)
