-- Where the end is reached, none is held.
use Rattle.std.proofs.Common.{sym, ap, ◌∙◌}
use Rattle.stamp_columns.specs.Columns.{columns}
use Rattle.explain.specs.Reasons.{first_held}
use Rattle.explain.proofs.Searching.{stored_is, passing_done}
use Rattle.explain.proofs.first_held.Goals as goal

pub returns : goal.returns
returns c = λ links. sym (passing_done c.loop-m.invariant c.loop-m-test.false links) ∙ ap (first_held (columns c.args.times.now links) c.args.part.now) (stored_is c.requires.1)
