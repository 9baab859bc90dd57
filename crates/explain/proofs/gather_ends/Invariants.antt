-- The ends for the literals that are passed and left out stand in the first n pairs.
use Rattle.stamp_columns.specs.Columns.{columns}
use Rattle.explain.specs.Reasons.{ends_in}
use Rattle.explain.proofs.Gathering.{Gathering}
use Rattle.explain.proofs.gather_ends.Given as goal

abbrev pub invariant-loop-l : goal.invariant-loop-l
invariant-loop-l l = Gathering (λ links. ends_in (columns l.times links) l.part l.rest) l.part l.left l.ends l.n l.j l.l-index
