-- The literals that are passed have no effect on the first that l holds.
use Rattle.stamp_columns.specs.Columns.{columns}
use Rattle.explain.specs.Reasons.{first_held}
use Rattle.explain.proofs.Searching.{Passing}
use Rattle.explain.proofs.first_held.Given as goal

abbrev pub invariant-loop-m : goal.invariant-loop-m
invariant-loop-m l = Passing (λ links C. first_held (columns l.times links) C l.l) l.part l.m-index
