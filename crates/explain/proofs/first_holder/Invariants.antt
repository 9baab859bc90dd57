-- The literals that are passed have no effect on the first that holds l.
use Rattle.stamp_columns.specs.Columns.{columns}
use Rattle.explain.specs.Reasons.{first_holder}
use Rattle.explain.proofs.Searching.{Passing}
use Rattle.explain.proofs.first_holder.Given as goal

abbrev pub invariant-loop-m : goal.invariant-loop-m
invariant-loop-m l = Passing (λ links C. first_holder (columns l.times links) C l.l) l.part l.m-index
