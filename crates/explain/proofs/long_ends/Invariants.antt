-- The literals that are passed have complements that hold none of the part.
use Rattle.stamp_columns.specs.Columns.{columns}
use Rattle.explain.specs.Reasons.{long_ends}
use Rattle.explain.proofs.Searching.{Passing}
use Rattle.explain.proofs.long_ends.Given as goal

abbrev pub invariant-loop-a : goal.invariant-loop-a
invariant-loop-a l = Passing (λ links C. long_ends (columns l.times links) l.part C) l.part l.a-index
