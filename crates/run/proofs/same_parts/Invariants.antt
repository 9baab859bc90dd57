use Rattle.std.proofs.Common.{◌≡◌, true}
use Rattle.base.specs.Lists.{all_below, same_list}
use Rattle.literal.specs.Literals.{eq_z}
use Rattle.tables.specs.Clauses.{literals_of}
use Rattle.run.proofs.same_parts.Given as goal

-- the first i clauses have the same literals in both tables
abbrev pub invariant-loop-i : goal.invariant-loop-i
invariant-loop-i l = all_below l.i (λ j. same_list eq_z (literals_of l.clauses l.old j) (literals_of l.clauses l.new j)) ≡ true
