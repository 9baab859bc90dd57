-- What Merge makes of a clause. Document 01: "Visits then put class literals in, remove repeats (the first stays) and drop a clause that has v and −v."
-- Assumes nothing: these are definitions.
use Rattle.std.specs.Prelude.{true, false, List, map, ℤ}
use Rattle.literal.specs.Clauses.{distinct, tautology}
use Rattle.tables.specs.Values.{class_literal}
use Rattle.tables.specs.Fates.{Fate, left, dropped}

abbrev pub unless_tautology : List ℤ → Fate
unless_tautology D = elim (tautology D) [ true ↦ dropped | false ↦ left D ]

unfoldable pub merge_clause : List ℤ → List ℤ → Fate
merge_clause variables C = unless_tautology (distinct (map (class_literal variables) C))
