-- Marks of literals, and what the functions that set them and take them back say to each other. Assumes nothing: these are definitions.
use Rattle.std.specs.Prelude.{ℕ, ◌+◌, ◌-◌, ◌<◌, ◌≡◌, List, [], ◌∷◌, ◌++◌, length, drop, get_or, set, replicate, ℤ, pos, negsuc}
use Rattle.literal.specs.Literals.{Literal}
use Rattle.literal.specs.Clauses.{distinct, tautology}
use Rattle.repeats.specs.declared.Distinct.{Distinct}

-- the place of a literal's mark among 2,049: the literal and 1,024
abbrev pub mark_of : ℤ → ℕ
mark_of (pos n) = 1024 + n
mark_of (negsuc n) = 1023 - n

-- no literal has a mark
abbrev pub no_marks : List ℕ
no_marks = replicate 2049 0

-- the marks once each literal of the list has mark m
abbrev pub with_mark : ℕ → List ℤ → List ℕ → List ℕ
with_mark m [] marks = marks
with_mark m (l ∷ ls) marks = with_mark m ls (set marks (mark_of l) m)

-- literals of at most 1,024 variables, and no mark
pub record Markable (part : List ℤ) (marks : List ℕ) : Type 0 where
  pub literals : (k : ℕ) → k < length part → Literal 1024 (get_or part k (pos 0))
  pub blank : marks ≡ no_marks

-- literals of at most 1,024 variables, and a place for each mark
pub record Unmarkable (part : List ℤ) (marks : List ℕ) : Type 0 where
  pub literals : (k : ℕ) → k < length part → Literal 1024 (get_or part k (pos 0))
  pub places : length marks ≡ 2049

-- the first of each literal of `part` stands in front of q and is marked; nothing behind the kept ones is written
pub record FirstsKept (part : List ℤ) (marks : List ℕ) (q : List ℤ) (marks' : List ℕ) (r : Distinct) : Type 0 where
  pub count : r.count ≡ length (distinct part)
  pub both : r.both ≡ tautology (distinct part)
  pub front : q ≡ distinct part ++ drop (length (distinct part)) part
  pub marks_set : marks' ≡ with_mark 1 (distinct part) marks
