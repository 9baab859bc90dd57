-- Clauses as lists of literals: "remove repeats (the first stays)", "a clause that has v and −v". Assumes nothing: these are definitions.
use Rattle.std.specs.Prelude.{Bool, true, false, ◌||◌, List, [], ◌∷◌, ◌++◌, ℤ, neg_ℤ}
use Rattle.literal.specs.Literals.{eq_z}

-- l stands in the list
abbrev pub has : ℤ → List ℤ → Bool
has l [] = false
has l (x ∷ xs) = eq_z x l || has l xs

-- `kept`, and behind it the literals that are not yet there, each once, in order
abbrev pub distinct_from : List ℤ → List ℤ → List ℤ
distinct_from kept [] = kept
distinct_from kept (x ∷ xs) = elim (has x kept) [ true ↦ distinct_from kept xs | false ↦ distinct_from (kept ++ (x ∷ [])) xs ]

-- without repeats: the first stays
abbrev pub distinct : List ℤ → List ℤ
distinct xs = distinct_from [] xs

-- some variable stands in it with both signs
abbrev pub tautology : List ℤ → Bool
tautology [] = false
tautology (x ∷ xs) = has (neg_ℤ x) xs || tautology xs
