-- Document 01: "One space between tokens, ` 0` and LF at the end." The text of a formula. Assumes nothing: these are definitions.
use Rattle.std.specs.Prelude.{ℕ, zero, suc, ◌+◌, ◌/◌, ◌%◌, true, false, List, [], ◌∷◌, ◌++◌, length, ltb, ℤ, nat_abs}
use Rattle.std.specs.Int.Signed.{non_neg}
use Rattle.dimacs.specs.Header.{p_cnf}

-- the decimal digits of n; `fuel` is at least the number of digits but one
abbrev pub digits_by : ℕ → ℕ → List ℕ
digits_by zero n = (48 + n % 10) ∷ []
digits_by (suc fuel) n = elim (ltb n 10) [ true ↦ (48 + n) ∷ [] | false ↦ digits_by fuel (n / 10) ++ ((48 + n % 10) ∷ []) ]

unfoldable pub digits : ℕ → List ℕ
digits n = digits_by n n

-- a literal, with `-` in front of a negative one
abbrev pub literal_text : ℤ → List ℕ
literal_text l = elim (non_neg l) [ true ↦ digits (nat_abs l) | false ↦ 45 ∷ digits (nat_abs l) ]

-- each literal and a space, then `0` and LF
unfoldable pub clause_text : List ℤ → List ℕ
clause_text [] = 48 ∷ 10 ∷ []
clause_text (l ∷ ls) = literal_text l ++ (32 ∷ clause_text ls)

unfoldable pub clauses_text : List (List ℤ) → List ℕ
clauses_text [] = []
clauses_text (c ∷ cs) = clause_text c ++ clauses_text cs

-- a word, two numbers with a space between them, and LF
abbrev pub line_text : List ℕ → ℕ → ℕ → List ℕ
line_text word a b = word ++ (digits a ++ (32 ∷ (digits b ++ (10 ∷ []))))

-- the line `p cnf v n`
abbrev pub header_text : ℕ → ℕ → List ℕ
header_text v n = line_text p_cnf v n

-- "refused "
abbrev pub refused_word : List ℕ
refused_word = 114 ∷ 101 ∷ 102 ∷ 117 ∷ 115 ∷ 101 ∷ 100 ∷ 32 ∷ []

-- document 01: "`refused`, the number and the place in decimal, single spaces between, LF"
abbrev pub refused_line : ℕ → ℕ → List ℕ
refused_line number place = line_text refused_word number place

-- the header with the number of clauses that follow, and the clauses
unfoldable pub text_of : ℕ → List (List ℤ) → List ℕ
text_of v cs = p_cnf ++ (digits v ++ (32 ∷ (digits (length cs) ++ (10 ∷ clauses_text cs))))
