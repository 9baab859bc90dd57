-- What the functions inside a join promise. Assumes nothing: these are definitions.
use Rattle.std.specs.Prelude.{◌≡◌, List, ◌++◌, ℕ, ◌+◌, ◌<◌, ◌≤◌, length, get_or, ℤ, pos, nat_abs}
use Rattle.std.specs.Int.Signed.{non_neg}
use Rattle.literal.specs.Literals.{sign_by}
use Rattle.literal.specs.Ranged.{InClauses, total}
use Rattle.dimacs.specs.Text.{text_clauses}
use Rattle.dimacs.specs.Numbers.{clauses_in}
use Rattle.join.specs.Links.{link_of, right_number, renumbered_clauses}

-- ---- the numbers of the right variables, a table with a place for each variable

-- none has a number
pub record Unnumbered (numbering : List ℕ) : Type 0 where
  pub room : length numbering ≡ 1025
  pub none : (x : ℕ) → x < 1025 → get_or numbering x 0 ≡ 0

-- each linked one has its left variable, the others have 0
pub record LinksPut (links numbering : List ℕ) : Type 0 where
  pub room : length numbering ≡ 1025
  pub is : (x : ℕ) → x < 1025 → get_or numbering x 0 ≡ link_of links x

-- the variables 1 to w have their numbers, and 0, which ends a clause, has 0
pub record Numbered (v w : ℕ) (links numbering : List ℕ) : Type 0 where
  pub room : length numbering ≡ 1025
  pub nought : get_or numbering 0 0 ≡ link_of links 0
  pub is : (x : ℕ) → 0 < x → x ≤ w → get_or numbering x 0 ≡ right_number v links x

-- a literal by this table, its sign kept
abbrev pub numbered_by : List ℕ → ℤ → ℤ
numbered_by numbering x = sign_by (non_neg x) (pos (get_or numbering (nat_abs x) 0))

-- ---- the numbers that were kept of a text: literals, and a 0 behind each clause

-- the first `size` of them are of variables whose numbers are below 65,536, and there is room behind `end` for as many
pub record Renumberable (numbering : List ℕ) (others : List ℤ) (size end room : ℕ) : Type 0 where
  pub table : length numbering ≡ 1025
  pub some : size ≤ length others
  pub fits : end + size ≤ room
  pub ranged : (k : ℕ) → k < size → nat_abs (get_or others k (pos 0)) < 1025
  pub small : (k : ℕ) → k < size → get_or numbering (nat_abs (get_or others k (pos 0))) 0 < 65536

-- n clauses of v variables, as a text that fits has them
pub record Kept (v n : ℕ) (numbers : List ℤ) : Type 0 where
  pub few : v ≤ 1024
  pub most : n ≤ 4096
  pub count : length (clauses_in n numbers) ≡ n
  pub size : total (clauses_in n numbers) ≤ 16384
  pub each : InClauses v (clauses_in n numbers)
  pub room : 20480 ≤ length numbers

-- the clauses of two such, the second renumbered
abbrev pub both_in : ℕ → ℕ → List ℕ → ℕ → List ℤ → List ℤ → List (List ℤ)
both_in v n links m numbers others = clauses_in n numbers ++ renumbered_clauses v links (clauses_in m others)

-- the clauses of one such and of a right text
abbrev pub with_right : ℕ → ℕ → List ℤ → List ℕ → List ℕ → List (List ℤ)
with_right v n numbers links right = clauses_in n numbers ++ renumbered_clauses v links (text_clauses right)
