-- Document 02, CR 11: "a link table of pairs, left variable and right variable. Unlinked right variables take the numbers after the left's, in their order. .. it refuses with 15 the first link with a variable out of range or used before on its side".
-- The table is a list of numbers, two for each pair. A place behind its end reads as 0, which is no variable: so a number left over is a pair without a right variable. Assumes nothing: these are definitions.
use Rattle.std.specs.Prelude.{ℕ, zero, suc, ◌+◌, ◌*◌, ◌/◌, Bool, true, false, ◌||◌, List, map, length, get_or, ltb, eqb, ℤ, pos, nat_abs}
use Rattle.std.specs.Int.Signed.{non_neg}
use Rattle.base.specs.Lists.{first, any_below}
use Rattle.literal.specs.Literals.{sign_by}

-- ---- the pairs

abbrev pub pair_count : List ℕ → ℕ
pair_count links = (length links + 1) / 2

-- the variables of pair i
abbrev pub left_of : List ℕ → ℕ → ℕ
left_of links i = get_or links (2 * i) 0

abbrev pub right_of : List ℕ → ℕ → ℕ
right_of links i = get_or links (2 * i + 1) 0

-- x is none of 1 to v
abbrev pub outside : ℕ → ℕ → Bool
outside v x = eqb x 0 || ltb v x

-- the variable of pair i is out of range, or used before, on one side
abbrev pub bad_side : ℕ → (ℕ → ℕ) → ℕ → Bool
bad_side v side i = outside v (side i) || any_below i (λ j. eqb (side j) (side i))

-- with v variables on the left and w on the right
abbrev pub bad_link : ℕ → ℕ → List ℕ → ℕ → Bool
bad_link v w links i = bad_side v (left_of links) i || bad_side w (right_of links) i

-- the first such pair; the number of pairs if there is none
unfoldable pub first_bad : ℕ → ℕ → List ℕ → ℕ
first_bad v w links = first (bad_link v w links) (pair_count links) 0

-- ---- the numbers of the right variables

-- the left variable that k pairs link the right variable x to; 0 if none does
unfoldable pub link_in : List ℕ → ℕ → ℕ → ℕ
link_in links zero x = 0
link_in links (suc k) x = elim (eqb (right_of links k) x) [ true ↦ left_of links k | false ↦ link_in links k x ]

abbrev pub link_of : List ℕ → ℕ → ℕ
link_of links x = link_in links (pair_count links) x

-- how many of the right variables 1 to x are not linked
unfoldable pub unlinked : List ℕ → ℕ → ℕ
unlinked links zero = 0
unlinked links (suc x) = elim (link_of links (suc x)) [ zero ↦ suc (unlinked links x) | suc _ ↦ unlinked links x ]

-- the right variable x in a join with v left variables
unfoldable pub right_number : ℕ → List ℕ → ℕ → ℕ
right_number v links x = elim (link_of links x) [ zero ↦ v + unlinked links x | suc l ↦ suc l ]

-- the variables of a join: the left ones, and those of the right that are not linked
abbrev pub joined_variables : ℕ → ℕ → List ℕ → ℕ
joined_variables v w links = v + unlinked links w

-- ---- the right clauses

-- a literal's variable renumbered, its sign kept
unfoldable pub renumbered : ℕ → List ℕ → ℤ → ℤ
renumbered v links l = sign_by (non_neg l) (pos (right_number v links (nat_abs l)))

abbrev pub renumbered_clauses : ℕ → List ℕ → List (List ℤ) → List (List ℤ)
renumbered_clauses v links cs = map (map (renumbered v links)) cs
