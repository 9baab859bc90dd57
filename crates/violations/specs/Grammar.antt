-- The violations of the comment lines and the header, from the header's grammar as the texts that it allows: nothing here reads a text from left to right.
-- A number above its limit breaks no grammar: it is a violation of its own, whatever follows it.
-- Quoted are document 01's section "Text" and the conditions of refusals 2 and 3. Assumes nothing: these are definitions.
use Rattle.std.specs.Prelude.{ℕ, suc, ◌+◌, ◌≤◌, ◌<◌, ◌≡◌, true, false, List, [], ◌∷◌, ◌++◌, ◌⊎◌, length, take, drop}
use Rattle.dimacs.specs.Words.{is_digit}
use Rattle.dimacs.specs.Tokens.{decimal}
use Rattle.dimacs.specs.Header.{p_cnf}

-- "of any bytes": all but the LF that ends the line
unfoldable pub Line : List ℕ → Type 0
Line [] = Unit
Line (b ∷ bs) = (b ≡ 10 → ⊥) × Line bs

unfoldable pub EachLine : List (List ℕ) → Type 0
EachLine [] = Unit
EachLine (l ∷ ls) = Line l × EachLine ls

-- "Lines beginning `c`": c, the line and LF each, before what follows
unfoldable pub commented : List (List ℕ) → List ℕ → List ℕ
commented [] rest = rest
commented (l ∷ ls) rest = 99 ∷ (l ++ (10 ∷ commented ls rest))

unfoldable pub Digits : List ℕ → Type 0
Digits [] = Unit
Digits (d ∷ ds) = (is_digit d ≡ true) × Digits ds

-- "without sign or leading zero": `0`, or digits of which the first is not 0
unfoldable pub Numeral : List ℕ → Type 0
Numeral [] = ⊥
Numeral (d ∷ ds) = ((d ≡ 48) × (ds ≡ [])) ⊎ ((d ≡ 48 → ⊥) × Digits (d ∷ ds))

-- "ended by LF or the text's end"
unfoldable pub EndsLine : List ℕ → Type 0
EndsLine [] = Unit
EndsLine (b ∷ s) = b ≡ 10

-- "Lines beginning `c`, of any bytes, only before the header; then `p cnf V N`, single spaces, V and N without sign or leading zero, ended by LF or the text's end."
pub record RightHeader (text : List ℕ) : Type 0 where
  pub lines : List (List ℕ)
  pub lined : EachLine lines
  pub v : List ℕ
  pub numeral_v : Numeral v
  pub n : List ℕ
  pub numeral_n : Numeral n
  pub rest : List ℕ
  pub ended : EndsLine rest
  pub written : text ≡ commented lines (p_cnf ++ (v ++ (32 ∷ (n ++ rest))))

-- the header is right and within the limits, V is v and N is n, and what follows its LF begins at the offset `body`
pub record Headed (text : List ℕ) (v n body : ℕ) : Type 0 where
  pub right : RightHeader text
  pub is_v : decimal right.v ≡ v
  pub limit_v : v ≤ 1024
  pub is_n : decimal right.n ≡ n
  pub limit_n : n ≤ 4096
  pub place : body + length (drop 1 right.rest) ≡ length text

-- s begins a right text
abbrev pub Begins : (List ℕ → Type 0) → List ℕ → Type 0
Begins Right s = (t : List ℕ) × Right (s ++ t)

-- "the first wrong byte": what stands before it begins a right text, and with that byte it begins none;
-- "text length": the whole text begins a right one, and is none itself
pub data FirstWrong (Right : List ℕ → Type 0) (text : List ℕ) : ℕ → Type 0 where
  at_byte : (i : ℕ) → i < length text → Begins Right (take i text) → (Begins Right (take (suc i) text) → ⊥) → FirstWrong Right text i
  cut_off : Begins Right text → (Right text → ⊥) → FirstWrong Right text (length text)

-- the bytes behind a number: no digit, so its digits are all there
unfoldable pub NoDigit : List ℕ → Type 0
NoDigit [] = Unit
NoDigit (b ∷ s) = is_digit b ≡ false

-- V in its place, with the digits ds, the first of which has this offset, whatever follows them
pub record VStands (text ds : List ℕ) (offset : ℕ) : Type 0 where
  pub lines : List (List ℕ)
  pub lined : EachLine lines
  pub numeral : Numeral ds
  pub rest : List ℕ
  pub whole : NoDigit rest
  pub written : text ≡ commented lines (p_cnf ++ (ds ++ rest))
  pub place : offset ≡ length (commented lines p_cnf)

-- the same for N
pub record NStands (text ds : List ℕ) (offset : ℕ) : Type 0 where
  pub lines : List (List ℕ)
  pub lined : EachLine lines
  pub v : List ℕ
  pub numeral_v : Numeral v
  pub numeral : Numeral ds
  pub rest : List ℕ
  pub whole : NoDigit rest
  pub written : text ≡ commented lines (p_cnf ++ (v ++ (32 ∷ (ds ++ rest))))
  pub place : offset ≡ length (commented lines (p_cnf ++ (v ++ (32 ∷ []))))

-- the violations of the header, by number and offset
pub data HeaderViolation (text : List ℕ) : ℕ → ℕ → Type 0 where
  -- 2: "in the header the first wrong byte; text length for an unfinished .. header"
  wrong_byte : (offset : ℕ) → FirstWrong RightHeader text offset → HeaderViolation text 2 offset
  -- 3: "V .. its token": V is at most 1,024
  large_v : (ds : List ℕ) (offset : ℕ) → VStands text ds offset → 1024 < decimal ds → HeaderViolation text 3 offset
  -- 3: "N .. its token": N is at most 4,096
  large_n : (ds : List ℕ) (offset : ℕ) → NStands text ds offset → 4096 < decimal ds → HeaderViolation text 3 offset
