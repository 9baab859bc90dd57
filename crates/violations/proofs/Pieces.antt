-- The violations of the comment lines and the header by the pieces of crate `dimacs`, each at its offset; a number above its limit does not end the reading. Assumes nothing.
use Prim.Native.Nat.{ℕ, ◌+◌, ◌<◌}
use mathlib.Core.Path.{◌≡◌}
use mathlib.Core.Bool.{true, false}
use mathlib.Core.List.{List, [], ◌∷◌}
use lib.ListN.{length, take, drop}
use lib.Dec.{eqb}
use Rattle.dimacs.specs.Words.{is_digit, span}
use Rattle.dimacs.specs.Tokens.{decimal}
use Rattle.dimacs.specs.Header.{comments, expect, line_end, p_cnf}
use Rattle.state.specs.declared.Refusal.TheVariants.{Grammar}
use Rattle.std.specs.Prelude.{Ok, Err}

-- the digits of the number at the front: `0`, which is whole by itself, or a run of digits; none where there is no number
abbrev pub numeral_of : List ℕ → List ℕ
numeral_of [] = []
numeral_of (b ∷ s) = elim (eqb b 48) [ true ↦ b ∷ [] | false ↦ take (span is_digit (b ∷ s)) (b ∷ s) ]

-- the digits of the number at an offset
abbrev pub digits_at : List ℕ → ℕ → List ℕ
digits_at text at = numeral_of (drop at text)

-- the first byte behind them
abbrev pub behind : List ℕ → ℕ → ℕ
behind text at = at + length (digits_at text at)

-- of N, which begins at the offset `at`, and what follows
pub data NViolation (text : List ℕ) (at : ℕ) : ℕ → ℕ → Type 0 where
  -- 2: "in the header the first wrong byte": no digit
  no_n : digits_at text at ≡ [] → NViolation text at 2 at
  -- 3: "N .. its token"
  large_n : 4096 < decimal (digits_at text at) → NViolation text at 3 at
  -- 2: "in the header the first wrong byte": behind N neither an LF nor the text's end
  no_end : (offset : ℕ) → 0 < length (digits_at text at) → line_end (drop (behind text at) text) (behind text at) ≡ Err (Grammar offset) → NViolation text at 2 offset

-- of V, which begins at the offset `at`, and what follows
pub data VViolation (text : List ℕ) (at : ℕ) : ℕ → ℕ → Type 0 where
  -- 2: "in the header the first wrong byte": no digit
  no_v : digits_at text at ≡ [] → VViolation text at 2 at
  -- 3: "V .. its token"
  large_v : 1024 < decimal (digits_at text at) → VViolation text at 3 at
  -- 2: "in the header the first wrong byte": behind V no space
  no_space : (offset : ℕ) → 0 < length (digits_at text at) → expect (32 ∷ []) (drop (behind text at) text) (behind text at) ≡ Err (Grammar offset)
      → VViolation text at 2 offset
  -- behind V and a space, those of N
  of_n : (number offset next : ℕ) → 0 < length (digits_at text at) → expect (32 ∷ []) (drop (behind text at) text) (behind text at) ≡ Ok next → NViolation text next number offset
      → VViolation text at number offset

pub data PieceViolation (text : List ℕ) : ℕ → ℕ → Type 0 where
  -- 2: "text length for an unfinished .. header": the text ends inside a comment line
  in_comment : (offset : ℕ) → comments false text 0 ≡ Err (Grammar offset) → PieceViolation text 2 offset
  -- 2: "in the header the first wrong byte": of `p cnf ` behind the comment lines
  no_start : (line offset : ℕ) → comments false text 0 ≡ Ok line → expect p_cnf (drop line text) line ≡ Err (Grammar offset) → PieceViolation text 2 offset
  -- behind `p cnf `, those of V
  of_v : (line at number offset : ℕ) → comments false text 0 ≡ Ok line → expect p_cnf (drop line text) line ≡ Ok at → VViolation text at number offset → PieceViolation text number offset
