-- The pieces of the header at an offset of the text, by the tests of the code. Assumes nothing.
use mathlib.Core.Path.{◌≡◌, refl, ap, ◌∙◌}
use mathlib.Core.Bool.{Bool, true, false, not}
use mathlib.Core.List.{List, [], ◌∷◌}
use Prim.Native.Nat.{ℕ, suc, ◌+◌, ◌≤◌, ◌<◌, min}
use native.Mathlib.Omega.{arith}
use lib.ListN.{length, take, drop, get_or, length-drop, drop_of_length-le}
use lib.Seq.{drop-cons, drop-drop, length-take-le}
use lib.Dec.{eqb}
use borrow.Author.Tests.{ne_eqb, le-leb}
use Rattle.dimacs.specs.Words.{is_line_byte, is_digit, span, front}
use Rattle.dimacs.specs.Tokens.{decimal}
use Rattle.dimacs.specs.Header.{comments, expect, number, within_limit, got}
use Rattle.state.specs.declared.Refusal.TheVariants.{Grammar}
use Rattle.dimacs.proofs.Runs.{span_le}
use Rattle.std.specs.Prelude.{Err}

-- a byte of a comment line
line_byte : (b : ℕ) (s : List ℕ) (at : ℕ) {t : Bool} → eqb b 10 ≡ t → comments true (b ∷ s) at ≡ comments (not t) s (suc at)
line_byte b s at e = ap (λ (t : Bool). comments (not t) s (suc at)) e

-- the rest of a line, up to its LF or to the text's end
past_line : (s : List ℕ) (at : ℕ) → span is_line_byte s < length s → comments true s at ≡ comments false (drop (suc (span is_line_byte s)) s) (at + suc (span is_line_byte s))
past_line [] at h = absurd (let z : 0 < 0 = h in omega arith)
past_line (b ∷ s) at h = go (eqb b 10) refl (past_line s (suc at)) h
  where
    go : (t : Bool) → eqb b 10 ≡ t
        → (span is_line_byte s < length s → comments true s (suc at) ≡ comments false (drop (suc (span is_line_byte s)) s) (suc at + suc (span is_line_byte s)))
        → span is_line_byte (b ∷ s) < length (b ∷ s)
        → comments true (b ∷ s) at ≡ comments false (drop (suc (span is_line_byte (b ∷ s))) (b ∷ s)) (at + suc (span is_line_byte (b ∷ s)))
    go true e ih h = let q : at + 1 ≡ suc at = omega arith in line_byte b s at e ∙ rw (e, span, q)
    go false e ih h =
        let q : at + suc (suc (span is_line_byte s)) ≡ suc at + suc (span is_line_byte s) = omega arith in
        let l : suc (span is_line_byte s) < suc (length s) = rw (e, span) at h in
        line_byte b s at e ∙ rw (e, span, q) (ih (omega arith))

open_line : (s : List ℕ) (at : ℕ) → length s ≤ span is_line_byte s → comments true s at ≡ Err (Grammar (at + span is_line_byte s))
open_line [] at h = let q : at + 0 ≡ at = omega arith in rw q
open_line (b ∷ s) at h = go (eqb b 10) refl (open_line s (suc at)) h
  where
    go : (t : Bool) → eqb b 10 ≡ t → (length s ≤ span is_line_byte s → comments true s (suc at) ≡ Err (Grammar (suc at + span is_line_byte s)))
        → length (b ∷ s) ≤ span is_line_byte (b ∷ s) → comments true (b ∷ s) at ≡ Err (Grammar (at + span is_line_byte (b ∷ s)))
    go true e ih h = absurd (let l : suc (length s) ≤ 0 = rw (e, span) at h in omega arith)
    go false e ih h =
        let q : at + suc (span is_line_byte s) ≡ suc at + span is_line_byte s = omega arith in
        let l : suc (length s) ≤ suc (span is_line_byte s) = rw (e, span) at h in
        line_byte b s at e ∙ rw (e, span, q) (ih (omega arith))

module _ (s : List ℕ) (i : ℕ) (h : i < length s) where
  comments_begin : get_or s i 0 ≡ 99 → comments false (drop i s) i ≡ comments true (drop i s) i
  comments_begin e = rw (drop-cons s i 0 h, e)

  -- a comment line, whose LF is at `lf` if there is one
  pub comments_line : (lf : ℕ) → get_or s i 0 ≡ 99 → lf ≡ i + span is_line_byte (drop i s) → lf < length s → comments false (drop i s) i ≡ comments false (drop (lf + 1) s) (lf + 1)
  comments_line lf e q l =
      let k : i + suc (span is_line_byte (drop i s)) ≡ lf + 1 = omega arith in
      comments_begin e ∙ past_line (drop i s) i (omega (arith, length-drop i s)) ∙ rw (drop-drop (suc (span is_line_byte (drop i s))) i s, k)

  pub comments_open : (lf : ℕ) → get_or s i 0 ≡ 99 → lf ≡ i + span is_line_byte (drop i s) → length s ≤ lf → comments false (drop i s) i ≡ Err (Grammar lf)
  comments_open lf e q l = comments_begin e ∙ open_line (drop i s) i (omega (arith, length-drop i s)) ∙ rw (← q)

  pub expect_other : (ps : List ℕ) (k : ℕ) → k < length ps → (get_or s i 0 ≡ get_or ps k 0 → ⊥) → expect (drop k ps) (drop i s) i ≡ Err (Grammar i)
  expect_other ps k l n = rw (drop-cons s i 0 h, drop-cons ps k 0 l, ne_eqb _ _ n, expect)

  number_digits : (limit : ℕ) → (get_or s i 0 ≡ 48 → ⊥) → is_digit (get_or s i 0) ≡ true → number limit (drop i s) i ≡ within_limit limit (front is_digit (drop i s)) i
  number_digits limit n e = rw (drop-cons s i 0 h, ne_eqb _ _ n, number, e)

  -- the digits are read up to `next`, and their value is known up to 65,535
  module _ (limit next value : ℕ) (n : get_or s i 0 ≡ 48 → ⊥) (d : is_digit (get_or s i 0) ≡ true) (e : next ≡ i + span is_digit (drop i s))
      (v : value ≡ min (decimal (front is_digit (drop i s))) 65535) (small : limit < 65535) where
    pub number_is : value ≤ limit → number limit (drop i s) i ≡ got value next
    number_is o =
        let k : ℕ = span is_digit (drop i s) in
        let w : decimal (front is_digit (drop i s)) ≡ value = omega (arith, v) in
        let l : i + length (take k (drop i s)) ≡ next = omega (arith, e, length-take-le k (drop i s) (span_le is_digit (drop i s))) in
        number_digits limit n d ∙ rw (le-leb (decimal (front is_digit (drop i s))) limit (omega (arith, w)), within_limit, w, l)

-- past the end
module _ (s : List ℕ) (i : ℕ) (h : length s ≤ i) where
  pub expect_end : (ps : List ℕ) (k : ℕ) → k < length ps → expect (drop k ps) (drop i s) i ≡ Err (Grammar i)
  expect_end ps k l = rw (drop_of_length-le s h, drop-cons ps k 0 l)
