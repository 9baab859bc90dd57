-- The token of a word, by the tests of the code: a minus sign or none, digits, and whether the word ends behind them. Assumes nothing.
use mathlib.Core.Path.{◌≡◌, refl, sym, ap, ◌∙◌}
use mathlib.Core.Bool.{Bool, true, false, ◌&&◌, false≢true}
use mathlib.Core.List.{List, [], ◌∷◌}
use Prim.Native.Nat.{ℕ, suc, ◌+◌, ◌-◌, ◌≤◌, ◌<◌, min}
use native.Mathlib.Omega.{arith}
use native.Mathlib.Numerals.{add-one}
use native.Mathlib.Nat.{add-zero}
use lib.ListN.{length, take, drop, get_or}
use lib.Seq.{drop-cons, drop-drop, get_or-drop, get_or-take, length-take-le}
use lib.Dec.{eqb, leb}
use borrow.Author.Tests.{eq-eqb, ne_eqb, eqb-true, eqb-false, leb-true}
use Rattle.dimacs.specs.Words.{is_word_byte, is_digit, span, front}
use Rattle.dimacs.specs.Tokens.{bad, literal, numeral, unsigned, meaning, decimal, token_by}
use Rattle.dimacs.specs.declared.Token.{Token}
use Rattle.dimacs.specs.declared.Token.TheVariants.{Literal, Bad}
use Rattle.dimacs.proofs.Runs.{span_le}
use Rattle.dimacs.proofs.Scan.{word_end}

-- ---- what a word means behind a minus sign or with none in front of it
pick : (a b : Bool) → (a ≡ true → b ≡ true → ⊥) → (a && b) ≡ false
pick true true h = absurd (h refl refl)
pick true false h = refl
pick false b h = refl

module _ (negative : Bool) where
  -- a byte that is no digit
  numeral_not : (w : List ℕ) → (span is_digit w ≡ length w → ⊥) → numeral negative w ≡ bad
  numeral_not [] n = refl
  numeral_not (d ∷ ds) n = go (eqb d 48) refl
    where
      go : (t : Bool) → eqb d 48 ≡ t → numeral negative (d ∷ ds) ≡ bad
      go true e = rw (e, numeral)
      go false e = rw (e, numeral, ne_eqb (span is_digit (d ∷ ds)) (length (d ∷ ds)) n)

  numeral_is : (w : List ℕ) → 0 < length w → (get_or w 0 0 ≡ 48 → ⊥) → span is_digit w ≡ length w → numeral negative w ≡ literal negative (decimal w)
  numeral_is [] h n e = absurd (let z : 0 < 0 = h in omega arith)
  numeral_is (d ∷ ds) h n e = rw (ne_eqb d 48 n, numeral, eq-eqb (span is_digit (d ∷ ds)) (length (d ∷ ds)) e)

  numeral_nought : (w : List ℕ) → get_or w 0 0 ≡ 48 → numeral negative w ≡ bad
  numeral_nought [] e = refl
  numeral_nought (d ∷ ds) e = rw (eq-eqb d 48 e, numeral)

-- no sign, and not `0`
unsigned_plain : (w : List ℕ) → (get_or w 0 0 ≡ 48 → length w ≡ 1 → ⊥) → unsigned false w ≡ numeral false w
unsigned_plain [] n = refl
unsigned_plain (d ∷ ds) n = rw (pick (eqb d 48) (eqb (length ds) 0) (λ a b. n (eqb-true _ _ a) (ap suc (eqb-true _ _ b))), unsigned)

-- `0` has no byte that is no digit
nought_digits : (w : List ℕ) → get_or w 0 0 ≡ 48 → length w ≡ 1 → span is_digit w ≡ length w
nought_digits [] e l = refl
nought_digits (d ∷ []) e l = rw (e, span)
nought_digits (d ∷ b ∷ w) e l = absurd (omega (arith, l))

unsigned_not : (negative : Bool) (w : List ℕ) → (span is_digit w ≡ length w → ⊥) → unsigned negative w ≡ bad
unsigned_not true w n = numeral_not true w n
unsigned_not false w n = unsigned_plain w (λ e l. n (nought_digits w e l)) ∙ numeral_not false w n

pub unsigned_is : (negative : Bool) (w : List ℕ) → 0 < length w → (get_or w 0 0 ≡ 48 → ⊥) → span is_digit w ≡ length w → unsigned negative w ≡ literal negative (decimal w)
unsigned_is true w h n e = numeral_is true w h n e
unsigned_is false w h n e = unsigned_plain w (λ z _. n z) ∙ numeral_is false w h n e

-- no digit at the front
unsigned_bare : (negative : Bool) (w : List ℕ) → span is_digit w ≡ 0 → unsigned negative w ≡ bad
unsigned_bare true [] e = refl
unsigned_bare false [] e = refl
unsigned_bare negative (d ∷ ds) e = unsigned_not negative (d ∷ ds) (λ q. omega (arith, e, q))

-- ---- digits are no separators
pub digit_word : (b : ℕ) → is_digit b ≡ true → is_word_byte b ≡ true
digit_word b e = go (leb 48 b) refl
  where
    go : (t : Bool) → leb 48 b ≡ t → is_word_byte b ≡ true
    go true q =
        let l : 48 ≤ b = leb-true 48 b q in
        rw (ne_eqb b 32 (λ z. omega arith), ne_eqb b 9 (λ z. omega arith), ne_eqb b 13 (λ z. omega arith), ne_eqb b 10 (λ z. omega arith))
    go false q = absurd (false≢true (rw q at e))

-- a word is the digits at its front and what follows them
word_digits : (t : List ℕ) → span is_word_byte t ≡ span is_digit t + span is_word_byte (drop (span is_digit t) t)
word_digits [] = refl
word_digits (b ∷ t) = go (is_digit b) refl (word_digits t)
  where
    go : (u : Bool) → is_digit b ≡ u → span is_word_byte t ≡ span is_digit t + span is_word_byte (drop (span is_digit t) t)
        → span is_word_byte (b ∷ t) ≡ span is_digit (b ∷ t) + span is_word_byte (drop (span is_digit (b ∷ t)) (b ∷ t))
    go true e ih = rw (e, span, digit_word b e) (omega arith)
    go false e ih = rw (e, span) (omega arith)

-- a run of digits at a text's front is one of the word there
front_digits : (t : List ℕ) → span is_digit (front is_word_byte t) ≡ span is_digit t
front_digits [] = refl
front_digits (b ∷ t) = go (is_digit b) refl (is_word_byte b) refl (front_digits t)
  where
    go : (u : Bool) → is_digit b ≡ u → (v : Bool) → is_word_byte b ≡ v → span is_digit (front is_word_byte t) ≡ span is_digit t → span is_digit (front is_word_byte (b ∷ t)) ≡ span is_digit (b ∷ t)
    go true e true f ih = rw (f, span, e) (ap suc ih)
    go true e false f ih = absurd (false≢true (sym f ∙ digit_word b e))
    go false e true f ih = rw (f, span, e)
    go false e false f ih = rw (f, span, e)

-- ---- the token from an offset on, behind a sign or none
abbrev pub numeral_at : List ℕ → ℕ → Bool → ℕ → Token
numeral_at text at negative start = token_by (unsigned negative (front is_word_byte (drop at text))) start (at + span is_word_byte (drop at text))

module _ (text : List ℕ) (at : ℕ) (negative : Bool) (start : ℕ) where
  -- the digits are read up to `next`, and their value is known up to 65,535
  module _ (value next : ℕ) (v : value ≡ min (decimal (front is_digit (drop at text))) 65535) (e : next ≡ at + span is_digit (drop at text)) where
    behind : span is_word_byte (drop at text) ≡ span is_digit (drop at text) + span is_word_byte (drop next text)
    behind = word_digits (drop at text) ∙ rw (drop-drop (span is_digit (drop at text)) at text, ← e)

    size : length (front is_word_byte (drop at text)) ≡ span is_word_byte (drop at text)
    size = length-take-le (span is_word_byte (drop at text)) (drop at text) (span_le is_word_byte (drop at text))

    pub numeral_bare : next ≡ at → numeral_at text at negative start ≡ Bad start
    numeral_bare z = rw (unsigned_bare negative (front is_word_byte (drop at text)) (omega (arith, front_digits (drop at text))))

    pub numeral_longer : eqb (span is_word_byte (drop next text)) 0 ≡ false → numeral_at text at negative start ≡ Bad start
    numeral_longer f =
        rw (unsigned_not negative (front is_word_byte (drop at text)) (λ q. eqb-false (span is_word_byte (drop next text)) 0 f (omega (arith, size, front_digits (drop at text), behind))))

    -- there are some, and the word ends behind them
    module _ (some : next ≡ at → ⊥) (f : eqb (span is_word_byte (drop next text)) 0 ≡ true) where
      same : span is_word_byte (drop at text) ≡ span is_digit (drop at text)
      same = omega (arith, behind, eqb-true (span is_word_byte (drop next text)) 0 f)

      next_is : at + span is_word_byte (drop at text) ≡ next
      next_is = omega (arith, same)

      first : get_or (front is_word_byte (drop at text)) 0 0 ≡ get_or text at 0
      first =
          get_or-take (span is_word_byte (drop at text)) (drop at text) 0 0 (omega (arith, same, some))
          ∙ get_or-drop at text 0 0
          ∙ ap (λ (i : ℕ). get_or text i 0) (add-zero at)

      pub numeral_literal : (get_or text at 0 ≡ 48 → ⊥) → numeral_at text at negative start ≡ Literal negative value start next
      numeral_literal n =
          let w : List ℕ = front is_word_byte (drop at text) in
          let ds : w ≡ front is_digit (drop at text) = ap (λ (k : ℕ). take k (drop at text)) same in
          let m : min (decimal w) 65535 ≡ value = ap (λ (l : List ℕ). min (decimal l) 65535) ds ∙ sym v in
          rw (unsigned_is negative w (omega (arith, size, same, some)) (λ z. n (sym first ∙ z)) (front_digits (drop at text) ∙ sym same ∙ sym size), m, next_is)

      pub numeral_minus : negative ≡ true → get_or text at 0 ≡ 48 → numeral_at text at negative start ≡ Bad start
      numeral_minus b z = rw (b, numeral_nought true (front is_word_byte (drop at text)) (first ∙ z))

      pub numeral_leading : negative ≡ false → get_or text at 0 ≡ 48 → (next ≡ at + 1 → ⊥) → numeral_at text at negative start ≡ Bad start
      numeral_leading b z n =
          let w : List ℕ = front is_word_byte (drop at text) in
          rw (b, unsigned_plain w (λ q l. n (omega (arith, size, same))), numeral_nought false w (first ∙ z))

-- ---- a word by its first byte: a minus sign, or none
pub meaning_plain : (w : List ℕ) → (get_or w 0 0 ≡ 45 → ⊥) → meaning w ≡ unsigned false w
meaning_plain [] n = refl
meaning_plain (b ∷ bs) n = rw (ne_eqb b 45 n, meaning)

front_plain : (b : ℕ) (s : List ℕ) → (b ≡ 45 → ⊥) → meaning (front is_word_byte (b ∷ s)) ≡ unsigned false (front is_word_byte (b ∷ s))
front_plain b s n = go (is_word_byte b) refl
  where
    go : (t : Bool) → is_word_byte b ≡ t → meaning (front is_word_byte (b ∷ s)) ≡ unsigned false (front is_word_byte (b ∷ s))
    go true e = rw (e, span) (meaning_plain (b ∷ front is_word_byte s) n)
    go false e = rw (e, span)

module _ (text : List ℕ) (start : ℕ) (h : start < length text) where
  pub token_minus : get_or text start 0 ≡ 45 → token_by (meaning (take (word_end text start - start) (drop start text))) start (word_end text start) ≡ numeral_at text (start + 1) true start
  token_minus e =
      let k : word_end text start - start ≡ span is_word_byte (drop start text) = omega arith in
      let l : start + suc (span is_word_byte (drop (suc start) text)) ≡ suc start + span is_word_byte (drop (suc start) text) = omega arith in
      rw (k, add-one start, drop-cons text start 0 h, e, l)

  pub token_plain : (get_or text start 0 ≡ 45 → ⊥) → token_by (meaning (take (word_end text start - start) (drop start text))) start (word_end text start) ≡ numeral_at text start false start
  token_plain n =
      let k : word_end text start - start ≡ span is_word_byte (drop start text) = omega arith in
      rw (k, drop-cons text start 0 h, front_plain (get_or text start 0) (drop (suc start) text) n)
