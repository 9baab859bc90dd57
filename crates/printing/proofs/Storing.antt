-- Bytes stored one after another, and the digits of a number as the code makes them. Assumes nothing.
use Prim.Native.Nat.{ℕ, zero, suc, ◌+◌, ◌/◌, ◌%◌, ◌^◌, ◌≤◌, ◌<◌}
use native.Mathlib.Omega.{arith}
use native.Mathlib.Numerals.{add-one}
use native.Mathlib.Nat.{add-zero}
use mathlib.Core.Path.{◌≡◌, refl, sym, ap, subst, ◌∙◌}
use mathlib.Core.Bool.{Bool, true, false}
use mathlib.Core.List.{List, [], ◌∷◌, ◌++◌}
use mathlib.Core.Logic.{⊎_elim}
use lib.ListN.{length, get_or, take, drop, set, length-append, drop_of_length-le}
use lib.Seq.{sets, sets-eq, take_at, drop-cons}
use lib.IntN.{ℤ, pos}
use lib.Dec.{ltb}
use borrow.Author.Tests.{lt-ltb, le-ltb, ltb-false}
use Rattle.base.specs.Decide.{le_or}
use Rattle.dimacs.specs.Header.{p_cnf}
use Rattle.printing.specs.Stored.{Stored, Wrote}
use Rattle.printing.specs.declared.Writer.{Writer}
use Rattle.printing.specs.Printing.{digits_by, digits, literal_text, clause_text, line_text, header_text, refused_word, refused_line}

pub sets_append : (l : List ℕ) (i : ℕ) (xs ys : List ℕ) → sets l i (xs ++ ys) ≡ sets (sets l i xs) (i + length xs) ys
sets_append l i [] ys = rw (add-zero i)
sets_append l i (x ∷ xs) ys =
    let e : suc i + length xs ≡ i + suc (length xs) = omega arith in
    sets_append (set l i x) (suc i) xs ys ∙ ap (λ (k : ℕ). sets (sets (set l i x) (suc i) xs) k ys) e

-- enough fuel is enough
digits_fuel : (f g n : ℕ) → n ≤ f → n ≤ g → digits_by f n ≡ digits_by g n
digits_fuel zero zero n h k = refl
digits_fuel zero (suc g) n h k = let e : n ≡ 0 = omega arith in rw e
digits_fuel (suc f) zero n h k = let e : n ≡ 0 = omega arith in rw e
digits_fuel (suc f) (suc g) n h k = go (ltb n 10) refl (digits_fuel f g (n / 10))
  where
    go : (t : Bool) → ltb n 10 ≡ t → (n / 10 ≤ f → n / 10 ≤ g → digits_by f (n / 10) ≡ digits_by g (n / 10)) → digits_by (suc f) n ≡ digits_by (suc g) n
    go true t ih = rw (t, digits_by)
    go false t ih =
        let m : 10 ≤ n = ltb-false n 10 t in
        rw (t, digits_by) (ap (λ (ds : List ℕ). ds ++ ((48 + n % 10) ∷ [])) (ih (omega arith) (omega arith)))

pub digits_small : (n : ℕ) → n < 10 → digits n ≡ (48 + n) ∷ []
unfolding digits
digits_small n h = digits_fuel n (suc n) n (omega arith) (omega arith) ∙ rw (lt-ltb n 10 h, digits_by)

pub digits_more : (n : ℕ) → 10 ≤ n → digits n ≡ digits (n / 10) ++ ((48 + n % 10) ∷ [])
unfolding digits
digits_more n h =
    digits_fuel n (suc n) n (omega arith) (omega arith)
    ∙ rw (le-ltb n 10 h, digits_by) (ap (λ (ds : List ℕ). ds ++ ((48 + n % 10) ∷ [])) (digits_fuel n (n / 10) (n / 10) (omega arith) (omega arith)))

-- the last digit behind the others
pub digits_length : (n : ℕ) → 10 ≤ n → length (digits n) ≡ length (digits (n / 10)) + 1
digits_length n h = ap length (digits_more n h) ∙ length-append (digits (n / 10)) ((48 + n % 10) ∷ [])

-- ---- one piece behind another
pub stored_then : {a b : List ℕ} {at p r : ℕ} {o o₁ o₂ : List ℕ} → Stored a at o o₁ p → Stored b p o₁ o₂ r → Stored (a ++ b) at o o₂ r
stored_then {a} {b} {at} {p} {r} {o} {o₁} {o₂} s t = record {
  next = omega (arith, s.next, t.next, length-append a b);
  stored = t.stored ∙ (λ i. sets (s.stored i) (s.next i) b) ∙ sym (sets_append o at a b);
}

pub wrote_then : {a b : List ℕ} {w v u : Writer} → Wrote a w v → Wrote b v u → Wrote (a ++ b) w u
wrote_then s t = record { bytes_stored = stored_then s.bytes_stored t.bytes_stored; same_reference = t.same_reference ∙ s.same_reference }

-- the last digit behind the others
pub one_digit : {at : ℕ} {o o₁ : List ℕ} (n : ℕ) → n < 10 → o₁ ≡ set o at (48 + n) → Stored (digits n) at o o₁ (at + 1)
one_digit {at} {o} {o₁} n h e = subst (λ (bytes : List ℕ). Stored bytes at o o₁ (at + 1)) (sym (digits_small n h)) (record { next = refl; stored = e })

pub more_digits : {at p : ℕ} {o o₁ o₂ : List ℕ} (n : ℕ) → 10 ≤ n → Stored (digits (n / 10)) at o o₁ p → o₂ ≡ set o₁ p (48 + n % 10) → Stored (digits n) at o o₂ (p + 1)
more_digits {at} {p} {o} {o₁} {o₂} n h s e = subst (λ (bytes : List ℕ). Stored bytes at o o₂ (p + 1)) (sym (digits_more n h)) (stored_then s (record { next = refl; stored = e }))

-- equal bytes
pub wrote_as : {a b : List ℕ} {w v : Writer} → Wrote a w v → b ≡ a → Wrote b w v
wrote_as {a} {b} {w} {v} s e = subst (λ (bytes : List ℕ). Wrote bytes w v) (sym e) s

-- what a writer at the front wrote is stored in the output that it leaves
pub stored_anew : {bytes out out' : List ℕ} {w v : Writer} → w.at ≡ 0 → w.out.now ≡ out → Wrote bytes w v → out' ≡ v.out.now → Stored bytes 0 out out' v.at
stored_anew {bytes} a o s e = record {
  next = s.bytes_stored.next ∙ ap (λ (k : ℕ). k + length bytes) a;
  stored = e ∙ s.bytes_stored.stored ∙ (λ i. sets (o i) (a i) bytes);
}

-- the writer w₀ is to write the whole, and at w the rest is still to be written
pub record Remains (rest whole : List ℕ) (w₀ w : Writer) : Type 0 where
  pub left : sets w.out.now w.at rest ≡ sets w₀.out.now w₀.at whole
  pub size : w.at + length rest ≡ w₀.at + length whole
  pub same_reference : w.out.ghost_name ≡ w₀.out.ghost_name

pub remains_as : {a b whole : List ℕ} {w₀ w : Writer} → Remains a whole w₀ w → a ≡ b → Remains b whole w₀ w
remains_as {a} {b} {whole} {w₀} {w} R e = subst (λ (rest : List ℕ). Remains rest whole w₀ w) e R

pub remains_then : {a rest whole : List ℕ} {w₀ w v : Writer} → Remains (a ++ rest) whole w₀ w → Wrote a w v → Remains rest whole w₀ v
remains_then {a} {rest} {whole} {w₀} {w} {v} R s = record {
  left = (λ i. sets (s.bytes_stored.stored i) (s.bytes_stored.next i) rest) ∙ sym (sets_append w.out.now w.at a rest) ∙ R.left;
  size = omega (arith, s.bytes_stored.next, R.size, length-append a rest);
  same_reference = s.same_reference ∙ R.same_reference;
}

pub remains_none : {whole : List ℕ} {w₀ w : Writer} → Remains [] whole w₀ w → Wrote whole w₀ w
remains_none R = record { bytes_stored = record { next = omega (arith, R.size); stored = R.left }; same_reference = R.same_reference }

-- the next piece ends before the whole does
pub remains_room : (a rest : List ℕ) {whole : List ℕ} {w₀ w : Writer} → Remains (a ++ rest) whole w₀ w → w₀.at + length whole < 2 ^ 63 → w.at + length a + length rest < 2 ^ 63
remains_room a rest R k = omega (arith, R.size, length-append a rest)

-- ---- the loop over a clause's literals
clause_cons : (clause : List ℤ) (i : ℕ) → i < length clause → clause_text (drop i clause) ≡ literal_text (get_or clause i (pos 0)) ++ (32 ∷ clause_text (drop (i + 1) clause))
unfolding clause_text
clause_cons clause i h = rw (drop-cons clause i (pos 0) h, add-one i)

module _ (clause : List ℤ) (i : ℕ) {w₀ w : Writer} (R : Remains (clause_text (drop i clause)) (clause_text clause) w₀ w) where
  -- a literal, and its space
  clause_next : i < length clause → Remains (literal_text (get_or clause i (pos 0)) ++ (32 ∷ clause_text (drop (i + 1) clause))) (clause_text clause) w₀ w
  clause_next h = remains_as R (clause_cons clause i h)

  pub clause_room : i < length clause → w₀.at + length (clause_text clause) < 2 ^ 63 → w.at + length (literal_text (get_or clause i (pos 0))) + 1 < 2 ^ 63
  clause_room h k = omega (arith, remains_room (literal_text (get_or clause i (pos 0))) (32 ∷ clause_text (drop (i + 1) clause)) (clause_next h) k)

  pub clause_step : {v u : Writer} → i < length clause → Wrote (literal_text (get_or clause i (pos 0))) w v → Wrote (32 ∷ []) v u → Remains (clause_text (drop (i + 1) clause)) (clause_text clause) w₀ u
  clause_step h s t = remains_then (remains_then (clause_next h) s) t

  -- `0` and LF
  clause_last : length clause ≤ i → Remains (48 ∷ 10 ∷ []) (clause_text clause) w₀ w
  unfolding clause_text
  clause_last h = remains_as R (ap clause_text (drop_of_length-le clause h))

  pub clause_room_end : length clause ≤ i → w₀.at + length (clause_text clause) < 2 ^ 63 → w.at + 1 < 2 ^ 63
  clause_room_end h k = omega (arith, (clause_last h).size)

  pub clause_end : {v u : Writer} → length clause ≤ i → Wrote (48 ∷ []) w v → Wrote (10 ∷ []) v u → Wrote (clause_text clause) w₀ u
  clause_end h s t = remains_none (remains_then (remains_then (clause_last h) s) t)

-- ---- on an empty output nothing is stored
pub sets_nil : (i : ℕ) (xs : List ℕ) → sets [] i xs ≡ []
sets_nil i [] = refl
sets_nil i (x ∷ xs) = sets_nil (suc i) xs

pub line_length : (word : List ℕ) (a b : ℕ) → length (line_text word a b) ≡ length word + length (digits a) + 1 + length (digits b) + 1
line_length word a b =
    omega (arith, length-append word (digits a ++ (32 ∷ (digits b ++ (10 ∷ [])))), length-append (digits a) (32 ∷ (digits b ++ (10 ∷ []))), length-append (digits b) (10 ∷ []))

pub header_length : (v n : ℕ) → length (header_text v n) ≡ 6 + length (digits v) + 1 + length (digits n) + 1
header_length v n = line_length p_cnf v n

-- a number below 10, 100, 1,000, .. has at most 1, 2, 3, .. digits
pub digits_within : (k n : ℕ) → n < 10 ^ suc k → length (digits n) ≤ suc k
digits_within zero n h = omega (arith, ap length (digits_small n (omega arith)))
digits_within (suc k) n h = ⊎_elim
    (λ (m : 10 ≤ n). let q : n / 10 < 10 ^ suc k = omega arith in omega (arith, digits_length n m, digits_within k (n / 10) q))
    (λ (m : n < 10). omega (arith, ap length (digits_small n m)))
    (le_or 10 n)

-- a line of two numbers below 2^64 is short
pub refusal_short : (number place : ℕ) → number < 2 ^ 64 → place < 2 ^ 64 → length (refused_line number place) ≤ 50
refusal_short number place h k = omega (arith, line_length refused_word number place, digits_within 19 number (omega arith), digits_within 19 place (omega arith))

-- what was stored from the front on is the front
pub stored_front : {bytes out out' : List ℕ} {r : ℕ} → Stored bytes 0 out out' r → length bytes ≤ length out → (r ≡ length bytes) × (take r out' ≡ bytes)
stored_front {bytes} {out} {out'} {r} S h =
    let e : r ≡ length bytes = omega (arith, S.next) in
    (e, ap (λ (k : ℕ). take k out') e ∙ ap (take (length bytes)) (S.stored ∙ sets-eq bytes out 0 (omega arith)) ∙ take_at bytes (drop (0 + length bytes) out) (length bytes) refl)
