-- The clauses that Write gives, by index; and a loop over them that stores or counts: what is left from record i on gives what the whole gives. Assumes nothing.
use Prim.Native.Nat.{ℕ, zero, suc, ◌+◌, ◌*◌, ◌-◌, ◌^◌, ◌≤◌, ◌<◌}
use native.Mathlib.Omega.{arith}
use native.Mathlib.Numerals.{add-one}
use mathlib.Core.Path.{◌≡◌, refl, sym, ap, ◌∙◌, subst}
use mathlib.Core.Bool.{Bool, true, false}
use mathlib.Core.List.{List, [], ◌∷◌, ◌++◌, append_assoc}
use lib.ListN.{length, take, drop, length-append}
use lib.Seq.{drop-cons}
use lib.IntN.{ℤ, pos, neg_ℤ, nat_abs}
use lib.Signed.{non_neg}
use Rattle.literal.specs.Literals.{eq_z, lit_by}
use Rattle.tables.specs.Tables.{start_of, length_of, standing, class_of, value_of}
use Rattle.printing.specs.Printing.{clause_text, clauses_text, header_text, text_of}
use Rattle.printing.specs.Stored.{Wrote}
use Rattle.printing.specs.declared.Writer.{Writer}
use Rattle.printing.proofs.Storing.{Remains, remains_as, remains_then, remains_none, remains_room, wrote_as}
use Rattle.write.specs.Write.{units_of, class_clauses, standing_clauses}
use Rattle.write.specs.Gathered.{gathered, own_value, unit_for, class_for, clause_for, unit_at, class_at, written_at}

-- ---- one record more

pub gathered_cons : (f : ℕ → List (List ℤ)) (n i : ℕ) → i < n → gathered f (n - i) i ≡ f i ++ gathered f (n - (i + 1)) (i + 1)
unfolding gathered
gathered_cons f n i h = let e : n - i ≡ suc (n - (i + 1)) = omega arith in rw (e, add-one i)

pub gathered_end : (f : ℕ → List (List ℤ)) (n i : ℕ) → n ≤ i → gathered f (n - i) i ≡ []
unfolding gathered
gathered_end f n i h = let e : n - i ≡ 0 = omega arith in rw e

pub text_append : (xs ys : List (List ℤ)) → clauses_text (xs ++ ys) ≡ clauses_text xs ++ clauses_text ys
unfolding clauses_text
text_append [] ys = refl
text_append (c ∷ xs) ys = ap (λ (s : List ℕ). clause_text c ++ s) (text_append xs ys) ∙ sym (append_assoc (clause_text c) (clauses_text xs) (clauses_text ys))

-- what holds of no clauses, of a list behind another and of what each record gives, holds of all
pub gathered_every : (P : List (List ℤ) → Type 0) → P [] → ((xs ys : List (List ℤ)) → P xs → P ys → P (xs ++ ys)) → (f : ℕ → List (List ℤ)) (n m i : ℕ) → i + m ≤ n
    → ((k : ℕ) → k < n → P (f k)) → P (gathered f m i)
unfolding gathered
gathered_every P none join f n zero i h each = none
gathered_every P none join f n (suc m) i h each = join (f i) (gathered f m (suc i)) (each i (omega arith)) (gathered_every P none join f n m (suc i) (omega arith) each)

-- ---- the definition's lists are gathered

units_cons : (v : ℕ) (class value : ℤ) (rs : List ℤ) → units_of v (class ∷ value ∷ rs) ≡ unit_for v (own_value v class value) ++ units_of (suc v) rs
units_cons v class value rs = go (eq_z class (pos v))
  where
    one : ℕ → List (List ℤ) → List (List ℤ)
    one n cs = elim n [ zero ↦ cs | suc _ ↦ (lit_by (non_neg value) v ∷ []) ∷ cs ]

    own : (n : ℕ) → one n (units_of (suc v) rs) ≡ one n [] ++ units_of (suc v) rs
    own zero = refl
    own (suc n) = refl

    go : (b : Bool) → elim b [ true ↦ one (nat_abs value) (units_of (suc v) rs) | false ↦ units_of (suc v) rs ] ≡ unit_for v (elim b [ true ↦ value | false ↦ pos 0 ]) ++ units_of (suc v) rs
    go true = own (nat_abs value)
    go false = refl

classes_cons : (v : ℕ) (class value : ℤ) (rs : List ℤ) → class_clauses v (class ∷ value ∷ rs) ≡ class_for v class ++ class_clauses (suc v) rs
classes_cons v class value rs = go (eq_z class (pos v))
  where
    two : List (List ℤ) → List (List ℤ)
    two cs = (pos v ∷ neg_ℤ class ∷ []) ∷ (neg_ℤ (pos v) ∷ class ∷ []) ∷ cs

    go : (b : Bool) → elim b [ true ↦ class_clauses (suc v) rs | false ↦ two (class_clauses (suc v) rs) ] ≡ elim b [ true ↦ [] | false ↦ two [] ] ++ class_clauses (suc v) rs
    go true = refl
    go false = refl

standing_cons : (start size flag : ℕ) (rs : List ℕ) (ls : List ℤ) → standing_clauses (start ∷ size ∷ flag ∷ rs) ls ≡ clause_for flag (take size (drop start ls)) ++ standing_clauses rs ls
standing_cons start size zero rs ls = refl
standing_cons start size (suc flag) rs ls = refl

-- two words of a table from a place on
two_words : (xs : List ℤ) (m i : ℕ) → 2 * (i + suc m) ≤ length xs
    → take (2 * suc m) (drop (2 * i) xs) ≡ class_of xs (i + 1) ∷ value_of xs (i + 1) ∷ take (2 * m) (drop (2 * suc i) xs)
two_words xs m i h =
    let e : 2 * suc m ≡ suc (suc (2 * m)) = omega arith in
    let a : 2 * (i + 1) - 2 ≡ 2 * i = omega arith in
    let b : 2 * (i + 1) - 1 ≡ suc (2 * i) = omega arith in
    let d : 2 * suc i ≡ suc (suc (2 * i)) = omega arith in
    rw (e, a, b, d, drop-cons xs (2 * i) (pos 0) (omega arith), drop-cons xs (suc (2 * i)) (pos 0) (omega arith))

module _ (F : ℕ → List ℤ → List (List ℤ)) (g : ℕ → ℤ → ℤ → List (List ℤ)) (none : (v : ℕ) → F v [] ≡ []) (more : (v : ℕ) (class value : ℤ) (rs : List ℤ) → F v (class ∷ value ∷ rs) ≡ g v class value ++ F (suc v) rs) where
  by_variable : (xs : List ℤ) (m i : ℕ) → 2 * (i + m) ≤ length xs → F (suc i) (take (2 * m) (drop (2 * i) xs)) ≡ gathered (λ k. g (k + 1) (class_of xs (k + 1)) (value_of xs (k + 1))) m i
  unfolding gathered
  by_variable xs zero i h = none (suc i)
  by_variable xs (suc m) i h =
      ap (F (suc i)) (two_words xs m i h) ∙ more (suc i) (class_of xs (i + 1)) (value_of xs (i + 1)) (take (2 * m) (drop (2 * suc i) xs))
      ∙ (λ j. g (sym (add-one i) j) (class_of xs (i + 1)) (value_of xs (i + 1)) ++ by_variable xs m (suc i) (omega arith) j)

pub units_gathered : (xs : List ℤ) (v : ℕ) → 2 * v ≤ length xs → units_of 1 (take (2 * v) xs) ≡ gathered (unit_at xs) v 0
units_gathered xs v h = by_variable units_of (λ w class value. unit_for w (own_value w class value)) (λ v. refl) units_cons xs v 0 (omega arith)

pub classes_gathered : (xs : List ℤ) (v : ℕ) → 2 * v ≤ length xs → class_clauses 1 (take (2 * v) xs) ≡ gathered (class_at xs) v 0
classes_gathered xs v h = by_variable class_clauses (λ w class value. class_for w class) (λ v. refl) classes_cons xs v 0 (omega arith)

three_words : (xs : List ℕ) (m i : ℕ) → 3 * (i + suc m) ≤ length xs
    → take (3 * suc m) (drop (3 * i) xs) ≡ start_of xs i ∷ length_of xs i ∷ standing xs i ∷ take (3 * m) (drop (3 * suc i) xs)
three_words xs m i h =
    let e : 3 * suc m ≡ suc (suc (suc (3 * m))) = omega arith in
    let a : 3 * i + 1 ≡ suc (3 * i) = omega arith in
    let b : 3 * i + 2 ≡ suc (suc (3 * i)) = omega arith in
    let d : 3 * suc i ≡ suc (suc (suc (3 * i))) = omega arith in
    rw (e, a, b, d, drop-cons xs (3 * i) 0 (omega arith), drop-cons xs (suc (3 * i)) 0 (omega arith), drop-cons xs (suc (suc (3 * i))) 0 (omega arith))

by_clause : (xs : List ℕ) (ls : List ℤ) (m i : ℕ) → 3 * (i + m) ≤ length xs → standing_clauses (take (3 * m) (drop (3 * i) xs)) ls ≡ gathered (written_at xs ls) m i
unfolding gathered
by_clause xs ls zero i h = refl
by_clause xs ls (suc m) i h =
    ap (λ (rs : List ℕ). standing_clauses rs ls) (three_words xs m i h) ∙ standing_cons (start_of xs i) (length_of xs i) (standing xs i) (take (3 * m) (drop (3 * suc i) xs)) ls
    ∙ ap (λ (cs : List (List ℤ)). written_at xs ls i ++ cs) (by_clause xs ls m (suc i) (omega arith))

pub standing_gathered : (xs : List ℕ) (ls : List ℤ) (n : ℕ) → 3 * n ≤ length xs → standing_clauses (take (3 * n) xs) ls ≡ gathered (written_at xs ls) n 0
standing_gathered xs ls n h = by_clause xs ls n 0 (omega arith)

-- ---- the record of variable w

before : (w : ℕ) → 0 < w → w - 1 + 1 ≡ w
before w h = omega arith

pub unit_of : (xs : List ℤ) (w : ℕ) → 0 < w → unit_at xs (w - 1) ≡ unit_for w (own_value w (class_of xs w) (value_of xs w))
unit_of xs w h = ap (λ (k : ℕ). unit_for k (own_value k (class_of xs k) (value_of xs k))) (before w h)

pub class_clauses_of : (xs : List ℤ) (w : ℕ) → 0 < w → class_at xs (w - 1) ≡ class_for w (class_of xs w)
class_clauses_of xs w h = ap (λ (k : ℕ). class_for k (class_of xs k)) (before w h)

-- ---- a loop that stores

-- the writer w₀ is to write what all n records give, and at w records from i on are still to be written
pub record Putting (f : ℕ → List (List ℤ)) (n : ℕ) (w₀ : Writer) (i : ℕ) (w : Writer) : Type 0 where
  pub remains : Remains (clauses_text (gathered f (n - i) i)) (clauses_text (gathered f n 0)) w₀ w

module _ {f : ℕ → List (List ℤ)} {n : ℕ} {w₀ : Writer} {i : ℕ} {w : Writer} (p : Putting f n w₀ i w) where
  putting_next : i < n → Remains (clauses_text (f i) ++ clauses_text (gathered f (n - (i + 1)) (i + 1))) (clauses_text (gathered f n 0)) w₀ w
  putting_next h = remains_as p.remains (ap clauses_text (gathered_cons f n i h) ∙ text_append (f i) (gathered f (n - (i + 1)) (i + 1)))

  pub putting_room : i < n → {cs : List (List ℤ)} → f i ≡ cs → w₀.at + length (clauses_text (gathered f n 0)) < 2 ^ 63 → w.at + length (clauses_text cs) < 2 ^ 63
  putting_room h {cs} e k =
      omega (arith, remains_room (clauses_text (f i)) (clauses_text (gathered f (n - (i + 1)) (i + 1))) (putting_next h) k, ap (λ (ds : List (List ℤ)). length (clauses_text ds)) e)

  -- record i's clauses are cs, and j is the next record
  pub putting_step : i < n → {cs : List (List ℤ)} → f i ≡ cs → {j : ℕ} → j ≡ i + 1 → {v : Writer} → Wrote (clauses_text cs) w v → Putting f n w₀ j v
  putting_step h {cs} e {j} q {v} s =
      let next : Putting f n w₀ (i + 1) v = record { remains = remains_then (putting_next h) (wrote_as s (ap clauses_text e)) } in
      subst (λ (k : ℕ). Putting f n w₀ k v) (sym q) next

  pub putting_end : n ≤ i → Wrote (clauses_text (gathered f n 0)) w₀ w
  unfolding clauses_text
  putting_end h = remains_none (remains_as p.remains (ap clauses_text (gathered_end f n i h)))

-- ---- a loop that counts

pub record Counting (f : ℕ → List (List ℤ)) (n i count : ℕ) : Type 0 where
  pub left : count + length (gathered f (n - i) i) ≡ length (gathered f n 0)

pub counting_begin : (f : ℕ → List (List ℤ)) (n : ℕ) → Counting f n 0 0
counting_begin f n = let e : n - 0 ≡ n = omega arith in record { left = rw e (omega arith) }

pub counting_step : {f : ℕ → List (List ℤ)} {n i count : ℕ} → Counting f n i count → i < n → {cs : List (List ℤ)} → f i ≡ cs → {j : ℕ} → j ≡ i + 1 → {count₁ : ℕ} → count₁ ≡ count + length cs → Counting f n j count₁
counting_step {f} {n} {i} {count} p h {cs} e {j} q {count₁} a = record {
  left = rw q (omega (arith, a, p.left, ap length (gathered_cons f n i h), length-append (f i) (gathered f (n - (i + 1)) (i + 1)), ap length e));
}

pub counting_end : {f : ℕ → List (List ℤ)} {n i count : ℕ} → Counting f n i count → n ≤ i → count ≡ length (gathered f n 0)
counting_end {f} {n} {i} {count} p h = omega (arith, p.left, ap length (gathered_end f n i h))

-- ---- the whole text

pub header_then : (v : ℕ) (cs : List (List ℤ)) → text_of v cs ≡ header_text v (length cs) ++ clauses_text cs
unfolding text_of
header_then v cs = simp append_assoc
