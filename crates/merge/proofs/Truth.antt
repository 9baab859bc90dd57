-- Truth: where every variable has its class literal's truth, a clause is true exactly if it is with class literals in and repeats out, and it is true if that has v and −v.
-- So a visit keeps the assignments that satisfy what stands, and adds none. Assumes nothing.
use Prim.Native.Nat.{ℕ, suc, ◌+◌, ◌<◌}
use native.Mathlib.Omega.{arith}
use mathlib.Core.Path.{◌≡◌, refl, sym, ap, ◌∙◌}
use mathlib.Core.Bool.{Bool, true, false, not, ◌||◌, or-true, or-false, or_assoc}
use mathlib.Core.List.{List, [], ◌∷◌, ◌++◌, map}
use lib.ListN.{length, get_or}
use lib.IntN.{ℤ, pos, neg_ℤ, nat_abs}
use lib.Signed.{non_neg}
use Rattle.literal.specs.Literals.{eq_z, sign_by}
use Rattle.literal.specs.Clauses.{has, distinct, distinct_from, tautology}
use Rattle.literal.specs.Assignments.{Assignment, truth_by, true_under, some_true}
use Rattle.literal.proofs.Signed.{eq_z_true}
use Rattle.literal.proofs.Truth.{holds_neg}
use Rattle.tables.specs.Tables.{class_of}
use Rattle.tables.specs.Values.{class_literal}
use Rattle.visits.proofs.Known.{abs_signed}
use Rattle.merge_visits.specs.Visits.{substituted}
use Rattle.repeats.proofs.Repeats.{All, distinct_all, all_map}

-- ---- repeats

-- a literal that stands in a clause makes it true if it is true
has_holds : (τ : Assignment) (x : ℤ) (xs : List ℤ) → has x xs ≡ true → true_under τ x ≡ true → some_true τ xs ≡ true
has_holds τ x [] e h = e
has_holds τ x (y ∷ xs) e h = go (eq_z y x) refl e (has_holds τ x xs)
  where
    go : (b : Bool) → eq_z y x ≡ b → (b || has x xs) ≡ true → (has x xs ≡ true → true_under τ x ≡ true → some_true τ xs ≡ true) → (true_under τ y || some_true τ xs) ≡ true
    go true b e rest = ap (λ (z : Bool). z || some_true τ xs) (ap (true_under τ) (eq_z_true y x b) ∙ h)
    go false b e rest = ap (λ (z : Bool). true_under τ y || z) (rest e h) ∙ or-true (true_under τ y)

some_snoc : (τ : Assignment) (xs : List ℤ) (x : ℤ) → some_true τ (xs ++ (x ∷ [])) ≡ (some_true τ xs || true_under τ x)
some_snoc τ [] x = or-false (true_under τ x)
some_snoc τ (y ∷ xs) x = ap (λ (b : Bool). true_under τ y || b) (some_snoc τ xs x) ∙ sym (or_assoc (true_under τ y) (some_true τ xs) (true_under τ x))

some_from : (τ : Assignment) (kept xs : List ℤ) → some_true τ (distinct_from kept xs) ≡ (some_true τ kept || some_true τ xs)
some_from τ kept [] = sym (or-false (some_true τ kept))
some_from τ kept (x ∷ xs) = go (has x kept) refl (some_from τ kept xs) (some_from τ (kept ++ (x ∷ [])) xs)
  where
    absorbed : (h b : Bool) → true_under τ x ≡ h → has x kept ≡ true → (some_true τ kept || b) ≡ (some_true τ kept || (h || b))
    absorbed true b e k = let s : some_true τ kept ≡ true = has_holds τ x kept k e in ap (λ (z : Bool). z || b) s ∙ sym (ap (λ (z : Bool). z || true) s)
    absorbed false b e k = refl

    go : (t : Bool) → has x kept ≡ t → some_true τ (distinct_from kept xs) ≡ (some_true τ kept || some_true τ xs)
        → some_true τ (distinct_from (kept ++ (x ∷ [])) xs) ≡ (some_true τ (kept ++ (x ∷ [])) || some_true τ xs)
        → some_true τ (distinct_from kept (x ∷ xs)) ≡ (some_true τ kept || (true_under τ x || some_true τ xs))
    go true e a b = rw (e, distinct_from) (a ∙ absorbed (true_under τ x) (some_true τ xs) refl e)
    go false e a b = rw (e, distinct_from) (b ∙ ap (λ (z : Bool). z || some_true τ xs) (some_snoc τ kept x) ∙ or_assoc (some_true τ kept) (true_under τ x) (some_true τ xs))

pub some_distinct : (τ : Assignment) (xs : List ℤ) → some_true τ (distinct xs) ≡ some_true τ xs
some_distinct τ xs = some_from τ [] xs

-- ---- both signs

either_true : (a b : Bool) → (a ≡ false → b ≡ true) → (a || b) ≡ true
either_true true b f = refl
either_true false b f = f refl

-- a clause that has v and −v is true
pub tautology_true : (τ : Assignment) (xs : List ℤ) → All (λ x. 0 < nat_abs x) xs → tautology xs ≡ true → some_true τ xs ≡ true
tautology_true τ [] A e = e
tautology_true τ (x ∷ xs) A e = go (has (neg_ℤ x) xs) refl e (tautology_true τ xs A.1)
  where
    go : (b : Bool) → has (neg_ℤ x) xs ≡ b → (b || tautology xs) ≡ true → (tautology xs ≡ true → some_true τ xs ≡ true) → some_true τ (x ∷ xs) ≡ true
    go true b e rest = either_true (true_under τ x) (some_true τ xs) (λ f. has_holds τ (neg_ℤ x) xs b (holds_neg τ x A.0 ∙ ap not f))
    go false b e rest = ap (λ (z : Bool). true_under τ x || z) (rest e) ∙ or-true (true_under τ x)

-- ---- classes

-- each variable of v has its class literal's truth
abbrev pub Classed : ℕ → List ℤ → Assignment → Type 0
Classed v w τ = (u : ℕ) → u < v → τ (u + 1) ≡ true_under τ (class_of w (u + 1))

-- a literal whose variable has its class literal's truth has it too
pub class_holds : (τ : Assignment) (w : List ℤ) (l : ℤ) → 0 < nat_abs (class_of w (nat_abs l)) → τ (nat_abs l) ≡ true_under τ (class_of w (nat_abs l)) → true_under τ (class_literal w l) ≡ true_under τ l
class_holds τ w l some e = go (non_neg l)
  where
    c : ℤ
    c = class_of w (nat_abs l)

    go : (b : Bool) → true_under τ (sign_by b (class_of w (nat_abs l))) ≡ truth_by b (τ (nat_abs l))
    go true = sym e
    go false = holds_neg τ (class_of w (nat_abs l)) some ∙ ap not (sym e)

some_map : (τ : Assignment) (f : ℤ → ℤ) (xs : List ℤ) → ((k : ℕ) → k < length xs → true_under τ (f (get_or xs k (pos 0))) ≡ true_under τ (get_or xs k (pos 0))) → some_true τ (map f xs) ≡ some_true τ xs
some_map τ f [] h = refl
some_map τ f (x ∷ xs) h = (λ j. h 0 (omega arith) j || some_map τ f xs (λ k l. h (suc k) (omega arith)) j)

-- ---- one clause

module _ (τ : Assignment) (w C : List ℤ) (classed : (k : ℕ) → k < length C → τ (nat_abs (get_or C k (pos 0))) ≡ true_under τ (class_of w (nat_abs (get_or C k (pos 0)))))
    (some : (k : ℕ) → k < length C → 0 < nat_abs (class_of w (nat_abs (get_or C k (pos 0))))) where
  -- THE LAW of a visit that leaves a clause
  pub substituted_true : some_true τ (substituted w C) ≡ some_true τ C
  substituted_true =
      some_distinct τ (map (class_literal w) C)
      ∙ some_map τ (class_literal w) C (λ k h. class_holds τ w (get_or C k (pos 0)) (some k h) (classed k h))

  -- and of one that drops it
  pub dropped_true : tautology (substituted w C) ≡ true → some_true τ C ≡ true
  dropped_true e =
      sym substituted_true
      ∙ tautology_true τ (substituted w C)
      (distinct_all (λ x. 0 < nat_abs x) (map (class_literal w) C)
      (all_map (λ x. 0 < nat_abs x) (class_literal w) C (λ k h. omega (arith, some k h, abs_signed (non_neg (get_or C k (pos 0))) (class_of w (nat_abs (get_or C k (pos 0))))))))
      e
