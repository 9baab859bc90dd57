-- The loops over columns: the slots of a list, the records of two columns. What is left to store, from here, makes the whole. Assumes nothing.
use Prim.Native.Nat.{ℕ, suc, ◌+◌, ◌*◌, ◌≤◌, ◌<◌}
use native.Mathlib.Numerals.{add-one}
use native.Mathlib.Omega.{arith}
use mathlib.Core.Path.{◌≡◌, refl, sym, ap, subst, ◌∙◌}
use mathlib.Core.List.{List, [], ◌∷◌, ◌++◌}
use lib.ListN.{length, get_or, set, drop, drop_of_length-le}
use lib.Seq.{sets, sets-eq, drop-cons, drop-length}
use Rattle.base.specs.Lists.{interleave}

-- ---- a list, element by element

module _ {A : Type 0} where
  step : (l : List A) (i : ℕ) (x : A) → i < length l → drop i l ≡ get_or l i x ∷ drop (i + 1) l
  step l i x lt = drop-cons l i x lt ∙ ap (λ (k : ℕ). get_or l i x ∷ drop k l) (sym (add-one i))

  -- the places from i on are still to be filled with what is left of a list
  pub record Filling (xs l₀ l : List A) (i : ℕ) : Type 0 where
    pub same : sets l i (drop i xs) ≡ sets l₀ 0 xs

  pub filling_none : (xs l : List A) → Filling xs l l 0
  filling_none xs l = record { same = refl }

  pub filling_step : (xs l₀ l : List A) (i : ℕ) (x : A) → i < length xs → Filling xs l₀ l i → Filling xs l₀ (set l i (get_or xs i x)) (i + 1)
  filling_step xs l₀ l i x lt F = record {
    same = ap (λ (k : ℕ). sets (set l i (get_or xs i x)) k (drop (i + 1) xs)) (add-one i) ∙ ap (sets l i) (sym (step xs i x lt)) ∙ F.same;
  }

  pub filling_as : (xs l₀ l : List A) (i : ℕ) (x a : A) → a ≡ get_or xs i x → i < length xs → Filling xs l₀ l i → Filling xs l₀ (set l i a) (i + 1)
  filling_as xs l₀ l i x a e lt F = subst (λ (b : A). Filling xs l₀ (set l i b) (i + 1)) (sym e) (filling_step xs l₀ l i x lt F)

  pub filling_done : (xs l₀ l : List A) (i : ℕ) → length xs ≤ i → length l₀ ≡ length xs → Filling xs l₀ l i → l ≡ xs
  filling_done xs l₀ l i le len F =
      ap (sets l i) (sym (drop_of_length-le xs le)) ∙ F.same ∙ sets-eq xs l₀ 0 (omega arith)
      ∙ ap (λ (r : List A). xs ++ r) (ap (λ (k : ℕ). drop k l₀) (let e : 0 + length xs ≡ length l₀ = omega arith in e) ∙ drop-length l₀) ∙ append_nothing xs
    where
      append_nothing : (l : List A) → l ++ [] ≡ l
      append_nothing [] = refl
      append_nothing (x ∷ l) = ap (λ (r : List A). x ∷ r) (append_nothing l)

  -- ---- records of two columns

  pub many_records : (xs ys : List A) → length ys ≡ length xs → length (interleave xs ys) ≡ 2 * length xs
  unfolding interleave
  many_records [] ys e = refl
  many_records (x ∷ xs) [] e = absurd (omega arith)
  many_records (x ∷ xs) (y ∷ ys) e = omega (arith, many_records xs ys (omega arith))

  pub record Copying (xs ys l₀ l : List A) (s : ℕ) : Type 0 where
    pub same : sets l (2 * s) (interleave (drop s xs) (drop s ys)) ≡ sets l₀ 0 (interleave xs ys)

  pub copying_none : (xs ys l : List A) → Copying xs ys l l 0
  copying_none xs ys l = record { same = refl }

  pub copying_step : (xs ys l₀ l : List A) (s : ℕ) (x y : A) → s < length xs → length ys ≡ length xs → Copying xs ys l₀ l s
      → Copying xs ys l₀ (set (set l (2 * s) (get_or xs s x)) (2 * s + 1) (get_or ys s y)) (s + 1)
  unfolding interleave
  copying_step xs ys l₀ l s x y lt len C =
      let a : A = get_or xs s x in
      let b : A = get_or ys s y in
      let rest : List A = interleave (drop (s + 1) xs) (drop (s + 1) ys) in
      let next : 2 * (s + 1) ≡ suc (suc (2 * s)) = omega arith in
      record {
        same =
            ap (λ (k : ℕ). sets (set (set l (2 * s) a) (2 * s + 1) b) k rest) next
            ∙ ap (λ (k : ℕ). sets (set (set l (2 * s) a) k b) (suc (suc (2 * s))) rest) (add-one (2 * s))
            ∙ ap (λ (r : List A). sets l (2 * s) (interleave r (b ∷ drop (s + 1) ys))) (sym (step xs s x lt))
            ∙ ap (λ (r : List A). sets l (2 * s) (interleave (drop s xs) r)) (sym (step ys s y (omega arith)))
            ∙ C.same;
      }

  pub copying_as : (xs ys l₀ l : List A) (s : ℕ) (x y a b : A) → a ≡ get_or xs s x → b ≡ get_or ys s y → s < length xs → length ys ≡ length xs → Copying xs ys l₀ l s
      → Copying xs ys l₀ (set (set l (2 * s) a) (2 * s + 1) b) (s + 1)
  copying_as xs ys l₀ l s x y a b e f lt len C =
      subst (λ (z : A). Copying xs ys l₀ (set (set l (2 * s) z) (2 * s + 1) b) (s + 1)) (sym e)
      (subst (λ (z : A). Copying xs ys l₀ (set (set l (2 * s) (get_or xs s x)) (2 * s + 1) z) (s + 1)) (sym f) (copying_step xs ys l₀ l s x y lt len C))

  pub copying_done : (xs ys l₀ l : List A) (s : ℕ) → length xs ≤ s → length ys ≡ length xs → 2 * length xs ≤ length l₀ → Copying xs ys l₀ l s → l ≡ interleave xs ys ++ drop (2 * length xs) l₀
  unfolding interleave
  copying_done xs ys l₀ l s le len room C =
      ap (λ (r : List A). sets l (2 * s) (interleave r (drop s ys))) (sym (drop_of_length-le xs le)) ∙ C.same
      ∙ sets-eq (interleave xs ys) l₀ 0 (omega (arith, many_records xs ys len))
      ∙ ap (λ (k : ℕ). interleave xs ys ++ drop k l₀) (let e : 0 + length (interleave xs ys) ≡ 2 * length xs = omega (arith, many_records xs ys len) in e)
