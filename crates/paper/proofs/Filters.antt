-- What figure 5's filters leave, on literals: those that have the relation to no other literal of the list. Assumes nothing.
use Prim.Native.Nat.{ℕ}
use mathlib.Core.Path.{◌≡◌, refl, ap, ◌∙◌}
use mathlib.Core.Bool.{Bool, true, false, not, ◌&&◌}
use mathlib.Core.Logic.{◌↔◌}
use mathlib.Core.List.Memᴰ
use mathlib.Core.List.{List, [], ◌∷◌, map, Memᴰ}
use lib.Dec.{eqb}
use lib.IntN.{ℤ}
use borrow.Author.Tests.{not-true, not-false}
use Rattle.base.specs.Lists.{any, filter}
use Rattle.base.proofs.Booleans.{clash, and_left, and_right, and_both, differ, differs}
use Rattle.base.proofs.Lists.{any_in, any_out}
use Rattle.literal.specs.Literals.{Literal, slot_of}
use Rattle.literal.proofs.Laws.{slot_same}
use Rattle.hidden.specs.Hidden.{unhidden}
use Rattle.paper.specs.Sweeping.{Filtered, none, stays, goes, ToNoOther}

-- a test that decides P leaves the literals that have P
pub filter_left : (P : ℤ → Type 0) (test : ℤ → Bool) (C : List ℤ) → ((l : ℤ) → Memᴰ l C → (test l ≡ true → P l) × (test l ≡ false → P l → ⊥)) → Filtered P C (filter test C)
unfolding filter
filter_left P test [] exact = none
filter_left P test (x ∷ C) exact = go (filter_left P test C (λ l m. exact l (Memᴰ.tail m))) (test x) refl
  where
    go : Filtered P C (filter test C) → (b : Bool) → test x ≡ b → Filtered P (x ∷ C) (elim b [ true ↦ x ∷ filter test C | false ↦ filter test C ])
    go rest true e = stays ((exact x (Memᴰ.head refl)).0 e) rest
    go rest false e = goes ((exact x (Memᴰ.head refl)).1 e) rest

pub unhidden_left : (v : ℕ) (R : ℤ → ℤ → Type 0) (implies : ℕ → ℕ → Bool) (C : List ℤ) → ((l : ℤ) → Memᴰ l C → Literal v l)
    → ((l m : ℤ) → Memᴰ l C → Memᴰ m C → (implies (slot_of l) (slot_of m) ≡ true) ↔ R l m) → Filtered (ToNoOther R C) C (unhidden slot_of implies C)
unfolding unhidden
unhidden_left v R implies C ranged exact = filter_left (ToNoOther R C) (λ l. not (any (hits l) (map slot_of C))) C (λ l i. (alone l i, joined l i))
  where
    hits : ℤ → ℕ → Bool
    hits l m = not (eqb m (slot_of l)) && implies (slot_of l) m

    alone : (l : ℤ) → Memᴰ l C → not (any (hits l) (map slot_of C)) ≡ true → ToNoOther R C l
    alone l i e m j d r =
        clash
        (any_in (hits l) (map slot_of C) (Memᴰ.map slot_of j)
        (and_both (not (eqb (slot_of m) (slot_of l))) (implies (slot_of l) (slot_of m)) (differs (slot_of m) (slot_of l) (λ s. d (slot_same m l (ranged m j).above (ranged l i).above s))) ((exact l m i j).1 r)))
        (not-true (any (hits l) (map slot_of C)) e)

    joined : (l : ℤ) → Memᴰ l C → not (any (hits l) (map slot_of C)) ≡ false → ToNoOther R C l → ⊥
    joined l i e free =
        let k = any_out (hits l) (map slot_of C) (not-false (any (hits l) (map slot_of C)) e) in
        let w = Memᴰ.of_map slot_of C k.1 in
        let m : ℤ = w.0 in
        let h : hits l (slot_of m) ≡ true = ap (hits l) w.2 ∙ k.2 in
        free m w.1 (λ s. differ (slot_of m) (slot_of l) (and_left (not (eqb (slot_of m) (slot_of l))) _ h) (ap slot_of s)) ((exact l m i w.1).0 (and_right (not (eqb (slot_of m) (slot_of l))) _ h))
