-- What `==` answers of two slices is `same_list`, of numbers and of literals. Assumes nothing.
use Prim.Native.Nat.{ℕ}
use mathlib.Core.Path.{◌≡◌, refl}
use mathlib.Core.Bool.{Bool, true, false, ◌&&◌}
use mathlib.Core.List.{List, [], ◌∷◌}
use lib.Dec.{eqb}
use lib.IntN.{ℤ}
use lib.Pointwise.{pointwise}
use Rattle.std.specs.Ordering.{int_eq}
use Rattle.std.proofs.lemmas.Bool.Decides.{same_from_decides, Decides-int_eq}
use Rattle.base.specs.Lists.{same_list}
use Rattle.literal.specs.Literals.{eq_z}
use Rattle.literal.proofs.Signed.{eq_eq_z, eq_z_true}

-- tests that agree give the same answer
pointwise_same : {A : Type 0} (test eq : A → A → Bool) → ((x y : A) → test x y ≡ eq x y) → (a b : List A) → pointwise test a b ≡ same_list eq a b
unfolding same_list
pointwise_same test eq h [] [] = refl
pointwise_same test eq h [] (y ∷ ys) = refl
pointwise_same test eq h (x ∷ xs) [] = refl
pointwise_same test eq h (x ∷ xs) (y ∷ ys) = go (test x y) (eq x y) (h x y) (pointwise_same test eq h xs ys)
  where
    go : (s t : Bool) → s ≡ t → pointwise test xs ys ≡ same_list eq xs ys → (s && pointwise test xs ys) ≡ elim t [ true ↦ same_list eq xs ys | false ↦ false ]
    go true true e rest = rest
    go true false e rest = cc
    go false true e rest = cc
    go false false e rest = refl

pub numbers_same : (a b : List ℕ) → pointwise eqb a b ≡ same_list eqb a b
numbers_same a b = pointwise_same eqb eqb (λ x y. refl) a b

pub literals_same : (a b : List ℤ) → pointwise int_eq a b ≡ same_list eq_z a b
literals_same a b = pointwise_same int_eq eq_z (λ x y. same_from_decides (int_eq x y) (eq_z x y) (Decides-int_eq x y) (eq_z_true x y, eq_eq_z x y)) a b
