-- The edges of an implication graph are the pairs of its two columns. Assumes nothing.
use Prim.Native.Nat.{ℕ}
use mathlib.Core.Path.{◌≡◌, refl, sym}
use mathlib.Core.Bool.{Bool, true, false}
use mathlib.Core.Logic.{⊎_elim}
use mathlib.Core.List.Memᴰ
use mathlib.Core.List.{List, [], ◌∷◌, Memᴰ}
use lib.Dec.{eqb}
use borrow.Author.Tests.{eqb-true, eqb-false}
use Rattle.implications.specs.Edges.{outs}

-- the edge s → t stands in the columns, s in the one and t in the other at the same place
pub data Edge (s t : ℕ) : List ℕ → List ℕ → Type 0 where
  first : {f x : ℕ} {fs ts : List ℕ} → f ≡ s → x ≡ t → Edge s t (f ∷ fs) (x ∷ ts)
  later : {f x : ℕ} {fs ts : List ℕ} → Edge s t fs ts → Edge s t (f ∷ fs) (x ∷ ts)

pub outs_edge : (fs ts : List ℕ) (s t : ℕ) → Memᴰ t (outs fs ts s) → Edge s t fs ts
unfolding outs
outs_edge [] ts s t m = absurd (Memᴰ.not-nil m)
outs_edge (f ∷ fs) [] s t m = absurd (Memᴰ.not-nil m)
outs_edge (f ∷ fs) (x ∷ ts) s t m = go (λ k. outs_edge fs ts s t k) (eqb f s) refl m
  where
    go : (Memᴰ t (outs fs ts s) → Edge s t fs ts) → (b : Bool) → eqb f s ≡ b → Memᴰ t (elim b [ true ↦ x ∷ outs fs ts s | false ↦ outs fs ts s ]) → Edge s t (f ∷ fs) (x ∷ ts)
    go rest true e k = ⊎_elim (λ (i : t ≡ x). first (eqb-true f s e) (sym i)) (λ j. later (rest j)) (Memᴰ.cases_cons k)
    go rest false e k = later (rest k)

pub edge_outs : {s t : ℕ} {fs ts : List ℕ} → Edge s t fs ts → Memᴰ t (outs fs ts s)
unfolding outs
edge_outs {s} {t} (first {f = f} {x = x} {fs = fs} {ts = ts} p q) = go (eqb f s) refl
  where
    go : (b : Bool) → eqb f s ≡ b → Memᴰ t (elim b [ true ↦ x ∷ outs fs ts s | false ↦ outs fs ts s ])
    go true e = Memᴰ.head (sym q)
    go false e = absurd (eqb-false f s e p)
edge_outs {s} {t} (later {f = f} {x = x} {fs = fs} {ts = ts} r) = go (edge_outs r) (eqb f s)
  where
    go : Memᴰ t (outs fs ts s) → (b : Bool) → Memᴰ t (elim b [ true ↦ x ∷ outs fs ts s | false ↦ outs fs ts s ])
    go m true = Memᴰ.tail m
    go m false = m
