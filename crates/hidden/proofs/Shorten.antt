-- The two filters of figure 5.
--     shorten_slots    on literals that have slots they are the filters on the slots
--     shorten_sub      they leave a subsequence
--     shorten_leads    every literal leads to one that they leave, along whatever the two kinds of holding intervals stand for
--     shorten_filled   so a clause does not become empty
-- Assumes nothing.
use Prim.Native.Nat.{ℕ, zero, suc, ◌<◌}
use native.Mathlib.Nat.{le_refl}
use native.Mathlib.Omega.{arith}
use mathlib.Core.Path.{◌≡◌, refl, sym, ap, subst, ◌∙◌}
use mathlib.Core.Bool.{Bool, true, not, ◌&&◌}
use mathlib.Core.Logic.{⊎_elim}
use mathlib.Core.List.Memᴰ
use mathlib.Core.List.Sublistᴰ
use mathlib.Core.List.{List, [], ◌∷◌, map, Memᴰ, Sublistᴰ}
use lib.ListN.{length, length-map}
use lib.Dec.{eqb}
use Rattle.base.specs.Lists.{any, filter}
use Rattle.base.proofs.Booleans.{and_left, and_right, bool_or, differ}
use Rattle.base.proofs.Lists.{in_filter, filter_sub, filter_map, map_self, sub_mem, any_out}
use Rattle.literal.specs.Literals.{twin}
use Rattle.literal.proofs.Twins.{twin_eq}
use Rattle.walk.specs.Walk.{Stamps}
use Rattle.walk.specs.Forest.{discovery_at, finish_at, Holds}
use Rattle.hidden.specs.Hidden.{holds, unhidden, shorten}
use Rattle.hidden.proofs.Intervals.{Nested, Within, holds_true, inside}

-- ---- literals with slots, and the slots

-- on slots: those that imply no other of the clause
pub unhidden_self : (implies : ℕ → ℕ → Bool) (C : List ℕ) → unhidden (λ s. s) implies C ≡ filter (λ l. not (any (λ m. not (eqb m l) && implies l m) C)) C
unfolding unhidden
unhidden_self implies C = ap (λ (D : List ℕ). filter (λ l. not (any (λ m. not (eqb m l) && implies l m) D)) C) (map_self C)

unhidden_slots : {A : Type 0} (slot : A → ℕ) (implies : ℕ → ℕ → Bool) (C : List A) → map slot (unhidden slot implies C) ≡ unhidden (λ s. s) implies (map slot C)
unfolding unhidden
unhidden_slots slot implies C =
    filter_map slot (λ l. not (any (λ m. not (eqb m l) && implies l m) (map slot C))) C ∙ sym (unhidden_self implies (map slot C))

pub shorten_slots : {A : Type 0} (slot : A → ℕ) (σ : Stamps) (C : List A) → map slot (shorten slot σ C) ≡ shorten (λ s. s) σ (map slot C)
unfolding shorten
shorten_slots slot σ C =
    unhidden_slots slot (λ l m. holds σ (twin m) (twin l)) (unhidden slot (holds σ) C)
    ∙ ap (unhidden (λ s. s) (λ l m. holds σ (twin m) (twin l))) (unhidden_slots slot (holds σ) C)

-- ---- what is left is a subsequence

pub unhidden_sub : {A : Type 0} (slot : A → ℕ) (implies : ℕ → ℕ → Bool) (C : List A) → Sublistᴰ (unhidden slot implies C) C
unfolding unhidden
unhidden_sub slot implies C = filter_sub _ C

pub shorten_sub : {A : Type 0} (slot : A → ℕ) (σ : Stamps) (C : List A) → Sublistᴰ (shorten slot σ C) C
unfolding shorten
shorten_sub slot σ C = Sublistᴰ.trans (unhidden_sub slot _ (unhidden slot (holds σ) C)) (unhidden_sub slot (holds σ) C)

-- ---- what is left is enough

module _ (Leads : ℕ → ℕ → Type 0) (none : (a : ℕ) → Leads a a) (more : (a b c : ℕ) → Leads a b → Leads b c → Leads a c) where
  -- a literal that goes leads to one that stays: along the implications a rank falls
  module _ (implies : ℕ → ℕ → Bool) (rank : ℕ → ℕ) (C : List ℕ)
      (falls : (l m : ℕ) → Memᴰ l C → Memᴰ m C → (m ≡ l → ⊥) → implies l m ≡ true → rank m < rank l)
      (leads : (l m : ℕ) → Memᴰ l C → Memᴰ m C → implies l m ≡ true → Leads l m) where
    stays_in : (n l : ℕ) → rank l < n → Memᴰ l C → (m : ℕ) × Memᴰ m (filter (λ x. not (any (λ y. not (eqb y x) && implies x y) C)) C) × Leads l m
    stays_in zero l lt k = absurd (omega arith)
    stays_in (suc n) l lt k =
        ⊎_elim
        (λ h.
        let r = any_out (λ m. not (eqb m l) && implies l m) C h in
        let m = r.0 in
        let i = and_right (not (eqb m l)) (implies l m) r.2 in
        let d = falls l m k r.1 (differ m l (and_left (not (eqb m l)) (implies l m) r.2)) i in
        let s = stays_in n m (omega (arith, d, lt)) r.1 in
        (s.0, s.1, more l m s.0 (leads l m k r.1 i) s.2))
        (λ h. (l, in_filter (λ x. not (any (λ m. not (eqb m x) && implies x m) C)) C k (ap not h), none l))
        (bool_or (any (λ m. not (eqb m l) && implies l m) C))

    stays : (l : ℕ) → Memᴰ l C → (m : ℕ) × Memᴰ m (unhidden (λ s. s) implies C) × Leads l m
    stays l k =
        let r = stays_in (suc (rank l)) l (le_refl _) k in
        (r.0, subst (Memᴰ r.0) (sym (unhidden_self implies C)) r.1, r.2)

  module _ (size : ℕ) (σ : Stamps) (N : Nested size σ) (C : List ℕ) (w : Within size C)
      (one : (a b : ℕ) → Memᴰ a C → Memᴰ b C → Holds σ a b → Leads a b)
      (two : (a b : ℕ) → Memᴰ a C → Memᴰ b C → Holds σ (twin b) (twin a) → Leads a b) where
    pub shorten_leads : (l : ℕ) → Memᴰ l C → (m : ℕ) × Memᴰ m (shorten (λ s. s) σ C) × Leads l m
    unfolding shorten
    shorten_leads l k =
        let D : List ℕ = unhidden (λ s. s) (holds σ) C in
        let in-C : (x : ℕ) → Memᴰ x D → Memᴰ x C = λ x i. sub_mem (unhidden_sub (λ s. s) (holds σ) C) i in
        let p = stays (holds σ) (finish_at σ) C
        (λ a b i j d h. (inside size σ N a b (w a i).0 (w b j).0 d (holds_true σ a b h)).1)
        (λ a b i j h. one a b i j (holds_true σ a b h)) l k in
        let q = stays (λ a b. holds σ (twin b) (twin a)) (λ a. discovery_at σ (twin a)) D
        (λ a b i j d h. (inside size σ N (twin b) (twin a) (w b (in-C b j)).1 (w a (in-C a i)).1 (λ e. d (sym (twin_eq e))) (holds_true σ (twin b) (twin a) h)).0)
        (λ a b i j h. two a b (in-C a i) (in-C b j) (holds_true σ (twin b) (twin a) h))
        p.0 p.1 in
        (q.0, q.1, more l p.0 q.0 p.2 q.2)

-- a clause that has a literal keeps one
pub shorten_filled : {A : Type 0} (slot : A → ℕ) (size : ℕ) (σ : Stamps) → Nested size σ → (C : List A) → Within size (map slot C) → 0 < length C → 0 < length (shorten slot σ C)
shorten_filled slot size σ N [] w h = absurd (omega arith)
shorten_filled {A} slot size σ N (x ∷ C) w h =
    let r = shorten_leads (λ a b. Unit {0}) (λ a. tt) (λ a b c p q. tt) size σ N (map slot (x ∷ C)) w (λ a b i j k. tt) (λ a b i j k. tt) (slot x) (Memᴰ.head refl) in
    filled (shorten (λ s. s) σ (map slot (x ∷ C))) (shorten slot σ (x ∷ C)) r.1 (sym (ap length (shorten_slots slot σ (x ∷ C))) ∙ length-map (shorten slot σ (x ∷ C)) slot)
  where
    filled : (xs : List ℕ) (ys : List A) {m : ℕ} → Memᴰ m xs → length xs ≡ length ys → 0 < length ys
    filled [] ys m e = absurd (Memᴰ.not-nil m)
    filled (x ∷ xs) ys m e = omega arith
