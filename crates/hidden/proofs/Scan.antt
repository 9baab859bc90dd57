-- The figure 6 scan: for three or more literals it says yes exactly where some literal's complement holds a literal of the clause (`tautology_means`).
-- The scan's invariant: no pair of which one was passed holds. Assumes nothing.
use Prim.Native.Nat.{ℕ, ◌≤◌, ◌<◌}
use native.Mathlib.Omega.{arith}
use mathlib.Core.Path.{◌≡◌, refl, sym, ap, subst, ◌∙◌}
use mathlib.Core.Bool.{Bool, true, false}
use mathlib.Core.Logic.{⊎_elim}
use mathlib.Core.List.Memᴰ
use mathlib.Core.List.{List, [], ◌∷◌, map, Memᴰ}
use lib.ListN.{length}
use lib.Dec.{ltb}
use borrow.Author.Tests.{ltb-true, ltb-false}
use Rattle.base.specs.Lists.{any}
use Rattle.base.proofs.Booleans.{clash, both_ways}
use Rattle.base.proofs.Lists.{any_in, any_out}
use Rattle.literal.specs.Literals.{twin}
use Rattle.walk.specs.Walk.{Stamps}
use Rattle.walk.specs.Forest.{discovery_at, finish_at, Holds}
use Rattle.hidden.specs.Hidden.{holds, by_discovery, scan_at, scan, figure6, hidden_tautology}
use Rattle.hidden.proofs.Intervals.{Nested, Within, Below, holds_true, true_holds, before}
use Rattle.hidden.proofs.Sorted.{Rising, sorted_in, sorted_out, sorted_rising}

-- a pair that holds
abbrev Pair : Stamps → List ℕ → List ℕ → Type 0
Pair σ ps ns = (p : ℕ) × (n : ℕ) × Memᴰ p ps × Memᴰ n ns × Holds σ n p

-- ---- where the scan says yes there is one

scan_at_yes : (σ : Stamps) (next : List ℕ → Bool) (p : ℕ) (ps ns : List ℕ) → ((ms : List ℕ) → next ms ≡ true → Pair σ ps ms) → scan_at σ next p ns ≡ true → Pair σ (p ∷ ps) ns
unfolding scan_at
scan_at_yes σ next p ps [] more h = clash h refl
scan_at_yes σ next p ps (n ∷ ns) more h = go (λ k. scan_at_yes σ next p ps ns more k) (ltb (discovery_at σ p) (discovery_at σ n)) refl (ltb (finish_at σ n) (finish_at σ p)) refl h
  where
    go : (scan_at σ next p ns ≡ true → Pair σ (p ∷ ps) ns)
        → (b : Bool) → ltb (discovery_at σ p) (discovery_at σ n) ≡ b → (c : Bool) → ltb (finish_at σ n) (finish_at σ p) ≡ c
        → ◌≡◌ {A = Bool} (elim b [ true ↦ next (n ∷ ns) | false ↦ elim c [ true ↦ scan_at σ next p ns | false ↦ true ] ]) true → Pair σ (p ∷ ps) (n ∷ ns)
    go rest true e c i k = let r = more (n ∷ ns) k in (r.0, r.1, Memᴰ.tail r.2, r.3, r.4)
    go rest false e true i k = let r = rest k in (r.0, r.1, r.2, Memᴰ.tail r.3, r.4)
    go rest false e false i k = (p, n, Memᴰ.head refl, Memᴰ.head refl, (ltb-false (discovery_at σ p) (discovery_at σ n) e, ltb-false (finish_at σ n) (finish_at σ p) i))

scan_yes : (σ : Stamps) (ps ns : List ℕ) → scan σ ps ns ≡ true → Pair σ ps ns
unfolding scan
scan_yes σ [] ns h = clash h refl
scan_yes σ (p ∷ ps) ns h = scan_at_yes σ (scan σ ps) p ps ns (λ ms k. scan_yes σ ps ms k) h

-- ---- the scan misses none

module _ (size : ℕ) (σ : Stamps) (N : Nested size σ) where
  scan_at_all : (next : List ℕ → Bool) (p : ℕ) (ps ns : List ℕ)
      → ((ms : List ℕ) → Below size ms → Rising σ ms → Pair σ ps ms → next ms ≡ true)
      → Below size (p ∷ ps) → Rising σ (p ∷ ps) → Below size ns → Rising σ ns → Pair σ (p ∷ ps) ns → scan_at σ next p ns ≡ true
  unfolding scan_at
  scan_at_all next p ps [] more bp rp bn rn w = absurd (Memᴰ.not-nil w.3)
  scan_at_all next p ps (n ∷ ns) more bp rp bn rn w =
      go (λ k. scan_at_all next p ps ns more bp rp (λ x m. bn x (Memᴰ.tail m)) rn.1 k) (ltb (discovery_at σ p) (discovery_at σ n)) refl (ltb (finish_at σ n) (finish_at σ p)) refl
    where
      -- p begins before every complement that is left: the pair is of a later p
      later : discovery_at σ p < discovery_at σ n → Pair σ ps (n ∷ ns)
      later lt =
          let first : discovery_at σ n ≤ discovery_at σ w.1 = ⊎_elim (λ (e : w.1 ≡ n). omega (arith, ap (discovery_at σ) e)) (λ m. rn.0 w.1 m) (Memᴰ.cases_cons w.3) in
          ⊎_elim
          (λ (e : w.0 ≡ p). absurd (omega (arith, lt, first, w.4.0, ap (discovery_at σ) e)))
          (λ m. (w.0, w.1, m, w.3, w.4))
          (Memᴰ.cases_cons w.2)

      -- n ends before every literal that is left begins: the pair is of a later n
      further : discovery_at σ n ≤ discovery_at σ p → finish_at σ n < finish_at σ p → Pair σ (p ∷ ps) ns
      further le lt =
          let ends = before size σ N n p (bn n (Memᴰ.head refl)) (bp p (Memᴰ.head refl)) le lt in
          let first : discovery_at σ p ≤ discovery_at σ w.0 = ⊎_elim (λ (e : w.0 ≡ p). omega (arith, ap (discovery_at σ) e)) (λ m. rp.0 w.0 m) (Memᴰ.cases_cons w.2) in
          ⊎_elim
          (λ (e : w.1 ≡ n). absurd (omega (arith, ends, first, w.4.1, ap (finish_at σ) e, N.spans w.0 (bp w.0 w.2))))
          (λ m. (w.0, w.1, w.2, m, w.4))
          (Memᴰ.cases_cons w.3)

      go : (Pair σ (p ∷ ps) ns → scan_at σ next p ns ≡ true)
          → (b : Bool) → ltb (discovery_at σ p) (discovery_at σ n) ≡ b → (c : Bool) → ltb (finish_at σ n) (finish_at σ p) ≡ c
          → ◌≡◌ {A = Bool} (elim b [ true ↦ next (n ∷ ns) | false ↦ elim c [ true ↦ scan_at σ next p ns | false ↦ true ] ]) true
      go rest true e c i = more (n ∷ ns) bn rn (later (ltb-true (discovery_at σ p) (discovery_at σ n) e))
      go rest false e true i = rest (further (ltb-false (discovery_at σ p) (discovery_at σ n) e) (ltb-true (finish_at σ n) (finish_at σ p) i))
      go rest false e false i = refl

  scan_all : (ps ns : List ℕ) → Below size ps → Rising σ ps → Below size ns → Rising σ ns → Pair σ ps ns → scan σ ps ns ≡ true
  unfolding scan
  scan_all [] ns bp rp bn rn w = absurd (Memᴰ.not-nil w.2)
  scan_all (p ∷ ps) ns bp rp bn rn w =
      scan_at_all (scan σ ps) p ps ns (λ ms bm rm k. scan_all ps ms (λ x m. bp x (Memᴰ.tail m)) rp.1 bm rm k) bp rp bn rn w

-- ---- of a clause

-- some literal's complement holds a literal of the clause
abbrev pub Hidden : Stamps → List ℕ → Type 0
Hidden σ C = (l : ℕ) × (m : ℕ) × Memᴰ l C × Memᴰ m C × Holds σ (twin l) m

figure6_of : (σ : Stamps) (C : List ℕ) → figure6 σ C ≡ true → Hidden σ C
unfolding figure6
figure6_of σ C h =
    let r = scan_yes σ (by_discovery σ C) (by_discovery σ (map twin C)) h in
    let n = Memᴰ.of_map twin C (sorted_out σ (map twin C) r.3) in
    (n.0, r.0, n.1, sorted_out σ C r.2, rw n.2 r.4)

of_figure6 : (size : ℕ) (σ : Stamps) → Nested size σ → (C : List ℕ) → Within size C → Hidden σ C → figure6 σ C ≡ true
unfolding figure6
of_figure6 size σ N C within h =
    scan_all size σ N (by_discovery σ C) (by_discovery σ (map twin C))
    (λ x m. (within x (sorted_out σ C m)).0)
    (sorted_rising σ C)
    (λ x m. let r = Memᴰ.of_map twin C (sorted_out σ (map twin C) m) in subst (λ (k : ℕ). k < size) r.2 (within r.0 r.1).1)
    (sorted_rising σ (map twin C))
    (h.1, twin h.0, sorted_in σ C h.3, sorted_in σ (map twin C) (Memᴰ.map twin h.2), h.4)

-- of three or more literals the figure decides
pub tautology_figure : (σ : Stamps) (C : List ℕ) → 2 < length C → hidden_tautology σ C ≡ figure6 σ C
unfolding hidden_tautology
tautology_figure σ [] long = absurd (omega arith)
tautology_figure σ (a ∷ []) long = absurd (omega arith)
tautology_figure σ (a ∷ b ∷ []) long = absurd (omega arith)
tautology_figure σ (a ∷ b ∷ c ∷ ls) long = refl

pub hidden_of : (σ : Stamps) (C : List ℕ) → 2 < length C → hidden_tautology σ C ≡ true → Hidden σ C
hidden_of σ C long h = figure6_of σ C (sym (tautology_figure σ C long) ∙ h)

-- "For three or more literals the yes is given exactly when some literal's complement holds a literal of the clause", as one equation
pub tautology_means : (size : ℕ) (σ : Stamps) → Nested size σ → (C : List ℕ) → Within size C → 2 < length C → hidden_tautology σ C ≡ any (λ l. any (λ m. holds σ (twin l) m) C) C
tautology_means size σ N C within long =
    tautology_figure σ C long
    ∙ both_ways _ _
    (λ h. let r = figure6_of σ C h in any_in _ C r.2 (any_in _ C r.3 (true_holds σ (twin r.0) r.1 r.4)))
    (λ h.
    let l = any_out _ C h in
    let m = any_out _ C l.2 in
    of_figure6 size σ N C within (l.0, m.0, l.1, m.1, holds_true σ (twin l.0) m.0 m.2))
