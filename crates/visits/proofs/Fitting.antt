-- What the shape rule asks of a clause's literals, literal by literal, and that a part of a clause meets it too. Assumes nothing.
use Prim.Native.Nat.{ℕ, zero, suc, ◌*◌, ◌≤◌, ◌<◌}
use native.Mathlib.Omega.{arith}
use mathlib.Core.Path.{◌≡◌, refl, sym, ap, subst, ◌∙◌}
use mathlib.Core.Bool.{Bool, true, false}
use mathlib.Core.Logic.{⊎_elim}
use mathlib.Core.List.Memᴰ
use mathlib.Core.List.{List, [], ◌∷◌, map, Memᴰ}
use lib.ListN.{length, get_or}
use lib.IntN.{ℤ, pos, nat_abs}
use Rattle.base.specs.Lists.{filter}
use Rattle.literal.specs.Literals.{Literal, slot_of, twin}
use Rattle.literal.proofs.Laws.{slot_below}
use Rattle.literal.proofs.Twins.{twin_below}
use Rattle.tables.specs.Tables.{class_of}
use Rattle.visits.specs.Formed.{FitClause}

pub fit_none : {v : ℕ} {w : List ℤ} {b : Bool} → FitClause v w b []
fit_none = record { ranged = λ k h. absurd (omega arith); once = λ k h. absurd (omega arith); own = λ e k h. absurd (omega arith) }

-- one literal in front of others
pub record FitHead (v : ℕ) (w : List ℤ) (b : Bool) (x : ℤ) (xs : List ℤ) : Type 0 where
  pub ranged : Literal v x
  pub apart : (j : ℕ) → j < length xs → nat_abs x ≡ nat_abs (get_or xs j (pos 0)) → ⊥
  pub own : b ≡ true → class_of w (nat_abs x) ≡ pos (nat_abs x)

pub fit_cons : {v : ℕ} {w : List ℤ} {b : Bool} {x : ℤ} {xs : List ℤ} → FitHead v w b x xs → FitClause v w b xs → FitClause v w b (x ∷ xs)
fit_cons {v} {w} {b} {x} {xs} H F = record { ranged = ranged; once = once; own = own }
  where
    ranged : (k : ℕ) → k < length (x ∷ xs) → Literal v (get_or (x ∷ xs) k (pos 0))
    ranged zero h = H.ranged
    ranged (suc k) h = F.ranged k (omega arith)

    once : (k : ℕ) → k < length (x ∷ xs) → (j : ℕ) → j < k → nat_abs (get_or (x ∷ xs) j (pos 0)) ≡ nat_abs (get_or (x ∷ xs) k (pos 0)) → ⊥
    once zero h j l e = omega arith
    once (suc k) h zero l e = H.apart k (omega arith) e
    once (suc k) h (suc j) l e = F.once k (omega arith) j (omega arith) e

    own : b ≡ true → (k : ℕ) → k < length (x ∷ xs) → class_of w (nat_abs (get_or (x ∷ xs) k (pos 0))) ≡ pos (nat_abs (get_or (x ∷ xs) k (pos 0)))
    own e zero h = H.own e
    own e (suc k) h = F.own e k (omega arith)

module _ {v : ℕ} {w : List ℤ} {b : Bool} {x : ℤ} {xs : List ℤ} (F : FitClause v w b (x ∷ xs)) where
  pub fit_head : FitHead v w b x xs
  fit_head = record { ranged = F.ranged 0 (omega arith); apart = λ j h e. F.once (suc j) (omega arith) 0 (omega arith) e; own = λ e. F.own e 0 (omega arith) }

  pub fit_tail : FitClause v w b xs
  fit_tail = record { ranged = λ k h. F.ranged (suc k) (omega arith); once = λ k h j l e. F.once (suc k) (omega arith) (suc j) (omega arith) e; own = λ e k h. F.own e (suc k) (omega arith) }

-- a literal of the clause is one of the variables, and its slot and the complement's are among theirs
pub fit_member : {v : ℕ} {w : List ℤ} {b : Bool} {C : List ℤ} {l : ℤ} → FitClause v w b C → Memᴰ l C → Literal v l
fit_member {C = []} F m = absurd (Memᴰ.not-nil m)
fit_member {v} {C = x ∷ xs} {l} F m = ⊎_elim (λ (e : l ≡ x). subst (Literal v) (sym e) (fit_head F).ranged) (λ r. fit_member (fit_tail F) r) (Memᴰ.cases_cons m)

pub fit_slots : {v : ℕ} {w : List ℤ} {b : Bool} {C : List ℤ} → FitClause v w b C → (s : ℕ) → Memᴰ s (map slot_of C) → (s < 2 * v) × (twin s < 2 * v)
fit_slots {v} {C = C} F s m =
    let r = Memᴰ.of_map slot_of C m in
    let L = fit_member F r.1 in
    let h : s < 2 * v = subst (λ (x : ℕ). x < 2 * v) r.2 (slot_below r.0 v L.above L.within) in
    (h, twin_below v s h)

-- what is left of a list was in it
pub filter_at : (q : ℤ → Bool) (xs : List ℤ) (j : ℕ) → j < length (filter q xs) → (i : ℕ) × (i < length xs) × (get_or (filter q xs) j (pos 0) ≡ get_or xs i (pos 0))
unfolding filter
filter_at q [] j h = absurd (omega arith)
filter_at q (x ∷ xs) j h = go (filter_at q xs) (q x) j h
  where
    go : ((j : ℕ) → j < length (filter q xs) → (i : ℕ) × (i < length xs) × (get_or (filter q xs) j (pos 0) ≡ get_or xs i (pos 0))) → (b : Bool) → (j : ℕ)
        → j < length {A = ℤ} (elim b [ true ↦ x ∷ filter q xs | false ↦ filter q xs ])
        → (i : ℕ) × (i < length (x ∷ xs)) × (get_or {A = ℤ} (elim b [ true ↦ x ∷ filter q xs | false ↦ filter q xs ]) j (pos 0) ≡ get_or (x ∷ xs) i (pos 0))
    go rest true zero h = (0, omega arith, refl)
    go rest true (suc j) h = let r = rest j (omega arith) in (suc r.0, omega (arith, r.1), r.2)
    go rest false j h = let r = rest j h in (suc r.0, omega (arith, r.1), r.2)

pub fit_filter : (v : ℕ) (w : List ℤ) (b : Bool) (q : ℤ → Bool) (C : List ℤ) → FitClause v w b C → FitClause v w b (filter q C)
unfolding filter
fit_filter v w b q [] F = F
fit_filter v w b q (x ∷ xs) F = go (fit_filter v w b q xs (fit_tail F)) (q x)
  where
    go : FitClause v w b (filter q xs) → (y : Bool) → FitClause v w b (elim y [ true ↦ x ∷ filter q xs | false ↦ filter q xs ])
    go R true =
        fit_cons
        (record {
          ranged = (fit_head F).ranged;
          apart = λ j h e. let r = filter_at q xs j h in (fit_head F).apart r.0 r.1 (e ∙ ap nat_abs r.2);
          own = (fit_head F).own;
        })
        R
    go R false = R

pub filter_shorter : (q : ℤ → Bool) (C : List ℤ) → length (filter q C) ≤ length C
unfolding filter
filter_shorter q [] = omega arith
filter_shorter q (x ∷ xs) = go (q x) (filter_shorter q xs)
  where
    go : (b : Bool) → length (filter q xs) ≤ length xs → length {A = ℤ} (elim b [ true ↦ x ∷ filter q xs | false ↦ filter q xs ]) ≤ suc (length xs)
    go true h = omega arith
    go false h = omega arith
