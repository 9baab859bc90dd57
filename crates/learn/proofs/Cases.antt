-- The call of a learnt clause by its cases.
--     learn_cases  the call is refused, or no refusal applies (`Taken`) and Sweep's rule decides, by the stamps in the tables
--     learn_ways   and then the newcomer is kept whole, or a shorter part of it is kept, or it is dropped
-- Assumes nothing.
use Prim.Native.Nat.{ℕ, ◌+◌, ◌≤◌, ◌<◌}
use native.Mathlib.Omega.{arith}
use mathlib.Core.Path.{◌≡◌, refl, sym, ap, subst, ◌∙◌}
use mathlib.Core.Bool.{Bool, true, false, false≢true}
use mathlib.Core.List.{List, [], ◌∷◌, Sublistᴰ}
use lib.ListN.{length, get_or}
use lib.Dec.{eqb}
use borrow.Author.Tests.{eqb-true, eqb-false}
use lib.IntN.{ℤ, pos, nat_abs}
use Rattle.base.proofs.Lists.{sub_mem, sub_length, sub_full, get_d_mem, mem_get_d}
use Rattle.literal.specs.Literals.{Literal}
use Rattle.stamp_columns.specs.Columns.{columns}
use Rattle.state.specs.declared.State.{State}
use Rattle.state.specs.declared.Pass.{Pass}
use Rattle.state.specs.declared.Pass.TheVariants.{Idle, Propagate, Merge, Sweep}
use Rattle.state.specs.declared.Refusal.{Refusal}
use Rattle.state.specs.declared.Refusal.TheVariants as refusal
use Rattle.state.specs.declared.Answer.TheVariants.{KeptWhole, KeptShort, NotKept}
use Rattle.tables.specs.Tables.{Tables}
use Rattle.tables.specs.Calls.{answered}
use Rattle.tables.specs.Fates.{Fate, left, dropped}
use Rattle.shape.specs.Shape.{Shape}
use Rattle.shape.specs.Decision.{shape_ok, shape_exact}
use Rattle.entry.specs.Entry.{opening_by}
use Rattle.window.specs.Window.{Places, AfterWindow, after_window, refuse_with, keep}
use Rattle.window.specs.Rule.{Newcomer, WindowRule, learnable_ok, window_ok, learnable_exact, window_exact}
use Rattle.visits.specs.Formed.{FitClause}
use Rattle.visits.proofs.Fitting.{fit_cons, fit_head, fit_tail}
use Rattle.sweep_visits.specs.Clause.{sweep_clause}
use Rattle.sweep_visits.proofs.Fates.{sweep_cases}
use Rattle.learn.specs.Learn.{learn_by, learn_if, learn_unless_stale, learn_opening, learn_ruled, learn_call}

-- ---- refused or not

-- what holds where none of the refusals 1, 4, 5, 9 and 11 applies
pub record Taken (C : List ℤ) (t : Tables) (st : State) (w : Places) : Type 0 where
  pub shape : Shape t st
  pub rule : WindowRule st.v w
  pub idle : st.pass ≡ Idle
  pub unmarked : st.mark ≡ false
  pub fresh : st.fresh ≡ true
  pub newcomer : Newcomer st.v C

-- what Sweep's rule makes of a clause by the stamps in the tables
abbrev pub fate_in : Tables → List ℤ → Fate
fate_in t C = sweep_clause (columns t.times t.links) C

pub learn_cases : (C : List ℤ) (t : Tables) (st : State) (w : Places) (P : AfterWindow → Type 0) → ((r : Refusal) → P (refuse_with r t st w)) → (Taken C t st w → P (learn_by (fate_in t C) C t st w)) → P (learn_call C t st w)
unfolding learn_call
learn_cases C t st w P refused taken = by_shape (shape_ok t st) refl
  where
    by_newcomer : Shape t st → WindowRule st.v w → st.pass ≡ Idle → st.mark ≡ false → st.fresh ≡ true → (b : Bool) → learnable_ok st.v C ≡ b → P (learn_if b C t st w)
    by_newcomer S R p m f true e = taken (record { shape = S; rule = R; idle = p; unmarked = m; fresh = f; newcomer = (learnable_exact st.v C).holds e })
    by_newcomer S R p m f false e = refused refusal.Newcomer

    by_stamps : Shape t st → WindowRule st.v w → st.pass ≡ Idle → st.mark ≡ false → (b : Bool) → st.fresh ≡ b → P (learn_unless_stale b C t st w)
    by_stamps S R p m true e = by_newcomer S R p m e (learnable_ok st.v C) refl
    by_stamps S R p m false e = refused refusal.Stale

    by_opening : Shape t st → WindowRule st.v w → (p : Pass) (m : Bool) → st.pass ≡ p → st.mark ≡ m → P (learn_opening (opening_by p m) C t st w)
    by_opening S R Idle true p m = refused refusal.Marked
    by_opening S R Idle false p m = by_stamps S R p m st.fresh refl
    by_opening S R (Propagate k changed) mark p m = refused refusal.OtherPass
    by_opening S R (Merge k) mark p m = refused refusal.OtherPass
    by_opening S R (Sweep k) mark p m = refused refusal.OtherPass

    by_window : Shape t st → (b : Bool) → window_ok st.v w ≡ b → P (learn_ruled b C t st w)
    by_window S true e = by_opening S ((window_exact st.v w).holds e) st.pass st.mark refl refl
    by_window S false e = refused refusal.Shape

    by_shape : (b : Bool) → shape_ok t st ≡ b → P (elim b as (λ x. AfterWindow) [ true ↦ learn_ruled (window_ok st.v w) C t st w | false ↦ refuse_with refusal.Shape t st w ])
    by_shape true e = by_window ((shape_exact t st).holds e) (window_ok st.v w) refl
    by_shape false e = refused refusal.Shape

-- ---- parts of a clause

-- a part of a clause meets what the shape rule asks of a clause's literals
part_fits : {v : ℕ} {u : List ℤ} {b : Bool} {D C : List ℤ} → Sublistᴰ D C → FitClause v u b C → FitClause v u b D
part_fits Sublistᴰ.slnil F = F
part_fits (Sublistᴰ.cons s) F = part_fits s (fit_tail F)
part_fits {v} {u} {b} (Sublistᴰ.cons-cons {a = x} {b = y} {l₁ = D} {l₂ = C} e s) F =
    subst (λ (z : ℤ). FitClause v u b (z ∷ D)) (sym e) (fit_cons (record { ranged = (fit_head F).ranged; apart = apart; own = (fit_head F).own }) (part_fits s (fit_tail F)))
  where
    apart : (j : ℕ) → j < length D → nat_abs y ≡ nat_abs (get_or D j (pos 0)) → ⊥
    apart j h q = let r = mem_get_d C (pos 0) (sub_mem s (get_d_mem D j (pos 0) h)) in (fit_head F).apart r.0 r.1 (q ∙ ap nat_abs (sym r.2))

-- a newcomer's literals meet it, of variables that need not be their own class
pub newcomer_fits : {v : ℕ} {C : List ℤ} → Newcomer v C → FitClause v [] false C
newcomer_fits {v} {C} N = record {
  ranged = λ k h. subst (λ (i : ℕ). Literal v (get_or C i (pos 0))) (from_zero k) (N.ranged k h);
  once = λ k h j l e. N.once k h j l (ap (λ (i : ℕ). nat_abs (get_or C i (pos 0))) (from_zero j) ∙ e ∙ ap (λ (i : ℕ). nat_abs (get_or C i (pos 0))) (sym (from_zero k)));
  own = λ e. absurd (false≢true e);
}
  where
    from_zero : (k : ℕ) → 0 + k ≡ k
    from_zero k = omega arith

fits_newcomer : {v : ℕ} {C : List ℤ} → length C ≤ 64 → FitClause v [] false C → Newcomer v C
fits_newcomer {v} {C} few F = record {
  few = few;
  ranged = λ k h. subst (λ (i : ℕ). Literal v (get_or C i (pos 0))) (to_zero k) (F.ranged k h);
  once = λ k h j l e. F.once k h j l (ap (λ (i : ℕ). nat_abs (get_or C i (pos 0))) (to_zero j) ∙ e ∙ ap (λ (i : ℕ). nat_abs (get_or C i (pos 0))) (sym (to_zero k)));
}
  where
    to_zero : (k : ℕ) → k ≡ 0 + k
    to_zero k = omega arith

-- 11 does not forbid a part of a clause that it does not forbid
newcomer_part : {v : ℕ} {D C : List ℤ} → Sublistᴰ D C → Newcomer v C → Newcomer v D
newcomer_part s N = fits_newcomer (omega (arith, sub_length s, N.few)) (part_fits s (newcomer_fits N))

-- ---- whole, shortened or dropped

-- D is what is left of the newcomer C, and is shorter
pub record Short (C D : List ℤ) (t : Tables) (st : State) : Type 0 where
  pub fate : fate_in t C ≡ left D
  pub part : Sublistᴰ D C
  pub less : length D < length C
  pub newcomer : Newcomer st.v D

pub learn_ways : (C : List ℤ) (t : Tables) (st : State) (w : Places) (P : AfterWindow → Type 0) → ((r : Refusal) → P (refuse_with r t st w))
    → (Taken C t st w → P (after_window (answered (KeptWhole (length C)) st t) (keep C w)))
    → (Taken C t st w → (D : List ℤ) → Short C D t st → P (after_window (answered (KeptShort (length D)) st t) (keep D w)))
    → (Taken C t st w → fate_in t C ≡ dropped → P (after_window (answered NotKept st t) w))
    → P (learn_call C t st w)
learn_ways C t st w P refused whole short gone = learn_cases C t st w P refused (λ T. by_fate T)
  where
    same : Taken C t st w → (D : List ℤ) → D ≡ C → P (after_window (answered (KeptWhole (length D)) st t) (keep D w))
    same T D e = subst (λ (E : List ℤ). P (after_window (answered (KeptWhole (length E)) st t) (keep E w))) (sym e) (whole T)

    -- by whether so many literals are left as there were
    by_length : Taken C t st w → (D : List ℤ) → fate_in t C ≡ left D → Sublistᴰ D C → (b : Bool) → eqb (length D) (length C) ≡ b
        → P (after_window (answered (elim b [ true ↦ KeptWhole (length D) | false ↦ KeptShort (length D) ]) st t) (keep D w))
    by_length T D e s true q = same T D (sub_full s (omega (arith, eqb-true (length D) (length C) q)))
    by_length T D e s false q = short T D (record { fate = e; part = s; less = omega (arith, eqb-false (length D) (length C) q, sub_length s); newcomer = newcomer_part s T.newcomer })

    alike : Taken C t st w → (b : Bool) → eqb (length C) (length C) ≡ b → P (after_window (answered (elim b [ true ↦ KeptWhole (length C) | false ↦ KeptShort (length C) ]) st t) (keep C w))
    alike T true q = whole T
    alike T false q = absurd (eqb-false (length C) (length C) q refl)

    by_fate : Taken C t st w → P (learn_by (fate_in t C) C t st w)
    by_fate T =
        sweep_cases (columns t.times t.links) C (λ (x : Fate). fate_in t C ≡ x → P (learn_by x C t st w))
        (λ few e. alike T (eqb (length C) (length C)) refl)
        (λ D s e. by_length T D e s (eqb (length D) (length C)) refl)
        (λ e. gone T e)
        refl
