-- What Sweep makes of a clause is one thing (`swept_unique`). So a Sweep call that is made instead of an accepted explain, on the same tables with the same state, and that goes as far as the clause, does what the verdict says, and takes out the literals that were shown (`explain_visit`). Assumes nothing.
use Prim.Native.Nat.{ℕ, ◌+◌, ◌-◌, ◌≤◌, ◌<◌, min}
use native.Mathlib.Nat.{min-eq_left, min-eq_right}
use native.Mathlib.Omega.{arith}
use mathlib.Core.Path.{◌≡◌, refl, sym, ap, subst, subst₂, ◌∙◌}
use mathlib.Core.Logic.{◌⊎◌, inl, inr, ⊎_elim}
use mathlib.Core.List.{List, [], ◌∷◌}
use lib.ListN.{length}
use lib.IntN.{ℤ, neg_ℤ}
use Rattle.base.specs.Decide.{le_or}
use Rattle.state.specs.declared.State.{State}
use Rattle.state.specs.declared.Verdict.TheVariants.{Shorten}
use Rattle.tables.specs.Tables.{Tables}
use Rattle.sweep.specs.Sweep.{sweep_call}
use Rattle.explain.specs.Explain.{explain_call}
use Rattle.paper.specs.Clauses.{clause_at, flag_at}
use Rattle.paper.specs.Records.{Holds}
use Rattle.paper.specs.Sweeping.{Filtered, none, stays, goes, ToNoOther, Shortened, SweptAs, swept_at, swept_from, swept_to}
use Rattle.paper.proofs.SweepVisit.{sweep_visit}
use Rattle.paper.proofs.SweepCall.{sweep_call_lem}
use Rattle.reasons.specs.Explained.{Named, Judges, TakenShown, ExplainedAs}
use Rattle.reasons.proofs.Cases.{Asked, explain_asked}

filtered_unique : {P : ℤ → Type 0} {C D E : List ℤ} → Filtered P C D → Filtered P C E → D ≡ E
filtered_unique none none = refl
filtered_unique (stays {l} p F) (stays q G) = ap (λ (X : List ℤ). l ∷ X) (filtered_unique F G)
filtered_unique (stays p F) (goes d G) = absurd (d p)
filtered_unique (goes d F) (stays p G) = absurd (d p)
filtered_unique (goes d F) (goes q G) = filtered_unique F G

shortened_unique : {t : Tables} {C D E : List ℤ} → Shortened t C D → Shortened t C E → D ≡ E
shortened_unique {t} {C} {D} {E} X Y = filtered_unique X.second (subst (λ (R : List ℤ). Filtered (ToNoOther (λ l m. Holds t (neg_ℤ m) (neg_ℤ l)) R) R E) (filtered_unique Y.first X.first) Y.second)

-- where the one is dropped, so is the other
both_dropped : {t : Tables} (C : List ℤ) {f g : ℕ} {D E : List ℤ} → SweptAs t C f D → SweptAs t C g E → f ≡ 0 → g ≡ 0
both_dropped [] X Y z = absurd (omega (arith, z, (X.short (omega arith)).0))
both_dropped (a ∷ []) X Y z = absurd (omega (arith, z, (X.short (omega arith)).0))
both_dropped (a ∷ b ∷ []) X Y z = (Y.pair a b refl).1 ((X.pair a b refl).0 z)
both_dropped (a ∷ b ∷ c ∷ C) X Y z = (Y.long (omega arith)).1 ((X.long (omega arith)).0 z)

swept_unique : {t : Tables} {C : List ℤ} {f g : ℕ} {D E : List ℤ} → SweptAs t C f D → SweptAs t C g E → (f ≡ g) × (D ≡ E)
swept_unique {t} {C} {f} {g} {D} {E} X Y = by X.flags Y.flags
  where
    left_both : f ≡ 1 → g ≡ 1 → D ≡ E
    left_both x y = ⊎_elim (λ (h : 2 ≤ length C). shortened_unique (X.shortened h x) (Y.shortened h y)) (λ (h : length C < 2). (X.short h).1 ∙ sym (Y.short h).1) (le_or 2 (length C))

    by : (f ≡ 0) ⊎ (f ≡ 1) → (g ≡ 0) ⊎ (g ≡ 1) → (f ≡ g) × (D ≡ E)
    by (inl x) (inl y) = (x ∙ sym y, X.dropped x ∙ sym (Y.dropped y))
    by (inl x) (inr y) = absurd (omega (arith, y, both_dropped C X Y x))
    by (inr x) (inl y) = absurd (omega (arith, x, both_dropped C Y X y))
    by (inr x) (inr y) = (x ∙ sym y, left_both x y)

-- ---- a Sweep call

in_steps : (i steps n : ℕ) → i < steps → i < n → i < 0 + min steps (n - 0)
in_steps i steps n a b =
    ⊎_elim
    (λ (le : steps ≤ n - 0). let e : min steps (n - 0) ≡ steps = min-eq_left le in omega (arith, e, a))
    (λ (gt : n - 0 < steps). let e : min steps (n - 0) ≡ n - 0 = min-eq_right (omega (arith, gt)) in omega (arith, e, b))
    (le_or steps (n - 0))

module _ (number steps : ℕ) (t : Tables) (st : State) (out : List ℕ) (asked : (explain_call number t st out).reply.number ≡ 0) (enough : number ≤ steps) (swept : (sweep_call steps t st).reply.number ≡ 0) where
  abbrev t' : Tables
  t' = (sweep_call steps t st).tables

  asked_by : Asked t st
  asked_by = explain_asked number t st out asked

  same_visit : (N : Named number t st) → (flag_at (swept_at t N.at) N.at ≡ flag_at t' N.at) × (clause_at (swept_at t N.at) N.at ≡ clause_at t' N.at)
  same_visit N =
      let begins : swept_from st.pass ≡ 0 = ap swept_from asked_by.entered.pass in
      let in-call : N.at < swept_to steps st = subst (λ (k : ℕ). N.at < k + min steps (st.n - k)) (sym begins) (in_steps N.at steps st.n (omega (arith, N.numbered, enough)) N.within) in
      swept_unique (sweep_visit t st asked_by.entered.shape asked_by.fresh N.at N.within N.stands) ((sweep_call_lem steps t st swept).visited N.at (omega (arith, begins)) in-call N.stands)

  pub explain_visit : (E : ExplainedAs number t st out (explain_call number t st out))
      → Judges E.verdict (clause_at t E.named.at) (flag_at t' E.named.at) (clause_at t' E.named.at)
      × (E.verdict ≡ Shorten → TakenShown t (clause_at t E.named.at) (clause_at t' E.named.at) E.count E.chains)
  explain_visit E =
      let same = same_visit E.named in (
        subst₂ (Judges E.verdict (clause_at t E.named.at)) same.0 same.1 E.judges,
        λ v. subst (λ (D : List ℤ). TakenShown t (clause_at t E.named.at) D E.count E.chains) same.1 (E.taken_shown v),
      )
