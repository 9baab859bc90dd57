-- What the call of a learnt clause leaves: no table changes, and the state does not (`learn_leaves`).
-- Where it is not refused, the window met its rule and still meets it (`learn_ruled`); where it is, the window is as it was (`learn_refused`).
-- A newcomer that is kept goes behind the clauses of the window, of which the last 64 stay, and one that is dropped leaves the window as it was (`learn_clauses`).
-- Assumes nothing.
use Rattle.std.specs.Prelude.{Ok}
use Prim.Native.Nat.{ℕ}
use native.Mathlib.Omega.{arith}
use mathlib.Core.Path.{◌≡◌, refl, sym, ap, ◌∙◌}
use mathlib.Core.List.{List, [], ◌∷◌, ◌++◌}
use lib.IntN.{ℤ}
use Rattle.state.specs.Answers.{Reply, reply_of}
use Rattle.state.specs.declared.State.{State}
use Rattle.state.specs.declared.Answer.TheVariants.{KeptWhole, KeptShort, NotKept}
use Rattle.state.proofs.Numbers.{number_bounds}
use Rattle.tables.specs.Tables.{Tables}
use Rattle.window.specs.Window.{Places, clauses_of, youngest, last_of, keep, AfterWindow}
use Rattle.window.specs.Rule.{Newcomer, WindowRule}
use Rattle.window.proofs.Keeping.{keep_ruled}
use Rattle.window.proofs.Kept.{keep_youngest, keep_clauses}
use Rattle.learn.specs.Learn.{learn_call}
use Rattle.learn.proofs.Cases.{learn_ways}

-- two replies of different kinds are not the same
pub other_kind : {A : Type 0} {a b : Reply} → (a.kind ≡ b.kind → ⊥) → a ≡ b → A
other_kind differ e = absurd (differ (ap (λ (r : Reply). r.kind) e))

-- what a call says of the newcomer, for the window w that it was handed
pub record Follows (w : Places) (a : AfterWindow) : Type 0 where
  pub whole : (n : ℕ) → a.made.reply ≡ reply_of (Ok (KeptWhole n)) → clauses_of a.window ≡ last_of 64 (clauses_of w ++ (youngest a.window ∷ []))
  pub shortened : (n : ℕ) → a.made.reply ≡ reply_of (Ok (KeptShort n)) → clauses_of a.window ≡ last_of 64 (clauses_of w ++ (youngest a.window ∷ []))
  pub dropped : a.made.reply ≡ reply_of (Ok NotKept) → a.window ≡ w

-- the clauses after one is kept, which is now the youngest
kept_behind : {v : ℕ} {C : List ℤ} {w : Places} → WindowRule v w → Newcomer v C → clauses_of (keep C w) ≡ last_of 64 (clauses_of w ++ (youngest (keep C w) ∷ []))
kept_behind {v} {C} {w} R N = keep_clauses R N ∙ ap (λ (D : List ℤ). last_of 64 (clauses_of w ++ (D ∷ []))) (sym (keep_youngest R N))

module _ (C : List ℤ) (t : Tables) (st : State) (w : Places) where
  pub learn_leaves : ((learn_call C t st w).made.tables ≡ t) × ((learn_call C t st w).made.state ≡ st)
  learn_leaves = learn_ways C t st w (λ (a : AfterWindow). (a.made.tables ≡ t) × (a.made.state ≡ st)) (λ r. (refl, refl)) (λ T. (refl, refl)) (λ T D S. (refl, refl)) (λ T e. (refl, refl))

  pub learn_ruled : (learn_call C t st w).made.reply.number ≡ 0 → WindowRule st.v w × WindowRule st.v (learn_call C t st w).window
  learn_ruled =
      learn_ways C t st w (λ (a : AfterWindow). a.made.reply.number ≡ 0 → WindowRule st.v w × WindowRule st.v a.window)
      (λ r e. absurd (omega (arith, number_bounds r, e)))
      (λ T e. (T.rule, keep_ruled T.rule T.newcomer))
      (λ T D S e. (T.rule, keep_ruled T.rule S.newcomer))
      (λ T f e. (T.rule, T.rule))

  pub learn_refused : ((learn_call C t st w).made.reply.number ≡ 0 → ⊥) → (learn_call C t st w).window ≡ w
  learn_refused =
      learn_ways C t st w (λ (a : AfterWindow). (a.made.reply.number ≡ 0 → ⊥) → a.window ≡ w)
      (λ r n. refl)
      (λ T n. absurd (n refl))
      (λ T D S n. absurd (n refl))
      (λ T f n. refl)

  pub learn_clauses : Follows w (learn_call C t st w)
  learn_clauses =
      learn_ways C t st w (Follows w)
      (λ r. record { whole = λ n e. other_kind (λ k. omega arith) e; shortened = λ n e. other_kind (λ k. omega arith) e; dropped = λ e. refl })
      (λ T. record { whole = λ n e. kept_behind T.rule T.newcomer; shortened = λ n e. other_kind (λ k. omega arith) e; dropped = λ e. other_kind (λ k. omega arith) e })
      (λ T D S. record { whole = λ n e. other_kind (λ k. omega arith) e; shortened = λ n e. kept_behind T.rule S.newcomer; dropped = λ e. other_kind (λ k. omega arith) e })
      (λ T f. record { whole = λ n e. other_kind (λ k. omega arith) e; shortened = λ n e. other_kind (λ k. omega arith) e; dropped = λ e. refl })
