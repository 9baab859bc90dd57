-- The visits of a call, and its answer, put together from them and its two counts. Assumes nothing.
use Prim.Native.Nat.{ℕ, ◌+◌, ◌-◌, ◌≤◌, min}
use native.Mathlib.Omega.{arith}
use mathlib.Core.Path.{◌≡◌, refl, sym, ap, subst, ◌∙◌}
use mathlib.Core.Bool.{Bool}
use mathlib.Core.List.{List, []}
use lib.IntN.{ℤ}
use Rattle.state.specs.declared.State.{State}
use Rattle.state.specs.declared.Counts.{Counts}
use Rattle.state.specs.declared.Pass.TheVariants.{Merge}
use Rattle.tables.specs.Tables.{tables}
use Rattle.tables.specs.Clauses.{gone}
use Rattle.tables.specs.Fates.{visits}
use Rattle.tables.specs.Calls.{After}
use Rattle.visits.specs.Formed.{Counted}
use Rattle.visits.specs.Visited.{stands_at}
use Rattle.visits.proofs.Counting.{formed_counted}
use Rattle.visits.proofs.StoreKeeps.{FormedTo}
use Rattle.visits.proofs.Advancing.{advanced}
use Rattle.merge.specs.Merge.{merge_from}
use Rattle.merge_visits.specs.Clause.{merge_clause}
use Rattle.merge_visits.specs.Visits.{Mergeable}
use Rattle.merge.specs.Steps.{Resumable}
use Rattle.merge_visits.proofs.VisitKeeps.{formed_visits}

-- a call goes from clause k to clause k + m
module _ {st : State} {k : ℕ} {c : List ℕ} {l w : List ℤ} (R : Resumable st k c l w) (m : ℕ) (few : m ≤ st.n - k) where
  ends_within : k + m ≤ st.n
  ends_within = omega (arith, few, R.within)

  pub resumable_mergeable : Mergeable k (k + m) c l w
  resumable_mergeable = record { vars = st.v; number = st.n; formed = R.formed; onward = omega arith; within = ends_within }

  module _ (c' : List ℕ) (l' : List ℤ) (made : (times : List ℕ) (links : List ℤ) → tables c' l' w times links ≡ visits (merge_clause w) (k + m - k) k (tables c l w times links)) where
    pub made_counted : Counted st.n c'
    made_counted =
        formed_counted
        (subst (FormedTo st.v st.n (k + m)) (sym (made [] []))
        (formed_visits st.v st.n (k + m - k) k (k + m) w (tables c l w [] []) refl (omega arith) ends_within R.formed))

    pub advanced_by : (steps : ℕ) → m ≡ min steps (st.n - k) → (fresh : Bool) (times : List ℕ) (links : List ℤ) (x : Counts) → x ≡ gone m st.n c c' → (a : After) → a ≡ stands_at (Merge (k + m)) fresh fresh x (k + m) st (tables c' l' w times links)
        → a ≡ merge_from fresh steps k (tables c l w times links) st
    advanced_by steps is fresh times links x e a h =
        h
        ∙ advanced Merge fresh fresh (merge_clause w) steps k (tables c l w times links) st m is (tables c' l' w times links)
        (made times links ∙ ap (λ (j : ℕ). visits (merge_clause w) j k (tables c l w times links)) (let q : k + m - k ≡ m = omega arith in q)) x e
