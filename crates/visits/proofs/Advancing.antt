-- A call of a pass that goes through the clauses once, by any rule: it is Open exactly if visits are left, and its answer is what its visits and its counts give. Assumes nothing.
use Prim.Native.Nat.{ℕ, ◌+◌, ◌-◌, ◌≤◌, ◌<◌, min}
use native.Mathlib.Nat.{min-eq_left}
use native.Mathlib.Omega.{arith}
use mathlib.Core.Path.{◌≡◌, refl, sym, ap, ◌∙◌}
use mathlib.Core.Bool.{Bool, true, false}
use mathlib.Core.List.{List}
use lib.Dec.{ltb}
use lib.IntN.{ℤ}
use borrow.Author.Tests.{lt-ltb, le-ltb, ltb-true, ltb-false}
use Rattle.state.specs.States.{opened, closed}
use Rattle.state.specs.declared.State.{State}
use Rattle.state.specs.declared.Counts.{Counts}
use Rattle.state.specs.declared.Pass.{Pass}
use Rattle.state.specs.declared.Answer.TheVariants.{Open, Done}
use Rattle.tables.specs.Tables.{Tables}
use Rattle.tables.specs.Clauses.{gone}
use Rattle.tables.specs.Fates.{Fate, visits}
use Rattle.tables.specs.Passes.{stopped_at, advance}
use Rattle.tables.specs.Calls.{After, answered}
use Rattle.visits.specs.Visited.{stands_at}

module _ (pass : Pass) (freshOpen freshDone : Bool) (counts : Counts) (k : ℕ) (st : State) (t : Tables) where
  by_test : Bool → After
  by_test b =
      elim b [
        | true ↦ answered (Open counts) (opened pass freshOpen st) t
        | false ↦ answered (Done counts) (closed freshDone st) t
      ]

  pub stands_open : k < st.n → answered (Open counts) (opened pass freshOpen st) t ≡ stands_at pass freshOpen freshDone counts k st t
  unfolding by_test
  stands_open h = ap by_test (sym (lt-ltb k st.n h))

  pub stands_done : st.n ≤ k → answered (Done counts) (closed freshDone st) t ≡ stands_at pass freshOpen freshDone counts k st t
  unfolding by_test
  stands_done h = ap by_test (sym (le-ltb k st.n h))

  -- what holds of both answers holds of the call's
  stands_cases : (P : After → Type 0) → (k < st.n → P (answered (Open counts) (opened pass freshOpen st) t)) → (st.n ≤ k → P (answered (Done counts) (closed freshDone st) t))
      → P (stands_at pass freshOpen freshDone counts k st t)
  unfolding by_test
  stands_cases P more none = go (ltb k st.n) refl
    where
      go : (b : Bool) → ltb k st.n ≡ b → P (by_test b)
      go true e = more (ltb-true k st.n e)
      go false e = none (ltb-false k st.n e)

module _ (pass : ℕ → Pass) (freshOpen freshDone : Bool) where
  module _ (rule : List ℤ → Fate) (steps k : ℕ) (t : Tables) (st : State) where
    -- m visits are made, and they are as many as the steps and the clauses left allow
    pub advanced : (m : ℕ) → m ≡ min steps (st.n - k) → (t' : Tables) → t' ≡ visits rule m k t → (counts : Counts) → counts ≡ gone m st.n t.clauses t'.clauses
        → stands_at (pass (k + m)) freshOpen freshDone counts (k + m) st t' ≡ advance rule pass freshOpen freshDone steps k t st
    unfolding advance
    advanced m few t' made counts counted =
        ap (λ (x : Counts). stands_at (pass (k + m)) freshOpen freshDone x (k + m) st t') counted
        ∙ ap (λ (u : Tables). stopped_at pass freshOpen freshDone m (k + m) t.clauses u st) made
        ∙ ap (λ (j : ℕ). stopped_at pass freshOpen freshDone j (k + j) t.clauses (visits rule j k t) st) few

    -- what holds of the tables after the visits, Open with the cursor and Done, holds of the call
    pub advance_cases : (P : After → Type 0)
        → ((counts : Counts) → k + min steps (st.n - k) < st.n → P (answered (Open counts) (opened (pass (k + min steps (st.n - k))) freshOpen st) (visits rule (min steps (st.n - k)) k t)))
        → ((counts : Counts) → st.n ≤ k + min steps (st.n - k) → P (answered (Done counts) (closed freshDone st) (visits rule (min steps (st.n - k)) k t)))
        → P (advance rule pass freshOpen freshDone steps k t st)
    unfolding advance
    advance_cases P more none =
        let m : ℕ = min steps (st.n - k) in
        let u : Tables = visits rule m k t in
        let counts : Counts = gone m st.n t.clauses u.clauses in
        stands_cases (pass (k + m)) freshOpen freshDone counts (k + m) st u P (more counts) (none counts)

  -- a whole pass: a visit for each clause, and none is left
  pub advance_whole : (rule : List ℤ → Fate) (t : Tables) (st : State)
      → advance rule pass freshOpen freshDone st.n 0 t st ≡ answered (Done (gone st.n st.n t.clauses (visits rule st.n 0 t).clauses)) (closed freshDone st) (visits rule st.n 0 t)
  advance_whole rule t st =
      let u : Tables = visits rule st.n 0 t in
      let counts : Counts = gone st.n st.n t.clauses u.clauses in
      sym (stands_done (pass (0 + st.n)) freshOpen freshDone counts (0 + st.n) st u (omega arith) ∙ advanced rule st.n 0 t st st.n (sym (min-eq_left (omega arith))) u refl counts refl)
