-- Sweep calls in a row, accepted and refused ones, finished and stopped: together they have made the visits to the first clauses, under the stamps of the beginning (`sweeps_made`). Assumes nothing.
use Prim.Native.Nat.{ℕ, zero, suc, ◌+◌, ◌-◌, ◌≤◌, min}
use native.Mathlib.Nat.{min-le_right}
use native.Mathlib.Omega.{arith}
use mathlib.Core.Path.{◌≡◌, refl, sym, ap, subst, ◌∙◌}
use mathlib.Core.Bool.{true, false}
use mathlib.Core.Logic.{◌⊎◌, inl, inr}
use mathlib.Core.List.{List, [], ◌∷◌}
use lib.IntN.{ℤ}
use Rattle.std.specs.Prelude.{Result, Ok, Err}
use Rattle.stamp_columns.specs.Columns.{columns}
use Rattle.state.specs.States.{opened, closed}
use Rattle.state.specs.declared.State.{State}
use Rattle.state.specs.declared.Refusal.{Refusal}
use Rattle.state.specs.declared.Refusal.TheVariants.{Stale}
use Rattle.state.specs.declared.Pass.{Pass}
use Rattle.state.specs.declared.Pass.TheVariants.{Idle, Sweep}
use Rattle.tables.specs.Tables.{Tables}
use Rattle.tables.specs.Fates.{Fate, visit, visits}
use Rattle.tables.specs.Calls.{After, refuse}
use Rattle.entry.specs.Entry.{entry_of}
use Rattle.entry.specs.declared.PassName.TheVariants as own
use Rattle.entry.specs.declared.Entry.{Entry}
use Rattle.entry.specs.declared.Entry.TheVariants.{Opens, Resumes}
use Rattle.entry.proofs.Entering.{opens_entered, resumes_entered}
use Rattle.visits.proofs.Visiting.{visits_beside}
use Rattle.visits.proofs.Advancing.{advance_cases}
use Rattle.sweep_visits.specs.Clause.{sweep_clause}
use Rattle.sweep_visits.proofs.Visiting.{sweep_shrinks}
use Rattle.sweep.specs.Sweep.{sweep_from, sweep_by, sweep_call}
use Rattle.paper.specs.Sweeping.{swept_from, sweeps}

-- a visits from clause k on, then b more from where they end
visits_join : (rule : List ℤ → Fate) (a b k j : ℕ) → k + a ≡ j → (t : Tables) → visits rule b j (visits rule a k t) ≡ visits rule (a + b) k t
unfolding visits
visits_join rule zero b k j e t = λ i. visits rule (let z : b ≡ 0 + b = omega arith in z i) (let z : j ≡ k = omega arith in z i) t
visits_join rule (suc a) b k j e t = visits_join rule a b (suc k) j (omega arith) (visit rule k t) ∙ ap (λ (m : ℕ). visits rule m k t) (let z : suc (a + b) ≡ suc a + b = omega arith in z)

module _ (t : Tables) (st : State) where
  abbrev rule : List ℤ → Fate
  rule = sweep_clause (columns t.times t.links)

  -- where the calls stand: none has opened the pass, it is open with the cursor behind the visits, or it has ended and the stamps are spent
  abbrev At : ℕ → State → Type 0
  At k s = ((k ≡ 0) × (s ≡ closed true st)) ⊎ ((s ≡ opened (Sweep k) true st) ⊎ (s ≡ closed false st))

  pub record Made (a : After) : Type 0 where
    pub count : ℕ
    pub within : count ≤ st.n
    pub made : a.tables ≡ visits rule count 0 t
    pub stands : At count a.state

  -- a call that goes on from clause k
  goes_on : (k steps : ℕ) (p : Pass) (u : Tables) → k ≤ st.n → u ≡ visits rule k 0 t → Made (sweep_from steps k u (opened p true st))
  goes_on k steps p u le e =
      let m : ℕ = min steps (st.n - k) in
      let far : k + m ≤ st.n = omega (arith, le, min-le_right steps (st.n - k)) in
      let same = (visits_beside rule (sweep_shrinks (columns t.times t.links)) k 0 t).stamps in
      let own : sweep_clause (columns u.times u.links) ≡ rule = (λ i. sweep_clause (columns ((ap (λ (x : Tables). x.times) e ∙ same.times) i) ((ap (λ (x : Tables). x.links) e ∙ same.links) i))) in
      let all : visits (sweep_clause (columns u.times u.links)) m k u ≡ visits rule (k + m) 0 t = (λ i. visits (own i) m k (e i)) ∙ visits_join rule k m 0 k (omega arith) t in
      advance_cases Sweep true false (sweep_clause (columns u.times u.links)) steps k u (opened p true st) Made
      (λ counts lt. record { count = k + m; within = far; made = all; stands = inr (inl refl) })
      (λ counts done. record { count = k + m; within = far; made = all; stands = inr (inr refl) })

  -- a call that is refused
  stays : (k : ℕ) (u : Tables) (s : State) (r : Refusal) → k ≤ st.n → u ≡ visits rule k 0 t → At k s → Made (refuse r s u)
  stays k u s r le e h = record { count = k; within = le; made = e; stands = h }

  -- no pass is Idle and Sweep
  not_open : {k : ℕ} → ◌≡◌ {A = Pass} Idle (Sweep k) → ⊥
  not_open e = let z : ◌≡◌ {A = ℕ} 0 1 = cc in omega arith

  -- from each of the three places
  from_none : (steps : ℕ) (u : Tables) → u ≡ visits rule 0 0 t → Made (sweep_by (entry_of own.Sweep u (closed true st)) steps u (closed true st))
  from_none steps u e = by (entry_of own.Sweep u (closed true st)) refl
    where
      by : (x : Result Entry Refusal) → entry_of own.Sweep u (closed true st) ≡ x → Made (sweep_by x steps u (closed true st))
      by (Err r) q = stays 0 u (closed true st) r (omega arith) e (inl (refl, refl))
      by (Ok Opens) q = goes_on 0 steps Idle u (omega arith) e
      by (Ok (Resumes k changed)) q = absurd (not_open (resumes_entered own.Sweep u (closed true st) k changed q).pass)

  from_open : (steps k : ℕ) (u : Tables) → k ≤ st.n → u ≡ visits rule k 0 t → Made (sweep_by (entry_of own.Sweep u (opened (Sweep k) true st)) steps u (opened (Sweep k) true st))
  from_open steps k u le e = by (entry_of own.Sweep u (opened (Sweep k) true st)) refl
    where
      by : (x : Result Entry Refusal) → entry_of own.Sweep u (opened (Sweep k) true st) ≡ x → Made (sweep_by x steps u (opened (Sweep k) true st))
      by (Err r) q = stays k u (opened (Sweep k) true st) r le e (inr (inl refl))
      by (Ok Opens) q = absurd (not_open (sym (opens_entered own.Sweep u (opened (Sweep k) true st) q).pass))
      by (Ok (Resumes j changed)) q =
          let same : k ≡ j = ap swept_from (resumes_entered own.Sweep u (opened (Sweep k) true st) j changed q).pass in
          subst (λ (i : ℕ). Made (sweep_from steps i u (opened (Sweep k) true st))) same (goes_on k steps (Sweep k) u le e)

  from_spent : (steps k : ℕ) (u : Tables) → k ≤ st.n → u ≡ visits rule k 0 t → Made (sweep_by (entry_of own.Sweep u (closed false st)) steps u (closed false st))
  from_spent steps k u le e = by (entry_of own.Sweep u (closed false st)) refl
    where
      by : (x : Result Entry Refusal) → entry_of own.Sweep u (closed false st) ≡ x → Made (sweep_by x steps u (closed false st))
      by (Err r) q = stays k u (closed false st) r le e (inr (inr refl))
      by (Ok Opens) q = stays k u (closed false st) Stale le e (inr (inr refl))
      by (Ok (Resumes j changed)) q = absurd (not_open (resumes_entered own.Sweep u (closed false st) j changed q).pass)

  step : (steps : ℕ) (a : After) → Made a → Made (sweep_call steps a.tables a.state)
  unfolding sweep_call
  step steps a M = by M.stands
    where
      By : State → Type 0
      By s = Made (sweep_by (entry_of own.Sweep a.tables s) steps a.tables s)

      by : At M.count a.state → By a.state
      by (inl (z, e)) = subst By (sym e) (from_none steps a.tables (M.made ∙ ap (λ (k : ℕ). visits rule k 0 t) z))
      by (inr (inl e)) = subst By (sym e) (from_open steps M.count a.tables M.within M.made)
      by (inr (inr e)) = subst By (sym e) (from_spent steps M.count a.tables M.within M.made)

-- at the beginning no visit is made
pub none_made : (t : Tables) (st : State) (a : After) → a.tables ≡ t → a.state ≡ closed true st → Made t st a
unfolding visits
none_made t st a e f = record { count = 0; within = omega arith; made = e; stands = inl (refl, f) }

-- THE LAW
pub sweeps_made : (t : Tables) (st : State) (ns : List ℕ) (a : After) → Made t st a → Made t st (sweeps ns a)
unfolding sweeps
sweeps_made t st [] a M = M
sweeps_made t st (n ∷ ns) a M = sweeps_made t st ns (sweep_call n a.tables a.state) (step t st n a M)
