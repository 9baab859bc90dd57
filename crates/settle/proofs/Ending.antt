-- A whole Propagate ends: each time through the clauses but the last takes a literal away, so the visits that Settle allows are enough; and after the last time through no clause is unsettled. Assumes nothing.
use Prim.Native.Nat.{ℕ, zero, suc, ◌+◌, ◌*◌, ◌≤◌, ◌<◌}
use native.Mathlib.Nat.{mul-le-mul_right, add-mul}
use native.Mathlib.Numerals.{add-one}
use native.Mathlib.Omega.{arith}
use mathlib.Core.Path.{◌≡◌, refl, sym, ap, subst, ◌∙◌}
use mathlib.Core.Bool.{Bool, true, false}
use lib.ListN.{take}
use lib.Dec.{ltb}
use borrow.Author.Tests.{ltb-true, ltb-false}
use Rattle.base.specs.Decide.{below_cons}
use Rattle.state.specs.declared.State.{State}
use Rattle.tables.specs.Tables.{Tables}
use Rattle.tables.specs.Clauses.{literal_count}
use Rattle.tables.specs.Passes.{unsettled, first_unsettled}
use Rattle.visits.specs.Formed.{Formed}
use Rattle.visits.proofs.StoreKeeps.{FormedIn}
use Rattle.visits.proofs.Looking.{FoundFrom, found_none, found_next, found_end}
use Rattle.propagate_visits.specs.Visits.{Progress, going, settled, contradicted, onward, propagate_visits, begin}
use Rattle.settle.specs.Settle.{enough}
use Rattle.settle.proofs.Measure.{total, literals_total}
use Rattle.settle.proofs.Visit.{bit, Went, visit_cases}

-- ---- no clause is unsettled

pub none_unsettled : (t : Tables) (n : ℕ) → ((j : ℕ) → j < n → unsettled t j ≡ false) → first_unsettled t n ≡ n
none_unsettled t n all = sym (found_end t n n (omega arith) (omega arith) (found n (omega arith)))
  where
    found : (m : ℕ) → m ≤ n → FoundFrom t n m
    found zero h = found_none t n
    found (suc m) h = subst (FoundFrom t n) (add-one m) (found_next t n m h (found m (omega arith)) (sym (all m h)))

-- ---- where the pass ends

-- without the flag, the clauses that this time through has visited are settled
abbrev Seen : ℕ → Bool → Tables → Type 0
Seen k changed t = changed ≡ false → (j : ℕ) → j < k → unsettled t j ≡ false

-- the pass has ended; the tables are formed, under the mark if it has met the empty clause; if it has not, no clause is unsettled
abbrev pub Final : ℕ → ℕ → Progress → Type 0
Final v n (going k changed t) = ⊥
Final v n (settled t) = FormedIn v n t × (first_unsettled t n ≡ n)
Final v n (contradicted t) = Formed v n n true t.clauses t.literals t.variables

ended_stays : (v n : ℕ) (m made : ℕ) (p : Progress) → Final v n p → Final v n (propagate_visits n m made p).progress
unfolding propagate_visits
ended_stays v n zero made p G = G
ended_stays v n (suc m) made (going k changed t) G = absurd G
ended_stays v n (suc m) made (settled t) G = G
ended_stays v n (suc m) made (contradicted t) G = G

-- m visits are enough from clause k on: a time through for each literal, one if the flag is set, and the last
abbrev Allowed : ℕ → ℕ → ℕ → Bool → Tables → Type 0
Allowed n m k changed t = (total t.clauses n + bit changed) * n + n ≤ m + k

abbrev Ends : ℕ → ℕ → ℕ → Type 0
Ends v n m = (made k : ℕ) (changed : Bool) (t : Tables) → FormedIn v n t → k < n → Seen k changed t → Allowed n m k changed t → Final v n (propagate_visits n m made (going k changed t)).progress

-- after a visit to clause k that has not met the empty clause
module _ (v n : ℕ) (m made k : ℕ) (changed : Bool) (t : Tables) (lt : k < n) (S : Seen k changed t) (A : Allowed n (suc m) k changed t) (rest : Ends v n m)
    (after : Bool) (u : Tables) (W : Went v n k changed t after u) where
  -- there are no more literals and flags than before, so as many visits are enough
  scaled : (total u.clauses n + bit after) * n + n ≤ suc m + k
  scaled = let h = mul-le-mul_right {m = total u.clauses n + bit after} {n = total t.clauses n + bit changed} n W.less in omega (arith, h, A)

  -- one clause more is seen
  seen : Seen (suc k) after u
  seen e =
      let s = W.still e in
      subst (λ (x : Tables). (j : ℕ) → j < suc k → unsettled x j ≡ false) (sym s.1.0) (below_cons {P = λ j. unsettled t j ≡ false} k s.1.1 (S s.0))

  -- again from the first clause, without the flag
  again : n ≤ suc k → after ≡ true → Allowed n m 0 false u
  again h e =
      let d : (total u.clauses n + 0) * n + n ≡ (total u.clauses n + bit after) * n = sym (ap (λ (b : Bool). (total u.clauses n + bit b) * n) e ∙ once) in
      omega (arith, d, scaled)
    where
      once : (total u.clauses n + 1) * n ≡ (total u.clauses n + 0) * n + n
      once = omega (arith, add-mul (total u.clauses n) 1 n, add-mul (total u.clauses n) 0 n)

  goes_on : Final v n (propagate_visits n m made (onward n (suc k) after u)).progress
  goes_on = by (ltb (suc k) n) refl after refl
    where
      by : (x : Bool) → ltb (suc k) n ≡ x → (y : Bool) → after ≡ y
          → Final v n (propagate_visits n m made (elim x as (λ z. Progress) [ true ↦ going (suc k) y u | false ↦ elim y as (λ z. Progress) [ true ↦ going 0 false u | false ↦ settled u ] ])).progress
      by true e y q =
          subst (λ (b : Bool). Final v n (propagate_visits n m made (going (suc k) b u)).progress) q (rest made (suc k) after u W.formed (ltb-true (suc k) n e) seen (omega (arith, scaled)))
      by false e true q = rest made 0 false u W.formed (omega arith) (λ z j h. absurd (omega arith)) (again (ltb-false (suc k) n e) q)
      by false e false q = ended_stays v n m made (settled u) (W.formed, none_unsettled u n (λ j h. seen q j (omega (arith, h, ltb-false (suc k) n e))))

ends : (v n m : ℕ) → Ends v n m
unfolding propagate_visits
ends v n zero made k changed t F lt S A = absurd (omega (arith, A, lt))
ends v n (suc m) made k changed t F lt S A =
    visit_cases t F k lt changed (λ p. Final v n (propagate_visits n m (suc made) p).progress) (λ u G. ended_stays v n m (suc made) (contradicted u) G)
    (λ after u W. goes_on v n m (suc made) k changed t lt S A (ends v n m) after u W)

-- THE THEOREM: from the beginning, `enough` visits are enough
pub begin_ends : (t : Tables) (st : State) → FormedIn st.v st.n t → Final st.v st.n (propagate_visits st.n (enough t st) 0 (begin st.n t)).progress
begin_ends t st F = by st.n F refl
  where
    by : (n : ℕ) → FormedIn st.v n t → st.n ≡ n → Final st.v n (propagate_visits n (enough t st) 0 (begin n t)).progress
    by zero G e = ended_stays st.v 0 (enough t st) 0 (settled t) (G, none_unsettled t 0 (λ j h. absurd (omega arith)))
    by (suc n) G e = ends st.v (suc n) (enough t st) 0 0 false t G (omega arith) (λ z j h. absurd (omega arith)) room
      where
        room : Allowed (suc n) (enough t st) 0 false t
        room =
            omega (
              arith,
              add-mul (literal_count (take (3 * suc n) t.clauses)) 2 (suc n),
              add-mul (total t.clauses (suc n)) 0 (suc n),
              ap (λ (x : ℕ). x * suc n) (literals_total G),
              ap (λ (x : ℕ). (literal_count (take (3 * x) t.clauses) + 2) * x) e,
            )
