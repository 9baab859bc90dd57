-- The call by its cases: refused with 1, 4 or 5, with 9, with 13, with 10, or made (`explain_cases`). Assumes nothing.
use Prim.Native.Nat.{ℕ, zero, suc, ◌-◌, ◌≤◌, ◌<◌}
use native.Mathlib.Omega.{arith}
use mathlib.Core.Path.{◌≡◌, refl, ap, subst, ◌∙◌}
use mathlib.Core.Bool.{Bool, true, false}
use mathlib.Core.List.{List, ◌++◌}
use lib.ListN.{length, drop}
use lib.Dec.{leb}
use borrow.Author.Tests.{leb-true, leb-false, le-leb}
use Rattle.std.specs.Prelude.{Result, Ok, Err}
use Rattle.base.proofs.Booleans.{clash}
use Rattle.state.specs.declared.State.{State}
use Rattle.state.specs.declared.Pass.TheVariants.{Idle}
use Rattle.state.specs.declared.Refusal.{Refusal}
use Rattle.state.specs.declared.Refusal.TheVariants.{Stale, NoClause, Short}
use Rattle.state.specs.declared.Answer.TheVariants.{Explained}
use Rattle.tables.specs.Tables.{Tables, standing}
use Rattle.shape.specs.Shape.{Shape}
use Rattle.entry.specs.Entry.{opening_of}
use Rattle.entry.proofs.Entering.{Entered, granted_entered}
use Rattle.visits.proofs.Forming.{shape_formed, stands_one}
use Rattle.write.specs.Write.{AfterWrite, after_write}
use Rattle.explain.specs.Explain.{stands_by, stands, explain_literals, explain_if, explain_unless_stale, explain_opening, explain_call}
use Rattle.paper.specs.Clauses.{clause_at}
use Rattle.paper.proofs.Accepted.{refusal_above}
use Rattle.reasons.specs.Explained.{Named}
use Rattle.reasons.specs.Refused.{reasons_at, text_at}

-- ---- whether a clause of this number stands

named_stands : (number : ℕ) (t : Tables) (st : State) → Named number t st → stands number st.n t.clauses ≡ true
unfolding stands
named_stands zero t st N = absurd (omega (arith, N.numbered))
named_stands (suc k) t st N =
    let e : k ≡ N.at = omega (arith, N.numbered) in
    let one : standing t.clauses k ≡ 1 = ap (standing t.clauses) e ∙ N.stands in
    rw (le-leb (suc k) st.n (omega (arith, e, N.within)), stands) (ap stands_by one)

stands_named : (number : ℕ) (t : Tables) (st : State) → Shape t st → stands number st.n t.clauses ≡ true → Named number t st
unfolding stands
stands_named zero t st S h = clash h refl
stands_named (suc k) t st S h = by (leb (suc k) st.n) refl h
  where
    flag : k < st.n → (f : ℕ) → standing t.clauses k ≡ f → stands_by f ≡ true → Named (suc k) t st
    flag lt zero e q = clash q refl
    flag lt (suc f) e q = record { at = k; numbered = refl; within = lt; stands = stands_one (shape_formed S) k lt (λ z. omega (arith, z, e)) }

    by : (b : Bool) → leb (suc k) st.n ≡ b → ◌≡◌ {A = Bool} (elim b [ true ↦ stands_by (standing t.clauses k) | false ↦ false ]) true → Named (suc k) t st
    by true e q = flag (leb-true (suc k) st.n e) (standing t.clauses k) refl q
    by false e q = clash q refl

-- ---- the call

-- what is left where 1, 4, 5 and 9 do not apply
pub record Asked (t : Tables) (st : State) : Type 0 where
  pub granted : opening_of t st ≡ Ok tt
  pub entered : Entered Idle t st
  pub fresh : st.fresh ≡ true

module _ (number : ℕ) (t : Tables) (st : State) (out : List ℕ) where
  pub explain_cases : (P : AfterWrite → Type 0)
      → ((r : Refusal) → opening_of t st ≡ Err r → P (after_write (Err r) out))
      → (opening_of t st ≡ Ok tt → st.fresh ≡ false → P (after_write (Err Stale) out))
      → (Asked t st → (Named number t st → ⊥) → P (after_write (Err NoClause) out))
      → (Asked t st → (N : Named number t st) → length out < length (text_at t N.at) → P (after_write (Err (Short (length (text_at t N.at)))) out))
      → (Asked t st → (N : Named number t st) → length (text_at t N.at) ≤ length out
      → P (after_write (Ok (Explained (reasons_at t N.at).verdict (reasons_at t N.at).out (length (text_at t N.at)))) (text_at t N.at ++ drop (length (text_at t N.at)) out)))
      → P (explain_call number t st out)
  unfolding explain_call
  explain_cases P denied stale none short made = by_opening (opening_of t st) refl
    where
      by_length : Asked t st → (N : Named number t st) → P (explain_literals t.times t.links (clause_at t N.at) out)
      by_length A N = go (leb (length (text_at t N.at)) (length out)) refl
        where
          go : (b : Bool) → leb (length (text_at t N.at)) (length out) ≡ b
              → P (elim b as (λ x. AfterWrite) [
                | true ↦ after_write (Ok (Explained (reasons_at t N.at).verdict (reasons_at t N.at).out (length (text_at t N.at)))) (text_at t N.at ++ drop (length (text_at t N.at)) out)
                | false ↦ after_write (Err (Short (length (text_at t N.at)))) out
              ])
          go true e = made A N (leb-true _ _ e)
          go false e = short A N (leb-false (length (text_at t N.at)) (length out) e)

      by_clause : Asked t st → (b : Bool) → stands number st.n t.clauses ≡ b → P (explain_if b number t out)
      by_clause A true e =
          let N = stands_named number t st A.entered.shape e in
          let at : N.at ≡ number - 1 = omega (arith, N.numbered) in
          subst (λ (i : ℕ). P (explain_literals t.times t.links (clause_at t i) out)) at (by_length A N)
      by_clause A false e = none A (λ N. clash (named_stands number t st N) e)

      by_stamps : opening_of t st ≡ Ok tt → (b : Bool) → st.fresh ≡ b → P (explain_unless_stale b number t st out)
      by_stamps g true e = by_clause (record { granted = g; entered = granted_entered t st g; fresh = e }) (stands number st.n t.clauses) refl
      by_stamps g false e = stale g e

      by_opening : (x : Result (Unit {0}) Refusal) → opening_of t st ≡ x → P (explain_opening x number t st out)
      by_opening (Err r) e = denied r e
      by_opening (Ok _) e = by_stamps e st.fresh refl

  -- an accepted call
  pub explain_asked : (explain_call number t st out).reply.number ≡ 0 → Asked t st
  explain_asked =
      explain_cases (λ (a : AfterWrite). a.reply.number ≡ 0 → Asked t st)
      (λ r e taken. absurd (refusal_above r taken)) (λ g e taken. absurd (omega arith)) (λ A none taken. A) (λ A N short taken. A) (λ A N fits taken. A)
