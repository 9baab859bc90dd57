-- What refusals 1, 4 and 5 leave to the call, and the ways of the call. Assumes nothing.
use Prim.Native.Nat.{ℕ, ◌-◌}
use native.Mathlib.Omega.{arith}
use mathlib.Core.Path.{◌≡◌, sym, ap}
use mathlib.Core.Bool.{Bool, true, false}
use mathlib.Core.List.{List}
use lib.IntN.{ℤ}
use Rattle.std.specs.Prelude.{Result, Ok, Err}
use Rattle.state.specs.declared.State.{State}
use Rattle.state.specs.declared.Refusal.{Refusal}
use Rattle.state.specs.declared.Refusal.TheVariants.{Stale, NoClause}
use Rattle.tables.specs.Tables.{Tables}
use Rattle.tables.specs.Clauses.{literals_of}
use Rattle.entry.specs.Entry.{opening_of}
use Rattle.entry.proofs.Entering.{granted_entered}
use Rattle.visits.specs.Visited.{Visitable}
use Rattle.visits.proofs.Entered.{entered_formed}
use Rattle.visits.proofs.Forming.{clause_fits}
use Rattle.write.specs.Write.{after_write}
use Rattle.explain.specs.Explain.{stands, explain_literals, explain_unless_stale, explain_opening, explain_call}
use Rattle.explain.specs.Asking.{Clause, Ready}
use Rattle.explain.proofs.Standing.{Stands}
use Rattle.explain.proofs.Few.{few_literals}

pub granted_ready : (t : Tables) (st : State) → opening_of t st ≡ Ok tt → Ready t.clauses t.literals t.times t.links st
granted_ready t st e =
    let E = granted_entered t st e in
    let S = E.shape in
    record {
      variables = t.variables;
      formed = entered_formed E tt;
      long = S.long.times;
      stamped = λ f. record { few = S.v_limit; timed = omega (arith, S.long.times, S.v_limit); linked = omega (arith, S.long.links, S.v_limit); fresh = S.stamps f };
    }

-- ---- a clause that stands

module _ {clauses : List ℕ} {literals : List ℤ} {times : List ℕ} {links : List ℤ} {st : State} (R : Ready clauses literals times links st) {number : ℕ} (S : Stands number st.n clauses) where
  pub ready_visitable : Visitable (number - 1) clauses literals R.variables
  ready_visitable = record { vars = st.v; number = st.n; settled = st.n; formed = R.formed; below = omega (arith, S.above, S.within) }

  pub ready_clause : st.fresh ≡ true → Clause times links (literals_of clauses literals (number - 1))
  ready_clause f =
      let F = clause_fits R.formed (number - 1) (omega (arith, S.above, S.within)) in
      record {
        vars = st.v;
        stamped = R.stamped f;
        long = R.long;
        few = omega (arith, few_literals F, (R.stamped f).few);
        each = F.ranged;
        once = λ j k l h. F.once k h j l;
      }

-- ---- the ways of the call

module _ (number : ℕ) (t : Tables) (st : State) (out : List ℕ) where
  pub stale_refused : st.fresh ≡ false → after_write (Err Stale) out ≡ explain_unless_stale st.fresh number t st out
  stale_refused e = ap (λ (b : Bool). explain_unless_stale b number t st out) (sym e)

  pub none_refused : st.fresh ≡ true → stands number st.n t.clauses ≡ false → after_write (Err NoClause) out ≡ explain_unless_stale st.fresh number t st out
  none_refused f e = rw (f, e)

  pub clause_told : st.fresh ≡ true → stands number st.n t.clauses ≡ true → explain_literals t.times t.links (literals_of t.clauses t.literals (number - 1)) out ≡ explain_unless_stale st.fresh number t st out
  clause_told f e = rw (f, e)

  pub call_refused : (r : Refusal) → opening_of t st ≡ Err r → after_write (Err r) out ≡ explain_call number t st out
  unfolding explain_call
  call_refused r e = ap (λ (x : Result (Unit {0}) Refusal). explain_opening x number t st out) (sym e)

  pub call_granted : opening_of t st ≡ Ok tt → explain_unless_stale st.fresh number t st out ≡ explain_call number t st out
  unfolding explain_call
  call_granted e = ap (λ (x : Result (Unit {0}) Refusal). explain_opening x number t st out) (sym e)
