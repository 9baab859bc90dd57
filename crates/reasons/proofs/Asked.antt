-- A standing clause of tables that keep the shape rule, with fresh stamps: its literals are what the laws of explain ask for. Assumes nothing.
use Prim.Native.Nat.{ℕ, ◌<◌}
use native.Mathlib.Omega.{arith}
use mathlib.Core.Path.{◌≡◌, refl}
use mathlib.Core.Bool.{true}
use Rattle.state.specs.declared.State.{State}
use Rattle.tables.specs.Tables.{Tables}
use Rattle.shape.specs.Shape.{Shape}
use Rattle.visits.proofs.Forming.{shape_formed, clause_fits}
use Rattle.explain.specs.Asking.{Clause}
use Rattle.explain.proofs.Few.{few_literals}
use Rattle.paper.specs.Clauses.{clause_at}

pub clause_asked : {t : Tables} {st : State} → Shape t st → st.fresh ≡ true → (i : ℕ) → i < st.n → Clause t.times t.links (clause_at t i)
clause_asked {t} {st} S fresh i lt =
    let F = clause_fits (shape_formed S) i lt in
    record {
      vars = st.v;
      stamped = record { few = S.v_limit; timed = omega (arith, S.v_limit, S.long.times); linked = omega (arith, S.v_limit, S.long.links); fresh = S.stamps fresh };
      long = S.long.times;
      few = omega (arith, few_literals F, S.v_limit);
      each = F.ranged;
      once = λ j k l h. F.once k h j l;
    }

-- of the variables of the state
pub clause_vars : {t : Tables} {st : State} (S : Shape t st) (fresh : st.fresh ≡ true) (i : ℕ) (lt : i < st.n) → (clause_asked S fresh i lt).vars ≡ st.v
unfolding clause_asked
clause_vars S fresh i lt = refl
