-- Stamp keeps the shape rule: a refusal changes nothing, and else the records are fresh stamps. Assumes nothing.
use Prim.Native.Nat.{◌*◌}
use native.Mathlib.Omega.{arith}
use mathlib.Core.Path.{◌≡◌, refl, sym, subst}
use mathlib.Core.Bool.{Bool, true, false}
use mathlib.Core.List.{List, map}
use lib.IntN.{ℤ}
use Rattle.std.specs.Prelude.{Result, Ok, Err}
use Rattle.literal.specs.Literals.{slot_of}
use Rattle.implications.specs.Clauses.{implications}
use Rattle.scc.specs.Groups.{cyclic}
use Rattle.state.specs.States.{closed}
use Rattle.state.specs.declared.State.{State}
use Rattle.state.specs.declared.Pass.{Pass}
use Rattle.state.specs.declared.Refusal.{Refusal}
use Rattle.tables.specs.Tables.{Tables}
use Rattle.tables.specs.Clauses.{slots_from}
use Rattle.tables.specs.Calls.{After}
use Rattle.stamps.specs.Fresh.{FreshStamps}
use Rattle.shape.specs.Shape.{Shape, settled_to}
use Rattle.visits.specs.Formed.{Formed}
use Rattle.visits.proofs.Forming.{shape_formed, formed_shape}
use Rattle.stamp.specs.Stamp.{stamps_of, stamped_tables, stamp_acyclic, stamp_call}
use Rattle.stamp.specs.Asking.{ask_of}
use Rattle.stamp.proofs.Asking.{Known, fit_known, known_proper, known_records, call_refused, call_fit, acyclic_no, acyclic_yes}
use Rattle.stamp.proofs.Freshness.{records_fresh, times_long, links_long}

module _ {order : List ℤ} {t : Tables} {st : State} (K : Known order t st) where
  abbrev t' : Tables
  t' = stamped_tables st.v (stamps_of (slots_from t.clauses t.literals st.n 0) (2 * st.v) (map slot_of order)) t

  -- the records that a call writes are fresh stamps
  pub written_fresh : FreshStamps st.v t'.times t'.links
  written_fresh = records_fresh (known_proper K) K.full t

  pub fresh_shaped : Shape t' (closed true st)
  unfolding stamped_tables
  fresh_shaped =
      let S = K.shape in
      let R = known_records K in
      let F : Formed st.v st.n st.n false t.clauses t.literals t.variables =
      subst (λ (b : Bool). Formed st.v st.n st.n b t.clauses t.literals t.variables) K.unmarked
      (subst (λ (p : Pass). Formed st.v st.n (settled_to p st.n) st.mark t.clauses t.literals t.variables) K.idle (shape_formed S)) in
      formed_shape t' (closed true st) F
      (omega (arith, times_long (known_proper K) K.full t R.first, S.long.times))
      (omega (arith, links_long (known_proper K) K.full t R.second, S.long.links))
      S.values tt (λ e. written_fresh) S.programme

-- THE THEOREM: a call of Stamp keeps the shape rule
pub stamp_shaped : (order : List ℤ) (t : Tables) (st : State) → Shape t st → Shape (stamp_call order t st).tables (stamp_call order t st).state
stamp_shaped order t st S = by (ask_of order t st) refl
  where
    acyclic : Known order t st → Shape (stamp_acyclic order t st).tables (stamp_acyclic order t st).state
    acyclic K = go (cyclic (implications (slots_from t.clauses t.literals st.n 0)) (2 * st.v)) refl
      where
        go : (b : Bool) → cyclic (implications (slots_from t.clauses t.literals st.n 0)) (2 * st.v) ≡ b → Shape (stamp_acyclic order t st).tables (stamp_acyclic order t st).state
        go true e = subst (λ (a : After). Shape a.tables a.state) (sym (acyclic_no order t st e)) S
        go false e = subst (λ (a : After). Shape a.tables a.state) (sym (acyclic_yes order t st e)) (fresh_shaped K)

    by : (r : Result (Unit {0}) Refusal) → ask_of order t st ≡ r → Shape (stamp_call order t st).tables (stamp_call order t st).state
    by (Err r) e = subst (λ (a : After). Shape a.tables a.state) (call_refused order t st r e) S
    by (Ok _) e = subst (λ (a : After). Shape a.tables a.state) (call_fit order t st e) (acyclic (fit_known t st order e))
