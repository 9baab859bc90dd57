-- What the call on texts does, over any tables that are long enough. A text that is refused is answered by its refusal. Else what stands after the load and the run, which a marked load goes without, is written:
-- it keeps V and the shape rule, and the same assignments satisfy it as the text's clauses. Assumes nothing.
use Prim.Native.Nat.{ℕ}
use native.Mathlib.Omega.{arith}
use mathlib.Core.Path.{◌≡◌, sym, ap, ◌∙◌, subst}
use mathlib.Core.Bool.{Bool, true, false}
use mathlib.Core.Logic.{◌↔◌}
use mathlib.Core.List.{List, []}
use Rattle.base.specs.Decide.{says_yes}
use Rattle.literal.specs.Assignments.{Assignment, Satisfies}
use Rattle.state.specs.States.{empty_state}
use Rattle.state.proofs.Numbers.{number_bounds}
use Rattle.state.specs.declared.Refusal.{Refusal}
use Rattle.tables.specs.Tables.{Tables}
use Rattle.tables.specs.Long.{Long}
use Rattle.tables.specs.Stands.{Stands}
use Rattle.tables.specs.Calls.{After, refuse}
use Rattle.shape.specs.Shape.{Shape}
use Rattle.shape.specs.Decision.{shape_ok, shape_agrees}
use Rattle.dimacs.specs.Text.{judge_text, text_clauses}
use Rattle.load.specs.Load.{load_by, load_call}
use Rattle.write.specs.Write.{after_write, write_text, write_into}
use Rattle.write.proofs.Text.{call_written}
use Rattle.load.proofs.Fill.{formula_lent}
use Rattle.settle.specs.Settle.{Standing}
use Rattle.call_lists.specs.Lists.{steps_on}
use Rattle.call_lists.specs.Starts.{load}
use Rattle.run.specs.Run.{run_call}
use Rattle.run.proofs.Ways.{way_same, run_way}
use Rattle.simplify.specs.Texts.{run_unless, simplify_loaded, simplify_in}
use Rattle.simplify.proofs.Simplified.{refused_load}
use Rattle.refinement.proofs.Starting.{started_as, start_held, load_started}
use Rattle.refinement.proofs.Demand3.{demand_3, steps_held}
use Rattle.refinement.proofs.Running.{run_calls, run_keeps}
use Rattle.std.specs.Prelude.{Result, Err}
use Rattle.dimacs.specs.declared.Header.{Header}
use Rattle.dimacs.specs.Header.{fitting}

-- what the load leaves
abbrev loaded_from : Tables → List ℕ → After
loaded_from t text = load_call text t empty_state

-- what stands where the call writes
abbrev pub end_from : Tables → List ℕ → ℕ → After
end_from t text count = run_unless (loaded_from t text).state.mark count (loaded_from t text)

module _ (t : Tables) (L : Long t) (text : List ℕ) (count : ℕ) where
  abbrev loaded : After
  loaded = loaded_from t text

  abbrev end : After
  end = end_from t text count

  -- ---- a text that is refused

  pub refused_text : (r : Refusal) → judge_text text ≡ Err r → (out : List ℕ) → simplify_in t text count out ≡ after_write (Err r) out
  unfolding load_call
  refused_text r e out =
      let loads : loaded ≡ refuse r empty_state t = formula_lent (judge_text text) (text_clauses text) t empty_state L ∙ ap (λ (x : Result Header Refusal). load_by x (text_clauses text) t empty_state) e in
      sym (refused_load (record { answer = Err r; state = empty_state }) t loaded count out (sym loads) (λ z. omega (arith, number_bounds r, z)))

  -- ---- a text that is accepted

  module _ (v n body : ℕ) (accepted : judge_text text ≡ fitting v n body) where
    pub end_stands : (τ : Assignment) → Stands end.tables end.state τ ↔ Satisfies τ (text_clauses text)
    unfolding steps_on
    end_stands τ = go loaded.state.mark
      where
        go : (b : Bool) → Stands (run_unless b count loaded).tables (run_unless b count loaded).state τ ↔ Satisfies τ (text_clauses text)
        go true = demand_3 (load_started text v n body accepted t L empty_state) [] τ
        go false = run_keeps (load_started text v n body accepted t L empty_state) count τ

    pub end_shape : Shape end.tables end.state
    end_shape = go loaded.state.mark
      where
        go : (b : Bool) → Shape (run_unless b count loaded).tables (run_unless b count loaded).state
        go true = (start_held (load_started text v n body accepted t L empty_state)).shape
        go false =
            let M = run_calls count loaded.tables loaded.state in
            subst (λ (w : Standing). Shape w.tables w.state) M.ends (steps_held M.calls loaded.tables loaded.state (start_held (load_started text v n body accepted t L empty_state))).shape

    pub end_variables : end.state.v ≡ v
    end_variables = go loaded.state.mark
      where
        before : loaded.state.v ≡ v
        before = ap (λ (a : After). a.state.v) (started_as (load text) t empty_state v n body L accepted)

        go : (b : Bool) → (run_unless b count loaded).state.v ≡ v
        go true = before
        go false = (way_same loaded.tables loaded.state (run_call count loaded.tables loaded.state) (run_way count loaded.tables loaded.state)).v ∙ before

    pub accepted_text : (out : List ℕ) → simplify_in t text count out ≡ write_into (write_text end.tables end.state) out
    accepted_text out =
        let taken : loaded.reply.number ≡ 0 = ap (λ (a : After). a.reply.number) (started_as (load text) t empty_state v n body L accepted) in
        let shape : shape_ok end.tables end.state ≡ true = sym (shape_agrees end.tables end.state (says_yes end_shape)) in
        ap (λ (m : ℕ). simplify_loaded m count loaded out) taken ∙ sym (call_written end.tables end.state out shape)
