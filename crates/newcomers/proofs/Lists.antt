-- CHANGE REQUEST 1, over the calls as their users see them. After an accepted load or join, which leaves the window empty (`window_empty`), and any list of demand 3's calls and of learnt clauses, refused ones included, any parts of the tables and of the window lent:
-- what a further call makes of a newcomer is right, any parts of the tables and any window lent (`learnt_right`), and so it is of every newcomer of a run (`run_learnt`).
-- Demand 3 holds of these lists too (`demand_3_learns`): learnt clauses can be left out of a list of calls (`learns_apart`).
-- Assumes nothing.
use Prim.Native.Nat.{ℕ}
use mathlib.Core.Path.{◌≡◌, refl, sym, ap, subst, subst₂, ◌∙◌}
use mathlib.Core.Logic.{◌↔◌}
use mathlib.Core.List.{List, [], ◌∷◌}
use lib.IntN.{ℤ}
use Rattle.base.specs.Decide.{says_yes}
use Rattle.literal.specs.Assignments.{Assignment, Satisfies}
use Rattle.state.specs.declared.State.{State}
use Rattle.tables.specs.Tables.{Tables, tables}
use Rattle.tables.specs.Stands.{Stands}
use Rattle.tables.specs.Calls.{After}
use Rattle.window.specs.Window.{Places, clauses_of, AfterWindow}
use Rattle.window.specs.Rule.{LongWindow}
use Rattle.window.proofs.Kept.{emptied_clauses}
use Rattle.load.specs.Load.{load_call, join_call, emptied_by, emptying, load_with, join_with}
use Rattle.load.proofs.Emptying.{window_long}
use Rattle.call_lists.specs.Starts.{Start, load, join, start_on, start_with, Started, formula, begun}
use Rattle.refinement.proofs.Starting.{started_laid}
use Rattle.learn.specs.Learn.{learn_call}
use Rattle.call_lists.specs.Lists.{Lent, lend, give_back, Step, steps_on}
use Rattle.refinement.proofs.Held.{Held}
use Rattle.refinement.proofs.Loaded.{loaded_clauses}
use Rattle.refinement.proofs.Demand3 as calls
use Rattle.newcomers.specs.Learning.{Right, RunRight, Act, call, learn, Stage, stage, act_on, acts_on, lend_window}
use Rattle.learn.proofs.Ruled.{learn_leaves}
use Rattle.newcomers.proofs.Right.{lent_right, run_right}

-- ---- learnt clauses left out of a list

-- the calls of a list
abbrev pub calls_of : List Act → List Step
calls_of [] = []
calls_of (call s ∷ xs) = s ∷ calls_of xs
calls_of (learn C lent sizes learnt ∷ xs) = calls_of xs

-- these tables and this state are those of a stage
abbrev Alike : Tables → State → Stage → Type 0
Alike t st g = (g.tables ≡ t) × (g.state ≡ st)

learn_alike : (C : List ℤ) (lent : Lent) (sizes learnt : ℕ) (g : Stage) → Alike g.tables g.state (act_on (learn C lent sizes learnt) g)
unfolding act_on
learn_alike C lent sizes learnt g =
    let same = learn_leaves C (lend lent g.tables) g.state (lend_window sizes learnt g.window) in
    (ap (give_back lent g.tables) same.0 ∙ calls.back_same lent g.tables, same.1)

pub learns_apart : (xs : List Act) (g : Stage) → ((acts_on xs g).tables ≡ (steps_on (calls_of xs) g.tables g.state).tables) × ((acts_on xs g).state ≡ (steps_on (calls_of xs) g.tables g.state).state)
unfolding act_on acts_on steps_on
learns_apart [] g = (refl, refl)
learns_apart (call s ∷ xs) g = learns_apart xs (act_on (call s) g)
learns_apart (learn C lent sizes learnt ∷ xs) g =
    let same = learn_alike C lent sizes learnt g in
    subst₂ (λ (t : Tables) (st : State). Alike (steps_on (calls_of xs) t st).tables (steps_on (calls_of xs) t st).state (acts_on xs (act_on (learn C lent sizes learnt) g))) same.0 same.1
    (learns_apart xs (act_on (learn C lent sizes learnt) g))

-- ---- a load or a join with a window that is long enough

start_with_lem : (s : Start) (t : Tables) (st : State) (w : Places) → LongWindow w → start_with s t st w ≡ emptying (start_on s t st) w
unfolding load_with join_with
start_with_lem (load text) t st w L = sym (window_long (load_call text t st) t st w (says_yes L) refl refl)
start_with_lem (join left right links) t st w L = sym (window_long (join_call left right links t st) t st w (says_yes L) refl refl)

-- ---- the theorem

module _ (b : Started) (w : Places) (LW : LongWindow w) where
  abbrev loaded : AfterWindow
  loaded = start_with b.start b.tables b.state w

  pub window_empty : clauses_of loaded.window ≡ []
  window_empty =
      ap (λ (a : AfterWindow). clauses_of a.window) (start_with_lem b.start b.tables b.state w LW)
      ∙ ap (λ (a : After). clauses_of (emptied_by a.reply.number w)) (started_laid b).is
      ∙ emptied_clauses w

  module _ (xs : List Act) where
    abbrev g : Stage
    g = acts_on xs (stage loaded.made.tables loaded.made.state loaded.window)

    -- its tables and state are what the list without its learnt clauses leaves
    g_alike : Alike (steps_on (calls_of xs) (begun b).tables (begun b).state).tables (steps_on (calls_of xs) (begun b).tables (begun b).state).state g
    g_alike =
        subst (λ (a : After). Alike (steps_on (calls_of xs) a.tables a.state).tables (steps_on (calls_of xs) a.tables a.state).state g) (ap (λ (a : AfterWindow). a.made) (start_with_lem b.start b.tables b.state w LW))
        (learns_apart xs (stage loaded.made.tables loaded.made.state loaded.window))

    pub acts_held : Held (loaded_clauses (formula b)) g.tables g.state
    acts_held = subst₂ (Held (loaded_clauses (formula b))) (sym g_alike.0) (sym g_alike.1) (calls.held b (calls_of xs))

    pub demand_3_learns : (τ : Assignment) → Stands g.tables g.state τ ↔ Satisfies τ (formula b)
    demand_3_learns τ = subst₂ (λ (u : Tables) (s : State). Stands u s τ ↔ Satisfies τ (formula b)) (sym g_alike.0) (sym g_alike.1) (calls.demand_3 b (calls_of xs) τ)

    pub learnt_right : (C : List ℤ) (lent : Lent) (u : Places) → Right g.tables g.state C (learn_call C (lend lent g.tables) g.state u)
    learnt_right C lent u = lent_right g.tables g.state acts_held lent C u

    pub run_learnt : (Cs : List (List ℤ)) (u : Places) → RunRight Cs g.tables g.state u
    run_learnt Cs u = run_right g.tables g.state acts_held Cs u
