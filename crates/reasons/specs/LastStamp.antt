-- Document 02, CR 7: "Every neighbouring pair is an edge of the graph that Stamp walked". Where only calls of demand 3 wrote the tables, the stamps that stand are those of one Stamp of the list; the graph is that of the tables as they were lent to it. Assumes nothing: these are definitions.
use Rattle.std.specs.Prelude.{◌≡◌, ℤ}
use mathlib.Core.List.{List, [], ◌∷◌, ◌++◌, Memᴰ}
use Rattle.state.specs.declared.State.{State}
use Rattle.tables.specs.Tables.{Tables}
use Rattle.call_lists.specs.Lists.{stamp, Lent, lend, Step, step_on, steps_on}
use Rattle.paper.specs.Edges.{Edge}

-- every neighbouring pair of a list has R
abbrev pub Linked : (ℤ → ℤ → Type 0) → List ℤ → Type 0
Linked R [] = Unit {0}
Linked R (l ∷ []) = Unit {0}
Linked R (l ∷ m ∷ c) = R l m × Linked R (m ∷ c)

-- a Stamp with this order, lent so much of each table
abbrev pub stamp_step : List ℤ → Lent → Step
stamp_step order lent = record { call = stamp order; lent = lent }

-- of the list ss, called on t and st: a Stamp that was accepted, and whose stamp records stand now
pub record LastStamp (ss : List Step) (t : Tables) (st : State) (now : Tables) (state : State) : Type 0 where
  pub before : List Step
  pub order : List ℤ
  pub lent : Lent
  pub behind : List Step
  pub list : ss ≡ before ++ (stamp_step order lent ∷ behind)
  -- called on the tables and the state that the calls before it left
  pub accepted : (step_on (stamp_step order lent) (steps_on before t st).tables (steps_on before t st).state).reply.number ≡ 0
  pub times : now.times ≡ (step_on (stamp_step order lent) (steps_on before t st).tables (steps_on before t st).state).tables.times
  pub links : now.links ≡ (step_on (stamp_step order lent) (steps_on before t st).tables (steps_on before t st).state).tables.links
  pub variables : state.v ≡ (steps_on before t st).state.v

-- p → q is an edge of the graph that it walked
abbrev pub Walked : {ss : List Step} {t : Tables} {st : State} {now : Tables} {state : State} → LastStamp ss t st now state → ℤ → ℤ → Type 0
Walked {t = t} {st = st} W p q = Edge (lend W.lent (steps_on W.before t st).tables) (steps_on W.before t st).state.n p q

-- the chains of an explained clause
pub record EdgesOnly (ss : List Step) (t : Tables) (st : State) (now : Tables) (state : State) (chains : List (List ℤ)) : Type 0 where
  pub walk : LastStamp ss t st now state
  pub edges : (c : List ℤ) → Memᴰ c chains → Linked (Walked walk) c
