-- What an accepted Stamp leaves, on literals: document 01, "The graph" and "Stamp", and the ancestor rule of demand 2. Assumes nothing: these are definitions.
use Rattle.std.specs.Prelude.{ℕ, ◌*◌, ◌<◌, ◌≡◌, Bool, true, ◌↔◌, ℤ}
use mathlib.Core.List.{List, map, Memᴰ}
use Rattle.base.specs.Lists.{absent}
use Rattle.literal.specs.Literals.{Literal, slot_of, lit_at}
use Rattle.walk.specs.Walk.{Stamps}
use Rattle.walk.specs.Forest.{discovery_at, finish_at, parent_at, start_at}
use Rattle.implications.specs.Clauses.{tos, implications}
use Rattle.state.specs.declared.State.{State}
use Rattle.tables.specs.Tables.{Tables}
use Rattle.tables.specs.Clauses.{slots_from}
use Rattle.stamp.specs.Stamp.{stamps_of, stamped_tables}
use Rattle.stamp.specs.Asking.{Full}
use Rattle.paper.specs.Records.{discovered, finished, parent, start, Holds, Ancestor}
use Rattle.paper.specs.Edges.{Edge}
use Rattle.paper.specs.Figure1.{Walked}

-- the clauses as record numbers of their literals
abbrev pub slot_clauses : Tables → State → List (List ℕ)
slot_clauses t st = slots_from t.clauses t.literals st.n 0

-- the literals that have an edge from p, in clause order
abbrev pub edges_from : Tables → State → ℕ → List ℕ
edges_from t st = implications (slot_clauses t st)

-- no edge goes to q
abbrev pub root_of : Tables → State → ℕ → Bool
root_of t st q = absent q (tos (slot_clauses t st))

-- the walk's stamps
abbrev pub walk_of : List ℤ → Tables → State → Stamps
walk_of order t st = stamps_of (slot_clauses t st) (2 * st.v) (map slot_of order)

-- the record of p holds the walk's times and links
pub record RecordOf (σ : Stamps) (t' : Tables) (p : ℤ) : Type 0 where
  pub discovery : discovered t' p ≡ discovery_at σ (slot_of p)
  pub finish : finished t' p ≡ finish_at σ (slot_of p)
  pub parent_is : parent t' p ≡ lit_at (parent_at σ (slot_of p))
  pub start_is : start t' p ≡ lit_at (start_at σ (slot_of p))

-- t and st before the call, t' the tables after it
pub record StampedAs (order : List ℤ) (t : Tables) (st : State) (t' : Tables) : Type 0 where
  -- "takes a list of all 2V literals"
  pub listed : Full st.v order
  -- "(a ∨ b) gives the edges −a → b and −b → a"
  pub graph : (p q : ℤ) → Literal st.v p → Literal st.v q → Memᴰ (slot_of q) (edges_from t st (slot_of p)) ↔ Edge t st.n p q
  -- "A root has no edge into it."
  pub roots : (q : ℤ) → Literal st.v q → (root_of t st (slot_of q) ≡ true) ↔ ((p : ℤ) → Edge t st.n p q → ⊥)
  -- "Stamp (000, figure 1)": the walk is figure 1's, over this graph, under this order
  pub walked : Walked (edges_from t st) (root_of t st) (2 * st.v) (map slot_of order) (walk_of order t st)
  -- "The result is one record per literal: discovery, finish, parent, start. .. Records past 2V stay."
  pub written : t' ≡ stamped_tables st.v (walk_of order t st) t
  pub records : (p : ℤ) → Literal st.v p → RecordOf (walk_of order t st) t' p
  -- the ancestor rule: interval p holds interval q exactly if p is q or an ancestor of q by parents
  pub ancestors : (p q : ℤ) → Literal st.v p → Literal st.v q → Holds t' p q ↔ Ancestor t' p q
  -- an edge goes from the parent of q to q, where the parent is another literal
  pub parents : (q : ℤ) → Literal st.v q → Literal st.v (parent t' q) × ((parent t' q ≡ q → ⊥) → Edge t st.n (parent t' q) q)
  -- the start of q is its ancestor that started: "A starting literal is its own parent."
  pub starts : (q : ℤ) → Literal st.v q → Literal st.v (start t' q) × Ancestor t' (start t' q) q × (parent t' (start t' q) ≡ start t' q)
  -- no two different literals reach each other, so an edge p → q goes to a literal that was left earlier
  pub edges : (p q : ℤ) → Edge t st.n p q → finished t' q < finished t' p
