-- What Sweep makes of a clause, on literals: document 01, "Sweep (000, figures 5 and 6)", and document 02, CR 2, for two literals. Assumes nothing: these are definitions.
use Rattle.std.specs.Prelude.{ℕ, ◌+◌, ◌-◌, ◌≤◌, ◌<◌, min, ◌≡◌, true, ◌⊎◌, ◌↔◌, length, ℤ, neg_ℤ}
use mathlib.Core.List.{List, [], ◌∷◌, map, Memᴰ}
use Rattle.literal.specs.Literals.{slot_of}
use Rattle.stamp_columns.specs.Columns.{columns}
use Rattle.hidden.specs.Hidden.{figure6, figure5}
use Rattle.state.specs.declared.State.{State}
use Rattle.state.specs.declared.Pass.{Pass}
use Rattle.state.specs.declared.Pass.TheVariants.{Idle, Propagate, Merge, Sweep}
use Rattle.tables.specs.Tables.{Tables}
use Rattle.tables.specs.Fates.{visit}
use Rattle.tables.specs.Calls.{After}
use Rattle.sweep_visits.specs.Clause.{sweep_clause}
use Rattle.sweep.specs.Sweep.{sweep_call}
use Rattle.paper.specs.Clauses.{clause_at, flag_at}
use Rattle.paper.specs.Edges.{EdgeOf}
use Rattle.paper.specs.Records.{parent, Holds}

-- ---- hidden tautologies

-- "some literal's complement holds a literal of the clause"
pub record Hidden (t : Tables) (C : List ℤ) : Type 0 where
  pub l : ℤ
  pub m : ℤ
  pub l_in : Memᴰ l C
  pub m_in : Memᴰ m C
  pub held : Holds t (neg_ℤ l) m

-- document 02, CR 2, of the clause (a ∨ b): "for one of its two edges p → q, p holds q and p is not q's parent"
pub record HiddenPair (t : Tables) (a b : ℤ) : Type 0 where
  pub p : ℤ
  pub q : ℤ
  pub edge : EdgeOf a b p q
  pub held : Holds t p q
  pub no_parent : parent t q ≡ p → ⊥

-- ---- figure 5

-- D is the literals of C that have P, in order
pub data Filtered (P : ℤ → Type 0) : List ℤ → List ℤ → Type 0 where
  none : Filtered P [] []
  stays : {l : ℤ} {C D : List ℤ} → P l → Filtered P C D → Filtered P (l ∷ C) (l ∷ D)
  goes : {l : ℤ} {C D : List ℤ} → (P l → ⊥) → Filtered P C D → Filtered P (l ∷ C) D

-- l has R to no other literal of C
abbrev pub ToNoOther : (ℤ → ℤ → Type 0) → List ℤ → ℤ → Type 0
ToNoOther R C l = (m : ℤ) → Memᴰ m C → (m ≡ l → ⊥) → R l m → ⊥

pub record Shortened (t : Tables) (C D : List ℤ) : Type 0 where
  pub rest : List ℤ
  -- "first, each literal that holds another literal of the clause goes"
  pub first : Filtered (ToNoOther (λ l m. Holds t l m) C) C rest
  -- "then, of the rest, each whose complement is held by another's complement"
  pub second : Filtered (ToNoOther (λ l m. Holds t (neg_ℤ m) (neg_ℤ l)) rest) rest D

-- ---- a visit

-- the clause had the literals C; after the visit it has those of D, and stands (1) or is dropped (0) as the flag says
pub record SweptAs (t : Tables) (C : List ℤ) (flag : ℕ) (D : List ℤ) : Type 0 where
  pub flags : (flag ≡ 0) ⊎ (flag ≡ 1)
  -- "Clauses of 0 or 1 literals are left."
  pub short : length C < 2 → (flag ≡ 1) × (D ≡ C)
  pub dropped : flag ≡ 0 → D ≡ []
  -- "The figure 6 scan goes first .. a yes drops the clause", for three or more literals
  pub figure_6 : 2 < length C → (flag ≡ 0) ↔ (figure6 (columns t.times t.links) (map slot_of C) ≡ true)
  -- "For three or more literals the yes is given exactly when some literal's complement holds a literal of the clause."
  pub long : 2 < length C → (flag ≡ 0) ↔ Hidden t C
  -- document 02, CR 2: "For two literals the rule becomes: drop if .."
  pub pair : (a b : ℤ) → C ≡ a ∷ b ∷ [] → (flag ≡ 0) ↔ HiddenPair t a b
  -- "Otherwise figure 5 shortens"
  pub figure_5 : 2 ≤ length C → flag ≡ 1 → map slot_of D ≡ figure5 (columns t.times t.links) (map slot_of C)
  pub shortened : 2 ≤ length C → flag ≡ 1 → Shortened t C D

-- the tables after the visit to clause i
abbrev pub swept_at : Tables → ℕ → Tables
swept_at t i = visit (sweep_clause (columns t.times t.links)) i t

-- ---- a call

-- where its visits begin: at the cursor of an open Sweep, else at the first clause
abbrev pub swept_from : Pass → ℕ
swept_from Idle = 0
swept_from (Propagate k changed) = 0
swept_from (Merge k) = 0
swept_from (Sweep k) = k

-- where they end: "A call makes n visits, or as many as the pass has left."
abbrev pub swept_to : ℕ → State → ℕ
swept_to steps st = swept_from st.pass + min steps (st.n - swept_from st.pass)

-- t and st before the call, t' the tables after it
pub record SweptCall (steps : ℕ) (t : Tables) (st : State) (t' : Tables) : Type 0 where
  -- each standing clause from where the visits begin to where they end
  pub visited : (i : ℕ) → swept_from st.pass ≤ i → i < swept_to steps st → flag_at t i ≡ 1 → SweptAs t (clause_at t i) (flag_at t' i) (clause_at t' i)
  -- the others stay as they were
  pub others : (i : ℕ) → i < st.n → (i < swept_from st.pass) ⊎ ((swept_to steps st ≤ i) ⊎ (flag_at t i ≡ 0)) → (flag_at t' i ≡ flag_at t i) × (clause_at t' i ≡ clause_at t i)
  -- the stamp records stay, so a pass that is resumed goes by the same
  pub times : t'.times ≡ t.times
  pub links : t'.links ≡ t.links

-- ---- calls, one behind the other

-- Sweep calls with these step counts, each on the tables and the state that the one before left
unfoldable pub sweeps : List ℕ → After → After
sweeps [] a = a
sweeps (n ∷ ns) a = sweeps ns (sweep_call n a.tables a.state)
