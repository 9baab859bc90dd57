-- The shape rule of document 01. It is a Type, so that it reads as the document does; `shape?` of Decision.antt decides it.
-- Assumes nothing: these are definitions.
use Rattle.std.specs.Prelude.{ℕ, ◌+◌, ◌≤◌, ◌<◌, ◌≡◌, Bool, true, false, List, get_or, ltb, ℤ, pos, nat_abs}
use Rattle.literal.specs.Literals.{Literal}
use Rattle.stamps.specs.Fresh.{FreshStamps}
use Rattle.tables.specs.Long.{Long}
use Rattle.tables.specs.Tables.{Tables, start_of, length_of, standing, variable_at, class_of, value_of}
use Rattle.tables.specs.Values.{class_value}
use Rattle.state.specs.declared.State.{State}
use Rattle.programmes.specs.Rules.{Passing}
use Rattle.state.specs.declared.Pass.{Pass}
use Rattle.state.specs.declared.Pass.TheVariants.{Idle, Propagate, Merge, Sweep}

-- the records of n clauses: starts never fall, no two parts that have places overlap, all lie inside the literal table, and a dropped clause has no places
pub record Parts (n : ℕ) (clauses : List ℕ) : Type 0 where
  pub flag : (i : ℕ) → i < n → standing clauses i ≤ 1
  pub dropped : (i : ℕ) → i < n → standing clauses i ≡ 0 → length_of clauses i ≡ 0
  pub inside : (i : ℕ) → i < n → start_of clauses i + length_of clauses i ≤ 16384
  pub rising : (j : ℕ) → j < n → (i : ℕ) → i < j → start_of clauses i ≤ start_of clauses j
  pub apart : (j : ℕ) → j < n → (i : ℕ) → i < j → 0 < length_of clauses i → 0 < length_of clauses j → start_of clauses i + length_of clauses i ≤ start_of clauses j

-- the len literals from a start: each in range, no variable twice, and each variable its own class where the clause is settled
pub record Literals (v : ℕ) (literals variables : List ℤ) (settled : Bool) (start len : ℕ) : Type 0 where
  pub ranged : (k : ℕ) → k < len → Literal v (get_or literals (start + k) (pos 0))
  pub once : (k : ℕ) → k < len → (j : ℕ) → j < k → variable_at literals (start + j) ≡ variable_at literals (start + k) → ⊥
  pub own : settled ≡ true → (k : ℕ) → k < len → class_of variables (variable_at literals (start + k)) ≡ pos (variable_at literals (start + k))

-- variable w: its class is u or -u with u at most w and u its own class; its value is -1, 0 or 1
pub record Variable (variables : List ℤ) (w : ℕ) : Type 0 where
  pub class : Literal w (class_of variables w)
  pub own : class_of variables (nat_abs (class_of variables w)) ≡ pos (nat_abs (class_of variables w))
  pub value : nat_abs (value_of variables w) ≤ 1

-- change request 4, in place of the base's zero: "The value of v is that of its class literal, sign included", for the variables 1 to v
abbrev pub Spread : ℕ → List ℤ → Type 0
Spread v variables = (w : ℕ) → w < v → value_of variables (w + 1) ≡ class_value variables (w + 1)

-- clauses from this one on may hold variables that are not their own class: those that an open Merge has still to visit
abbrev pub settled_to : Pass → ℕ → ℕ
settled_to Idle n = n
settled_to (Propagate cursor changed) n = n
settled_to (Merge cursor) n = cursor
settled_to (Sweep cursor) n = n

-- the cursor of an open pass is below n, and none is open under the mark
abbrev pub Cursor : Pass → ℕ → Bool → Type 0
Cursor Idle n mark = Unit {0}
Cursor (Propagate cursor changed) n mark = (cursor < n) × (mark ≡ false)
Cursor (Merge cursor) n mark = (cursor < n) × (mark ≡ false)
Cursor (Sweep cursor) n mark = (cursor < n) × (mark ≡ false)

-- the clauses: their parts, the literals in them, and none that stands empty but under the mark
pub record Clauses (v n settled : ℕ) (mark : Bool) (clauses : List ℕ) (literals variables : List ℤ) : Type 0 where
  pub parts : Parts n clauses
  pub each : (i : ℕ) → i < n → Literals v literals variables (ltb i settled) (start_of clauses i) (length_of clauses i)
  pub empty : (i : ℕ) → i < n → standing clauses i ≡ 1 → length_of clauses i ≡ 0 → mark ≡ true

pub record Shape (t : Tables) (st : State) : Type 0 where
  pub long : Long t
  pub v_limit : st.v ≤ 1024
  pub n_limit : st.n ≤ 4096
  pub clauses : Clauses st.v st.n (settled_to st.pass st.n) st.mark t.clauses t.literals t.variables
  pub variables : (w : ℕ) → w < st.v → Variable t.variables (w + 1)
  pub values : Spread st.v t.variables
  pub cursor : Cursor st.pass st.n st.mark
  pub stamps : st.fresh ≡ true → FreshStamps st.v t.times t.links
  -- change request 5: "refusal 1's shape rule asks these rules"
  pub programme : Passing st.programme
