-- What the functions of Run say to each other. Assumes nothing: these are definitions.
use Rattle.std.specs.Prelude.{ℕ, ◌+◌, ◌≤◌, ◌<◌, ◌≡◌, false, List, length, take, ℤ}
use Rattle.std.specs.declared.ops.ControlFlow.{ControlFlow}
use Rattle.std.specs.declared.ops.ControlFlow.TheVariants.{Continue, Break}
use Rattle.state.specs.declared.State.{State}
use Rattle.state.specs.declared.Pass.TheVariants.{Idle}
use Rattle.tables.specs.Tables.{start_of, length_of}
use Rattle.shape.specs.Shape.{Shape}
use Rattle.settle.specs.Settle.{Standing}

-- what stands between two passes of a run: the shape rule holds, no pass is open, and the mark is off
pub record Runs (w : Standing) : Type 0 where
  pub shape : Shape w.tables w.state
  pub idle : w.state.pass ≡ Idle
  pub unmarked : w.state.mark ≡ false

-- n clauses whose parts lie in two literal tables
pub record PartsInside (n : ℕ) (clauses : List ℕ) (old new : List ℤ) : Type 0 where
  pub number : n ≤ 4096
  pub records : 12288 ≤ length clauses
  pub parts : (i : ℕ) → i < n → start_of clauses i + length_of clauses i ≤ 16384
  pub first : 16384 ≤ length old
  pub second : 16384 ≤ length new

-- tables that can be copied
pub record Saves (clauses : List ℕ) (literals variables : List ℤ) : Type 0 where
  pub first : 12288 ≤ length clauses
  pub second : 16384 ≤ length literals
  pub third : 2048 ≤ length variables

-- the copies of tables
pub record Saved (clauses : List ℕ) (literals variables : List ℤ) (kept : List ℕ) (parts rows : List ℤ) : Type 0 where
  pub first : kept ≡ take 12288 clauses
  pub second : parts ≡ take 16384 literals
  pub third : rows ≡ take 2048 variables

-- what stood before a round, and tables that can be compared with it: of v variables and n clauses
pub record Comparable (v n : ℕ) (old : List ℕ) (literals : List ℤ) (clauses : List ℕ) (literals' variables' : List ℤ) : Type 0 where
  pub few : v ≤ 1024
  pub inside : PartsInside n old literals literals'
  pub records : 12288 ≤ length clauses
  pub rows : 2048 ≤ length variables'

-- the state that a round leaves, whether the run goes on or stops after it
abbrev pub state_left : ControlFlow State State → State
state_left (Continue st) = st
state_left (Break st) = st
