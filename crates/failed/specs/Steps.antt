-- What the functions of the call say to each other. Assumes nothing: these are definitions.
use Rattle.std.specs.Prelude.{ℕ, ◌+◌, ◌*◌, ◌≤◌, ◌<◌, ◌≡◌, true, List, [], length, ℤ}
use Rattle.literal.specs.Literals.{Literal}
use Rattle.walk.specs.Forest.{start_at}
use Rattle.stamps.specs.Fresh.{start_in, FreshStamps}
use Rattle.stamp_columns.specs.Columns.{columns}
use Rattle.hidden.specs.Failed.{same_start}
use Rattle.state.specs.declared.State.{State}
use Rattle.visits.specs.Formed.{Variables}
use Rattle.failed.specs.Failed.{Found, found}
use Rattle.failed.specs.declared.Tally.{Tally}

-- what the code tallies, with the variable table
abbrev pub found_of : Tally → List ℤ → Found
found_of r variables = found variables r.set r.opposite

-- the start is in the links alone
abbrev pub root : List ℤ → ℕ → ℕ
root links s = start_at (columns [] links) s

-- a slot whose start is a literal in the links
pub record Rooted (links : List ℤ) (s : ℕ) : Type 0 where
  pub few : s < 2048
  pub room : 2 * s + 1 < length links
  pub start : Literal 1024 (start_in links s)

-- fresh stamps of v variables
pub record FullStamps (v : ℕ) (times : List ℕ) (links : List ℤ) : Type 0 where
  pub few : v ≤ 1024
  pub times_room : 4096 ≤ length times
  pub links_room : 4096 ≤ length links
  pub fresh : FreshStamps v times links

-- a slot of stamped variables that has the same start as its twin
pub record Shared (times : List ℕ) (links : List ℤ) (s : ℕ) : Type 0 where
  pub count : ℕ
  pub stamped : FullStamps count times links
  pub below : s < 2 * count
  pub same : same_start (columns times links) s ≡ true

-- w + 1 is one of the variables that are stamped and whose records these are
pub record Failable (variables : List ℤ) (times : List ℕ) (links : List ℤ) (w : ℕ) : Type 0 where
  pub count : ℕ
  pub stamped : FullStamps count times links
  pub rows : Variables count variables
  pub below : w < count

-- what a call that refusals 1, 4 and 5 let pass knows
pub record Callable (st : State) (variables : List ℤ) (times : List ℕ) (links : List ℤ) : Type 0 where
  pub rows : Variables st.v variables
  pub stamped : st.fresh ≡ true → FullStamps st.v times links
