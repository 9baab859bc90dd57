-- What the functions of the call say to each other. Assumes nothing: these are definitions.
use Rattle.std.specs.Prelude.{ℕ, ◌*◌, ◌≤◌, ◌≡◌, true, List, length, ℤ}
use Rattle.state.specs.declared.State.{State}
use Rattle.clause_slots.specs.Stamped.{Stamped}
use Rattle.visits.specs.declared.Visited.{Visited}
use Rattle.visits.specs.declared.Visited.TheVariants.{Kept, Left, Dropped, MadeTrue, Conflict}

-- what the shape rule leaves to a call that has passed it: V variables with records and, while stamps are fresh, stamps of their literals
pub record Ready (variables : List ℤ) (times : List ℕ) (links : List ℤ) (st : State) : Type 0 where
  pub few : st.v ≤ 1024
  pub room : 2 * st.v ≤ length variables
  pub long : 4096 ≤ length times
  pub stamped : st.fresh ≡ true → Stamped st.v times links

-- no more literals are left than a record has places
abbrev pub FewLeft : Visited → Type 0
FewLeft Kept = Unit {0}
FewLeft (Left n) = n ≤ 64
FewLeft Dropped = Unit {0}
FewLeft (MadeTrue w) = Unit {0}
FewLeft Conflict = Unit {0}
