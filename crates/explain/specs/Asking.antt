-- What the functions of the call say to each other. Assumes nothing: these are definitions.
use Rattle.std.specs.Prelude.{ℕ, ◌*◌, ◌≤◌, ◌<◌, ◌≡◌, Bool, true, false, List, length, get_or, take, ℤ, pos, nat_abs}
use Rattle.base.specs.Lists.{filter}
use Rattle.literal.specs.Literals.{Literal}
use Rattle.clause_slots.specs.Stamped.{Lits, Stamped}
use Rattle.state.specs.declared.State.{State}
use Rattle.visits.specs.Formed.{Formed}
use Rattle.chains.specs.declared.Ends.{Ends}
use Rattle.chains.specs.Chains.{flat}
use Rattle.explain.specs.Reasons.{Reasons}
use Rattle.explain.specs.declared.Found.{Found}

-- literals, all of which have times
pub record Timed (times : List ℕ) (C : List ℤ) : Type 0 where
  pub long : 4096 ≤ length times
  pub lits : Lits C

-- the literals of a clause: all have fresh stamps, and no variable comes twice
pub record Clause (times : List ℕ) (links C : List ℤ) : Type 0 where
  pub vars : ℕ
  pub stamped : Stamped vars times links
  pub long : 4096 ≤ length times
  pub few : length C ≤ 1024
  pub each : (k : ℕ) → k < length C → Literal vars (get_or C k (pos 0))
  pub once : (j k : ℕ) → j < k → k < length C → nat_abs (get_or C j (pos 0)) ≡ nat_abs (get_or C k (pos 0)) → ⊥

-- D is what a test leaves of C
pub record LeftOf (C D : List ℤ) : Type 0 where
  pub stays : ℤ → Bool
  pub is : D ≡ filter stays C

-- the n first pairs of a slice are these ends
pub record Listed (es : List Ends) (n : ℕ) (xs : List ℤ) : Type 0 where
  pub number : n ≡ length es
  pub pairs : take (2 * n) xs ≡ flat es

-- what was found, with the ends in a slice
pub record Says (f : Found) (xs : List ℤ) (r : Reasons) : Type 0 where
  pub verdict : f.verdict ≡ r.verdict
  pub out : f.out ≡ r.out
  pub shown : Listed r.shown f.chains xs

-- what refusals 1, 4 and 5 leave to the call: no mark, no open Merge, and stamps as the shape rule has them
pub record Ready (clauses : List ℕ) (literals : List ℤ) (times : List ℕ) (links : List ℤ) (st : State) : Type 0 where
  pub variables : List ℤ
  pub formed : Formed st.v st.n st.n false clauses literals variables
  pub long : 4096 ≤ length times
  pub stamped : st.fresh ≡ true → Stamped st.v times links
