-- Where a pass stands, as the code answers it. Assumes nothing: these are definitions.
use Rattle.std.specs.Prelude.{ℕ, suc, ◌+◌, ◌≤◌, ◌<◌, ◌≡◌, Bool, true, false, ◌||◌, List, ltb, ℤ}
use Rattle.tables.specs.Tables.{Tables, tables}
use Rattle.visits.specs.Formed.{Formed}
use Rattle.propagate_visits.specs.Visits.{Progress, going, settled, contradicted, onward, Reached, reached, propagate_visits}
use Rattle.visits.specs.declared.Visited.{Visited}
use Rattle.visits.specs.declared.Visited.TheVariants.{Kept, Left, Dropped, MadeTrue, Conflict}
use Rattle.propagate_visits.specs.declared.Stand.{Stand}
use Rattle.propagate_visits.specs.declared.Stand.TheVariants.{Going, Settled, Contradicted}
use Rattle.propagate_visits.specs.declared.Reach.{Reach}

abbrev pub progress_of : Stand → Tables → Progress
progress_of (Going k changed) t = going k changed t
progress_of Settled t = settled t
progress_of Contradicted t = contradicted t

abbrev pub reached_as : Reach → Tables → Reached
reached_as r t = reached r.visits (progress_of r.stand t)

-- where the pass stands after a visit to clause k, of so many literals, with the tables after it
abbrev pub stand_after : ℕ → ℕ → Bool → ℕ → Visited → Tables → Progress
stand_after n k changed size Kept t = onward n (suc k) changed t
stand_after n k changed size (Left m) t = onward n (suc k) (changed || ltb m size) t
stand_after n k changed size Dropped t = onward n (suc k) true t
stand_after n k changed size (MadeTrue w) t = onward n (suc k) true t
stand_after n k changed size Conflict t = contradicted t

-- a pass that stands before clause k of n
pub record StandsBefore (n k : ℕ) (clauses : List ℕ) (literals variables : List ℤ) : Type 0 where
  pub vars : ℕ
  pub formed : Formed vars n n false clauses literals variables
  pub below : k < n

-- some visits from clause k on, at most `room`: the visits that follow go on from there
pub record Advanced (n room k : ℕ) (changed : Bool) (r : Reach) (c : List ℕ) (l w : List ℤ) (c' : List ℕ) (l' w' : List ℤ) : Type 0 where
  pub made : (0 < r.visits) × (r.visits ≤ room)
  pub left : (times : List ℕ) (links : List ℤ) (m before : ℕ)
      → propagate_visits n (r.visits + m) before (going k changed (tables c l w times links)) ≡ propagate_visits n m (before + r.visits) (progress_of r.stand (tables c' l' w' times links))
