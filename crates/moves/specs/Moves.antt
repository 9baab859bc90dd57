-- What the five passes may do, in the smallest pieces: a call is a list of moves, and a refused one the empty list. A move asks only for what makes it right, so it may be more liberal than any call.
-- Assumes nothing: these are definitions.
use Rattle.std.specs.Prelude.{ℕ, ◌+◌, ◌*◌, ◌<◌, ◌≡◌, true, false, ◌⊎◌}
use mathlib.Core.List.{List, [], ◌∷◌, map, Memᴰ, Sublistᴰ}
use Rattle.literal.specs.Literals.{twin}
use Rattle.walk.specs.Walk.{Stamps, Lists}
use Rattle.walk.specs.Forest.{Reach}
use Rattle.scc.specs.Groups.{cyclic}
use Rattle.hidden.specs.Failed.{same_start, failed_slot}
use Rattle.sound.specs.Formula.{dropped, standing, graph, formula_stamps}
use Rattle.sound.specs.Sweep.{sweep_visit, visit_from}
use Rattle.sound.specs.Kept.{Shaped}
use Rattle.moves.specs.Core.{Core, core_clause, with_clauses, put, learn, marked_core, regroup, core_true, core_false}

-- every literal that stands is its own class literal: no Merge has clauses still to visit
abbrev pub Owned : Core → Type 0
Owned k = (C : List ℕ) → Memᴰ (standing C) k.clauses → (l : ℕ) → Memᴰ l C → k.class l ≡ l

-- Propagate and Merge, which leave no stamps
pub data Change (k : Core) : Core → Type 0 where
  -- Propagate: a clause with a true literal is dropped
  satisfied : (i : ℕ) {C : List ℕ} {l : ℕ} → core_clause k i ≡ standing C → Memᴰ l C → core_true k l ≡ true → Change k (put i dropped k)
  -- literals go that are false
  falsified : (i : ℕ) {C D : List ℕ} → core_clause k i ≡ standing C → Sublistᴰ D C → ((l : ℕ) → Memᴰ l C → Memᴰ l D ⊎ (core_false k l ≡ true)) → Change k (put i (standing D) k)
  -- a clause's one literal gets its value, with its whole class, and the clause is dropped
  unit : (i : ℕ) {l : ℕ} → core_clause k i ≡ standing (l ∷ []) → Change k (learn (k.class l) (put i dropped k))
  -- a clause stands empty
  conflict : (i : ℕ) → core_clause k i ≡ standing [] → Change k (marked_core k)
  -- Merge: a literal shares its group with its complement
  contrary : (l : ℕ) → Reach (graph k.clauses) l (twin l) → Reach (graph k.clauses) (twin l) l → Change k (marked_core k)
  -- each literal gets a class literal from its group
  grouped : (ρ : ℕ → ℕ) → Owned k → ((s : ℕ) → Reach (graph k.clauses) s (ρ s) × Reach (graph k.clauses) (ρ s) s) → ((s : ℕ) → ρ (ρ s) ≡ ρ s) → Change k (regroup ρ k)
  -- class literals are put in, and repeats go
  substituted : (i : ℕ) {C D : List ℕ} → core_clause k i ≡ standing C → Sublistᴰ D (map k.class C) → ((l : ℕ) → Memᴰ l (map k.class C) → Memᴰ l D) → Change k (put i (standing D) k)
  -- a clause with v and -v is dropped
  tautology : (i : ℕ) {C : List ℕ} {l : ℕ} → core_clause k i ≡ standing C → Memᴰ l C → Memᴰ (twin l) C → Change k (put i dropped k)

-- stamps are spent, or fresh, with the number of clauses that Sweep has visited
pub data Freshness : Type 0 where
  spent : Freshness
  fresh : Stamps → ℕ → Freshness

-- from what stands and its stamps to what then stands and its stamps, over so many variables: a move behind a Stamp, which goes by the stamps or gives them up
pub data Behind (vars : ℕ) : Core → Freshness → Core → Freshness → Type 0 where
  spend : {k : Core} {w : Freshness} → Behind vars k w k spent
  -- Failed sets the complement's value, or meets the opposite one
  failed : {k : Core} {σ : Stamps} {c : ℕ} (s : ℕ) → s < 2 * vars → same_start σ s ≡ true → Behind vars k (fresh σ c) (learn (k.class (twin (failed_slot σ (2 * vars) s))) k) (fresh σ c)
  opposite : {k : Core} {σ : Stamps} {c : ℕ} (s : ℕ) → s < 2 * vars → same_start σ s ≡ true → core_false k (twin (failed_slot σ (2 * vars) s)) ≡ true → Behind vars k (fresh σ c) (marked_core k) spent
  -- n visits of Sweep from the cursor on
  sweep : {k : Core} {σ : Stamps} {c : ℕ} (n : ℕ) → Behind vars k (fresh σ c) (with_clauses (visit_from (sweep_visit σ) c n k.clauses) k) (fresh σ (c + n))

-- one move
pub data Move (vars : ℕ) : Core → Freshness → Core → Freshness → Type 0 where
  change : {k k' : Core} {w : Freshness} → Change k k' → Move vars k w k' spent
  -- Stamp takes a shaped formula, a list of all literals, and no graph with cycles
  stamp : {k : Core} {w : Freshness} (order : List ℕ) → Shaped vars k.clauses → Lists (2 * vars) order → cyclic (graph k.clauses) (2 * vars) ≡ false
      → Move vars k w k (fresh (formula_stamps vars order k.clauses) 0)
  behind : {k k' : Core} {w w' : Freshness} → Behind vars k w k' w' → Move vars k w k' w'

-- any number of moves
pub data Moves (vars : ℕ) (k : Core) (w : Freshness) : Core → Freshness → Type 0 where
  stay : Moves vars k w k w
  go : {k' k'' : Core} {w' w'' : Freshness} → Moves vars k w k' w' → Move vars k' w' k'' w'' → Moves vars k w k'' w''
