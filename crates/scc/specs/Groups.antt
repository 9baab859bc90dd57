-- The groups of slots that reach each other.
-- Assumes nothing: these are definitions.
use Rattle.std.specs.Prelude.{ℕ, ◌≤◌, ◌<◌, Bool, false, not, ◌&&◌, ◌||◌, List, [], ◌∷◌, get_or, replicate, ltb, eqb}
use Rattle.base.specs.Lists.{first, any_below}
use Rattle.walk.specs.Walk.{Stamps, edges, start_walk}
use Rattle.walk.specs.Compressed.{stamps}
use Rattle.walk.specs.Forest.{Reach}

-- columns with no slot entered; what stands in the other three does not matter
abbrev pub blank : ℕ → List ℕ → List ℕ → List ℕ → Stamps
blank size f p s = stamps 0 (replicate size 0) f p s

-- the walk of a list, from blank columns: it starts at each slot of the list that is not yet entered
unfoldable pub walk : (ℕ → List ℕ) → ℕ → List ℕ → List ℕ → List ℕ → List ℕ → Stamps
walk adj size order f p s = edges (start_walk size adj) order (blank size f p s)

-- is there a path from a to b? Whether a walk from a alone enters b
unfoldable pub reaches : (ℕ → List ℕ) → ℕ → ℕ → ℕ → Bool
reaches adj size a b = ltb 0 (get_or (start_walk size adj a (blank size (replicate size 0) (replicate size 0) (replicate size 0))).discoveries b 0)

-- do a and b reach each other? (strongly connected)
unfoldable pub connected : (ℕ → List ℕ) → ℕ → ℕ → ℕ → Bool
connected adj size a b = reaches adj size a b && reaches adj size b a

-- two different slots below size reach each other
unfoldable pub cyclic : (ℕ → List ℕ) → ℕ → Bool
cyclic adj size = any_below size (λ a. any_below size (λ b. not (eqb a b) && connected adj size a b))

-- the representative of s: the least slot that s reaches and that reaches s
unfoldable pub least_mutual : (ℕ → List ℕ) → ℕ → ℕ → ℕ
least_mutual adj size s = first (connected adj size s) size 0

-- what that means: r is the least slot that s reaches and that reaches s
pub record Representative (adj : ℕ → List ℕ) (size s r : ℕ) : Type 0 where
  pub below : r < size
  pub there : Reach adj s r
  pub back : Reach adj r s
  pub least : (b : ℕ) → Reach adj s b → Reach adj b s → r ≤ b

-- does a slot share its group with its twin? Slots 2v and 2v + 1 stand side by side in the list of representatives
unfoldable pub clash : List ℕ → Bool
clash [] = false
clash (a ∷ []) = false
clash (a ∷ b ∷ l) = eqb a b || clash l
