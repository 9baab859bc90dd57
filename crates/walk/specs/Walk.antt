-- The time-stamping walk (source document 000, figure 1), over any graph: `adj s` is the list of the slots that s has edges to, in order.
-- Assumes nothing: these are definitions.
use Rattle.std.specs.Prelude.{ℕ, zero, suc, ◌+◌, ◌<◌, Bool, length, get_or, set}
use mathlib.Core.List.{List, [], ◌∷◌, Memᴰ}
use Rattle.base.specs.Lists.{filter}

-- the time, and four columns with an entry per slot; a slot is not yet entered while its discovery is 0
pub record Stamps : Type 0 where
  pub time : ℕ
  pub discoveries : List ℕ
  pub finishes : List ℕ
  pub parents : List ℕ
  pub starts : List ℕ

-- slot s is discovered, coming from p, in the tree that starts at r
unfoldable pub arrive : ℕ → ℕ → ℕ → Stamps → Stamps
arrive r p s σ =
    record {
      time = σ.time + 1;
      discoveries = set σ.discoveries s (σ.time + 1);
      finishes = σ.finishes;
      parents = set σ.parents s p;
      starts = set σ.starts s r;
    }

-- slot s is finished
unfoldable pub leave : ℕ → Stamps → Stamps
leave s σ =
    record {
      time = σ.time + 1;
      discoveries = σ.discoveries;
      finishes = set σ.finishes s (σ.time + 1);
      parents = σ.parents;
      starts = σ.starts;
    }

-- an edge to q: q is visited if it is not yet entered
unfoldable pub edge : (ℕ → Stamps → Stamps) → ℕ → Stamps → Stamps
edge visit q σ = elim (get_or σ.discoveries q 0) [ zero ↦ visit q σ | suc k ↦ σ ]

-- the edges to each of a list, in order
unfoldable pub edges : (ℕ → Stamps → Stamps) → List ℕ → Stamps → Stamps
edges visit [] σ = σ
edges visit (q ∷ qs) σ = edges visit qs (edge visit q σ)

-- Stamp(s): the number bounds the depth, and any number that is at least that of the slots not yet entered gives the same
unfoldable pub enters : ℕ → (ℕ → List ℕ) → ℕ → ℕ → ℕ → Stamps → Stamps
enters zero adj r p s σ = σ
enters (suc n) adj r p s σ = leave s (edges (λ q. enters n adj r s q) (adj s) (arrive r p s σ))

-- a starting slot is its own parent and its own start
unfoldable pub start_walk : ℕ → (ℕ → List ℕ) → ℕ → Stamps → Stamps
start_walk n adj s σ = enters n adj s s s σ

-- how many slots are not yet entered
unfoldable pub fresh : List ℕ → ℕ
fresh [] = 0
fresh (zero ∷ ds) = suc (fresh ds)
fresh (suc k ∷ ds) = fresh ds

-- Stamp, whole: it starts at each root in list order, then at each slot not yet entered, in list order
unfoldable pub stamp_all : (ℕ → List ℕ) → (ℕ → Bool) → List ℕ → Stamps → Stamps
stamp_all adj root order σ =
    let visit : ℕ → Stamps → Stamps = start_walk (length σ.discoveries) adj in
    edges visit order (edges visit (filter root order) σ)

-- a list of all slots below size, and no others
pub record Lists (size : ℕ) (order : List ℕ) : Type 0 where
  pub below : (q : ℕ) → Memᴰ q order → q < size
  pub all : (q : ℕ) → q < size → Memᴰ q order
