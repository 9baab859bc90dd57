-- Source document 000, figure 1, over the record numbers of the literals: `adj s` is the list of the literals that s has edges to, in order. Assumes nothing: these are definitions.
use Rattle.std.specs.Prelude.{ℕ, ◌<◌, ◌≡◌, Bool, List, length, replicate}
use Rattle.base.specs.Lists.{filter}
use Rattle.walk.specs.Walk.{Stamps, arrive, leave, edges}
use Rattle.walk.specs.Forest.{discovery_at}
use Rattle.scc.specs.Groups.{blank}

-- `stamp r p s` is Stamp(s) for an s that is not yet entered, coming from p, in the tree that starts at r: s is entered; each edge of s is walked, in order, and enters its literal, coming from s, unless that is entered already; s is left
abbrev pub Figure1 : (ℕ → List ℕ) → ℕ → (ℕ → ℕ → ℕ → Stamps → Stamps) → Type 0
Figure1 adj size stamp = (r p s : ℕ) (σ : Stamps) → length σ.discoveries ≡ size → s < size → discovery_at σ s ≡ 0 → stamp r p s σ ≡ leave s (edges (stamp r s) (adj s) (arrive r p s σ))

-- "It starts at each root in list order, then at each literal not yet entered, in list order. Time begins at 0 .. A starting literal is its own parent."
abbrev pub starts_by : (ℕ → ℕ → ℕ → Stamps → Stamps) → (ℕ → Bool) → ℕ → List ℕ → Stamps
starts_by stamp root size order = edges (λ s. stamp s s s) order (edges (λ s. stamp s s s) (filter root order) (blank size (replicate size 0) (replicate size 0) (replicate size 0)))

-- σ is what figure 1 makes: a function does what the figure says, and whichever does gives σ
pub record Walked (adj : ℕ → List ℕ) (root : ℕ → Bool) (size : ℕ) (order : List ℕ) (σ : Stamps) : Type 0 where
  pub stamp : ℕ → ℕ → ℕ → Stamps → Stamps
  pub figure_1 : Figure1 adj size stamp
  pub gives : (any : ℕ → ℕ → ℕ → Stamps → Stamps) → Figure1 adj size any → starts_by any root size order ≡ σ
