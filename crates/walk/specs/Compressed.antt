-- What the core's calls ask of their slices, and how a graph in compressed form is read.
-- Assumes nothing: these are definitions.
use Rattle.std.specs.Prelude.{ℕ, ◌+◌, ◌*◌, ◌≤◌, ◌<◌, ◌≡◌, List, length, get_or}
use Rattle.std.proofs.Math.Seq.{slice}
use Rattle.walk.specs.Walk.{Stamps, fresh}

-- the edges of slot s
unfoldable pub adj_of : List ℕ → List ℕ → ℕ → List ℕ
adj_of offsets targets s = slice (get_or offsets s 0) (get_or offsets (s + 1) 0) targets

-- the columns of a call, as one value
abbrev pub stamps : ℕ → List ℕ → List ℕ → List ℕ → List ℕ → Stamps
stamps t d f p s = record { time = t; discoveries = d; finishes = f; parents = p; starts = s }

pub record Graph (offsets targets : List ℕ) (size : ℕ) : Type 0 where
  pub small : size ≤ 2048
  pub count : length offsets ≡ size + 1
  pub rising : (s : ℕ) → s < size → get_or offsets s 0 ≤ get_or offsets (s + 1) 0
  pub inside : (s : ℕ) → s < size → get_or offsets (s + 1) 0 ≤ length targets
  pub below : (i : ℕ) → i < length targets → get_or targets i 0 < size

-- the columns have an entry for each slot, and the time has room for what is left
pub record Columns (size : ℕ) (σ : Stamps) : Type 0 where
  pub discs : length σ.discoveries ≡ size
  pub fins : length σ.finishes ≡ size
  pub pars : length σ.parents ≡ size
  pub starts : length σ.starts ≡ size
  pub room : σ.time + 2 * fresh σ.discoveries ≤ 8192
