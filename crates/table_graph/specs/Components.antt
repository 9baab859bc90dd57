-- What finding the components asks of its columns.
-- Assumes nothing: these are definitions.
use Rattle.std.specs.Prelude.{ℕ, ◌*◌, ◌≡◌, List, length}

-- a place for each slot of v variables in every column of the walks
pub record SlotColumns (v : ℕ) (d f p s order rep : List ℕ) : Type 0 where
  pub discs : length d ≡ 2 * v
  pub fins : length f ≡ 2 * v
  pub pars : length p ≡ 2 * v
  pub starts : length s ≡ 2 * v
  pub orders : length order ≡ 2 * v
  pub reps : length rep ≡ 2 * v
