-- What the functions of the two walks that find the groups ask of their slices and say to each other. No promise is read from these.
-- Assumes nothing: these are definitions.
use Rattle.std.specs.Prelude.{ℕ, zero, suc, ◌+◌, ◌-◌, ◌*◌, ◌≤◌, ◌<◌, ◌≡◌, length, get_or}
use mathlib.Core.List.{List, [], ◌∷◌, Memᴰ}
use Rattle.walk.specs.Compressed.{adj_of, Graph}
use Rattle.implications.specs.Skew.{Skew}
use Rattle.literal.specs.Literals.{twin}

-- each element's key is above those of all later ones
pub data Falls (key : ℕ → ℕ) : List ℕ → Type 0 where
  none : Falls key []
  next : {q : ℕ} {qs : List ℕ} → ((x : ℕ) → Memᴰ x qs → key x < key q) → Falls key qs → Falls key (q ∷ qs)

-- r is the first place of a column with the same entry as place s
pub record FirstSame (col : List ℕ) (s r : ℕ) : Type 0 where
  pub within : r ≤ s
  pub same : get_or col r 0 ≡ get_or col s 0
  pub least : (b : ℕ) → b < r → get_or col b 0 ≡ get_or col s 0 → ⊥

-- finishes of a walk: an even number of slots, each with a time of its own up to 4,096
pub record Finishes (finishes : List ℕ) : Type 0 where
  pub pairs : (v : ℕ) × (length finishes ≡ 2 * v)
  pub few : length finishes ≤ 2048
  pub times : (s : ℕ) → s < length finishes → get_or finishes s 0 ≤ 4096
  pub apart : (s u : ℕ) → s < length finishes → u < length finishes → get_or finishes s 0 ≡ get_or finishes u 0 → s ≡ u

-- how many entries are not 0
unfoldable pub marked : List ℕ → ℕ
marked [] = 0
marked (zero ∷ l) = marked l
marked (suc k ∷ l) = suc (marked l)

-- an array by time: each slot below s stands at its finish, as one more than itself, and nothing else does
pub record Timed (finishes at : List ℕ) (s : ℕ) : Type 0 where
  pub within : s ≤ length finishes
  pub size : length at ≡ 4097
  pub count : marked at ≡ s
  pub placed : (k : ℕ) → k < s → get_or at (get_or finishes k 0) 0 ≡ k + 1
  pub only : (t : ℕ) → 0 < get_or at t 0 → (get_or at t 0 ≤ s) × (get_or finishes (get_or at t 0 - 1) 0 ≡ t)

-- what `groups` asks: a graph of pairs of slots that taking twins reverses, and a place for each slot in every column
pub record Mirrored (offsets targets d f p s order rep : List ℕ) : Type 0 where
  pub graph : Graph offsets targets (length rep)
  pub pairs : (v : ℕ) × (length rep ≡ 2 * v)
  pub skew : Skew (adj_of offsets targets) twin (length rep)
  pub discs : length d ≡ length rep
  pub fins : length f ≡ length rep
  pub pars : length p ≡ length rep
  pub starts : length s ≡ length rep
  pub orders : length order ≡ length rep
