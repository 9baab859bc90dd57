-- Document 01: "Round k, from 0, uses 1, −1, 2, −2, .. turned left by k mod 2V places (no turn for V = 0)." Assumes nothing: these are definitions.
use Rattle.std.specs.Prelude.{ℕ, zero, suc, ◌*◌, ◌%◌, List, map, ℤ}
use Rattle.base.specs.Lists.{numbers, turned}
use Rattle.literal.specs.Literals.{lit_at}

-- the turn in round k of an order of so many literals
abbrev pub turn_by : ℕ → ℕ → ℕ
turn_by k zero = 0
turn_by k (suc m) = k % suc m

-- 1, −1, 2, −2, .. turned left by k mod 2V places
unfoldable pub order_of : ℕ → ℕ → List ℤ
order_of v k = turned (turn_by k (2 * v)) (map lit_at (numbers 0 (2 * v)))
