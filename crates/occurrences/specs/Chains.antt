-- Where each variable occurs in the clauses: a chain of places for each variable. Assumes nothing: these are definitions.
use Rattle.std.specs.Prelude.{ℕ, ◌+◌, ◌*◌, ◌≤◌, ◌<◌, ◌≡◌, List, ◌⊎◌, length, get_or, ℤ, pos}
use Rattle.literal.specs.Literals.{Literal}
use Rattle.tables.specs.Tables.{start_of, length_of, variable_at}
use Rattle.shape.specs.Shape.{Parts}

-- the record of place p: the place before it of the same variable, and the clause that has it
abbrev pub next_of : List ℕ → ℕ → ℕ
next_of places p = get_or places (2 * p) 0

abbrev pub owner_of : List ℕ → ℕ → ℕ
owner_of places p = get_or places (2 * p + 1) 0

-- `vs` has the variable of each place that is linked, and 0 for one that is not. `heads` has the last place of each variable, from which a chain goes to the first: place q is q + 1 there, and 0 ends it
pub record Chained (vs heads places : List ℕ) : Type 0 where
  pub last : (w q : ℕ) → 0 < w → get_or vs q 0 ≡ w → q < get_or heads w 0
  pub head : (w q : ℕ) → 0 < w → get_or heads w 0 ≡ q + 1 → get_or vs q 0 ≡ w
  pub before : (p q : ℕ) → 0 < get_or vs p 0 → get_or vs q 0 ≡ get_or vs p 0 → q < p → q < next_of places p
  pub next : (p q : ℕ) → 0 < get_or vs p 0 → next_of places p ≡ q + 1 → (get_or vs q 0 ≡ get_or vs p 0) × (q < p)

-- literal k of clause j comes before literal m of clause i
abbrev pub Before : ℕ → ℕ → ℕ → ℕ → Type 0
Before j k i m = (j < i) ⊎ ((j ≡ i) × (k < m))

-- the literals before literal m of clause i are linked, and no others
pub record Linking (i m : ℕ) (clauses : List ℕ) (literals : List ℤ) (heads places : List ℕ) : Type 0 where
  pub vs : List ℕ
  pub size : length vs ≡ 16384
  pub chained : Chained vs heads places
  pub from : (q : ℕ) → 0 < get_or vs q 0 → (j : ℕ) × (k : ℕ) × (q ≡ start_of clauses j + k) × (k < length_of clauses j) × Before j k i m
  pub to : (j k : ℕ) → k < length_of clauses j → Before j k i m → (get_or vs (start_of clauses j + k) 0 ≡ variable_at literals (start_of clauses j + k)) × (owner_of places (start_of clauses j + k) ≡ j)

-- n clauses, apart, with literals of at most 1,024 variables
pub record Linkable (n : ℕ) (clauses : List ℕ) (literals : List ℤ) : Type 0 where
  pub number : n ≤ 4096
  pub records : 12288 ≤ length clauses
  pub room : 16384 ≤ length literals
  pub parts : Parts n clauses
  pub ranged : (i : ℕ) → i < n → (k : ℕ) → k < length_of clauses i → Literal 1024 (get_or literals (start_of clauses i + k) (pos 0))

pub record ChainRoom (heads places : List ℕ) : Type 0 where
  pub variables : 1025 ≤ length heads
  pub records : 32768 ≤ length places
