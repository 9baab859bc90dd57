-- What the functions of Stamp's core ask of each other: the tables, the order, the edges and the columns. Assumes nothing: these are definitions.
use Rattle.std.specs.Prelude.{ℕ, ◌+◌, ◌*◌, ◌≤◌, ◌<◌, ◌≡◌, Bool, length, get_or, ℤ, pos}
use mathlib.Core.List.{List, Memᴰ}
use Rattle.literal.specs.Literals.{Literal}
use Rattle.base.specs.Lists.{absent}
use Rattle.walk.specs.Walk.{Stamps, stamp_all}
use Rattle.implications.specs.Edges.{Edges}
use Rattle.implications.specs.Clauses.{Once, tos, implications}
use Rattle.scc.specs.Groups.{blank, cyclic}
use Rattle.tables.specs.Clauses.{slots_from}
use Rattle.table_graph.specs.Pairs.{ClausesInside}

-- four columns hold these stamps
pub record ColumnsHold (σ : Stamps) (d f p s : List ℕ) : Type 0 where
  pub discs : d ≡ σ.discoveries
  pub fins : f ≡ σ.finishes
  pub pars : p ≡ σ.parents
  pub tops : s ≡ σ.starts

-- four columns with a place for each slot
pub record Columned (size : ℕ) (d f p s : List ℕ) : Type 0 where
  pub discs : length d ≡ size
  pub fins : length f ≡ size
  pub pars : length p ≡ size
  pub tops : length s ≡ size

-- edges, and columns with room for the walk over them
pub record WalkableEdges (size : ℕ) (froms tos order offsets targets : List ℕ) (root : List Bool) (roots : List ℕ) : Type 0 where
  pub small : size ≤ 2048
  pub edges : Edges froms tos offsets targets
  pub marks : length offsets ≡ size + 1
  pub heads : (i : ℕ) → i < length tos → get_or tos i 0 < size
  pub below : (i : ℕ) → i < length order → get_or order i 0 < size
  pub flags : length root ≡ size
  pub picks : length order ≤ length roots

-- both ends of each edge have a finish
pub record Finished (froms tos finishes : List ℕ) : Type 0 where
  pub pairs : length tos ≡ length froms
  pub tails : (i : ℕ) → i < length froms → get_or froms i 0 < length finishes
  pub heads : (i : ℕ) → i < length froms → get_or tos i 0 < length finishes

-- n clauses over v variables, in none of which a variable stands twice
pub record Proper (v n : ℕ) (clauses : List ℕ) (literals : List ℤ) : Type 0 where
  pub listed : ClausesInside v n clauses literals
  pub once : (c : List ℕ) → Memᴰ c (slots_from clauses literals n 0) → Once c

-- each slot below size once in the order
pub record Ordered (size : ℕ) (order : List ℕ) : Type 0 where
  pub many : length order ≡ size
  pub below : (q : ℕ) → Memᴰ q order → q < size
  pub all : (q : ℕ) → q < size → Memᴰ q order

-- columns with room for the edges of n clauses over v variables, for the compressed graph and for the roots
pub record WalkRoom (v n : ℕ) (from to offsets targets : List ℕ) (root : List Bool) (roots : List ℕ) : Type 0 where
  pub froms : 2 * n ≤ length from
  pub tos : 2 * n ≤ length to
  pub heads : 2 * n ≤ length targets
  pub marks : length offsets ≡ 2 * v + 1
  pub flags : length root ≡ 2 * v
  pub picks : 2 * v ≤ length roots

-- each entry is a literal of at most 1,024 variables
pub record LiteralOrder (order : List ℤ) : Type 0 where
  pub each : (i : ℕ) → i < length order → Literal 1024 (get_or order i (pos 0))

-- what the walk of an order over the graph of n clauses leaves, and whether that graph is cyclic
pub record WalkLeaves (v n : ℕ) (clauses : List ℕ) (literals : List ℤ) (order f p s : List ℕ) (cycle : Bool) (d' f' p' s' : List ℕ) : Type 0 where
  pub cyclic_is : cycle ≡ cyclic (implications (slots_from clauses literals n 0)) (2 * v)
  pub stamps_are : ColumnsHold (stamp_all (implications (slots_from clauses literals n 0)) (λ q. absent q (tos (slots_from clauses literals n 0))) order (blank (2 * v) f p s)) d' f' p' s'
