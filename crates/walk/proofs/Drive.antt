-- The laws of the driver: how many slots are not yet entered, and what starting at the slots of a list keeps.
-- Assumes nothing.
use Prim.Native.Nat.{ℕ, zero, suc, ◌≤◌, ◌<◌}
use native.Mathlib.Nat.{le_refl}
use native.Mathlib.Omega.{arith}
use mathlib.Core.Path.{◌≡◌, refl, sym, ap, subst}
use mathlib.Core.List.{List, [], ◌∷◌, Memᴰ}
use lib.ListN.{length, replicate}
use Rattle.walk.proofs.Columns.{discoveries_long, finishes_long, parents_long, starts_long}
use Rattle.walk.specs.declared.SlotStamp.{SlotStamp}
use Rattle.walk.specs.Slots.{discoveries_of, stamps_of}
use Rattle.walk.specs.Walk.{Stamps, edges, start_walk, fresh}
use Rattle.walk.specs.Compressed.{Graph, Columns, adj_of}
use Rattle.walk.proofs.Run.{Less, columns_less, edges_less, enters_less, graph_inside}

-- ---- fresh slots

pub fresh_all : (n : ℕ) → fresh (replicate n 0) ≡ n
unfolding fresh
fresh_all zero = refl
fresh_all (suc n) = ap suc (fresh_all n)

pub fresh_le : (l : List ℕ) → fresh l ≤ length l
unfolding fresh
fresh_le [] = le_refl _
fresh_le (zero ∷ l) = omega (arith, fresh_le l)
fresh_le (suc k ∷ l) = omega (arith, fresh_le l)

-- ---- the whole

-- stamps of which no slot is entered, at time 0
pub begun : (offsets targets : List ℕ) (l l' : List SlotStamp) → discoveries_of l' ≡ replicate (length l) 0 → length l' ≡ length l → Graph offsets targets (length l)
    → (Graph offsets targets (length l')) × (Columns (length l') (stamps_of 0 l'))
begun offsets targets l l' none len g = (
  subst (Graph offsets targets) (sym len) g,
  record {
    discs = discoveries_long l';
    fins = finishes_long l';
    pars = parents_long l';
    starts = starts_long l';
    room = omega (arith, g.small, ap fresh none, fresh_all (length l));
  },
)

pub starts_columns : (offsets targets l : List ℕ) (size n : ℕ) (σ σ' : Stamps) → Graph offsets targets size → ((q : ℕ) → Memᴰ q l → q < size) → Columns size σ
    → σ' ≡ edges (start_walk n (adj_of offsets targets)) l σ → Columns size σ'
unfolding start_walk
starts_columns offsets targets l size n σ σ' g all c e =
    let inside = graph_inside offsets targets size g in
    columns_less size σ σ' (subst (Less σ) (sym e) (edges_less (adj_of offsets targets) size inside (start_walk n (adj_of offsets targets)) (λ q τ len k f. enters_less (adj_of offsets targets) size inside n q q q τ len k f) l all σ c.discs)) c
