use Rattle.std.proofs.Common.{◌≡◌, ℕ, ◌<◌, ◌≤◌, Bool, false, List, length, get_or, replicate, refl, subst, arith, le_refl}
use mathlib.Core.List.{Memᴰ}
use Rattle.base.specs.Lists.{filter}
use Rattle.base.proofs.Lists.{mem_filter, get_d_mem}
use Rattle.walk.specs.declared.SlotStamp.{SlotStamp}
use Rattle.walk.specs.Walk.{fresh, edges, start_walk}
use Rattle.walk.specs.Compressed.{Graph, Columns, adj_of}
use Rattle.walk.specs.Slots.{discoveries_of, stamps_of}
use Rattle.walk.proofs.Columns.{discoveries_long}
use Rattle.walk.proofs.Drive.{begun, starts_columns}
use Rattle.walk.proofs.Run.{mem_below, stamps_eq}
use Rattle.stamp_walk.proofs.Walking.{stamped}
use Rattle.stamp_walk.proofs.stamp_order.Goals as goal

-- the listed roots are slots
module _ (order front : List ℕ) (marked : ℕ → Bool) (size : ℕ) (below : (i : ℕ) → i < length order → get_or order i 0 < size) (is : front ≡ filter marked order) where
  front_in : (q : ℕ) → Memᴰ q front → q < size
  front_in q m = mem_below order size below (mem_filter marked order (subst (Memᴰ q) is m))

  front_below : (i : ℕ) → i < length front → get_or front i 0 < size
  front_below i lt = front_in (get_or front i 0) (get_d_mem front i 0 lt)

pub start_each-t-requires-clause-columns : goal.start_each-t-requires-clause-columns
start_each-t-requires-clause-columns c = (begun _ _ c.args.stamps.now c.clear.new.stamps c.clear.ensures.discoveries c.clear.auto.stamps c.requires.graph).1

pub start_each-t-requires-clause-by_index : goal.start_each-t-requires-clause-by_index
start_each-t-requires-clause-by_index c = λ i lt. omega (arith, front_below c.args.order.now _ _ (length c.args.stamps.now) c.requires.by_index c.list_roots-k.ensures.1 i lt)

-- once the roots are started
started : (offsets targets front : List ℕ) (l₀ l l' : List SlotStamp) (r : ℕ) → Graph offsets targets (length l₀) → discoveries_of l ≡ replicate (length l₀) 0 → length l ≡ length l₀ → length l' ≡ length l
    → ((q : ℕ) → Memᴰ q front → q < length l₀)
    → ((n : ℕ) → fresh (discoveries_of l) ≤ n → stamps_of r l' ≡ edges (start_walk n (adj_of offsets targets)) front (stamps_of 0 l)) → Columns (length l₀) (stamps_of r l')
started offsets targets front l₀ l l' r G none len len' all walk =
    let C = begun offsets targets l₀ l none len G in
    let n : ℕ = fresh (discoveries_of l) in
    starts_columns offsets targets front (length l₀) n (stamps_of 0 l) (stamps_of r l') G all (subst (λ (k : ℕ). Columns k (stamps_of 0 l)) len C.1) (walk n (le_refl _))

pub start_each-requires-clause-columns : goal.start_each-requires-clause-columns
start_each-requires-clause-columns c =
    let a = c.args in
    let n = length a.stamps.now in
    let k = c.list_roots-k in
    let l = c.clear.new.stamps in
    let C = started a.graph.offsets.now a.graph.targets.now _ a.stamps.now l c.start_each-t.new.stamps c.start_each-t.result c.requires.graph c.clear.ensures.discoveries c.clear.auto.stamps c.start_each-t.auto.stamps (front_in a.order.now _ _ n c.requires.by_index k.ensures.1) c.start_each-t.ensures in
    let len : n ≡ length c.start_each-t.new.stamps = omega arith in
    subst (λ (m : ℕ). Columns m (stamps_of c.start_each-t.result c.start_each-t.new.stamps)) len C

pub returns : goal.returns
returns c =
    let a = c.args in
    let e = c.clear.ensures in
    let len : length (discoveries_of c.start_each-t.new.stamps) ≡ length a.stamps.now = omega (arith, discoveries_long c.start_each-t.new.stamps) in
    stamped (adj_of a.graph.offsets.now a.graph.targets.now) (λ q. get_or a.root.now q false) a.order.now _ _ _ _ (length a.stamps.now) (stamps_of 0 c.clear.new.stamps) (stamps_of c.start_each-t.result c.start_each-t.new.stamps) _
    (stamps_eq e.discoveries e.finishes e.parents e.starts refl) len c.list_roots-k.ensures.1 c.start_each-t.ensures c.start_each.ensures
