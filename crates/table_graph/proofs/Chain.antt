-- How the calls fit: the built graph is fit for the walks, and its components are those of the clauses.
-- Assumes nothing.
use Prim.Native.Nat.{ℕ, ◌+◌, ◌*◌, ◌<◌}
use native.Mathlib.Omega.{arith}
use mathlib.Core.Path.{◌≡◌, sym, ap, subst, ◌∙◌}
use mathlib.Core.List.{List, Memᴰ}
use lib.ListN.{length, take}
use lib.IntN.{ℤ}
use Rattle.walk.specs.Compressed.{adj_of, Graph}
use Rattle.walk.specs.declared.SlotStamp.{SlotStamp}
use Rattle.walk.specs.Slots.{discoveries_of, finishes_of, parents_of, starts_of}
use Rattle.walk.proofs.Columns.{discoveries_long, finishes_long, parents_long, starts_long}
use Rattle.walk.specs.Forest.{Reach, here, on}
use Rattle.literal.specs.Literals.{twin}
use Rattle.implications.specs.Skew.{Skew}
use Rattle.implications.specs.Edges.{Built}
use Rattle.implications.specs.Clauses.{froms, tos, implications}
use Rattle.implications.proofs.Csr.{built_adj, built_graph}
use Rattle.implications.proofs.Implications.{implications_skew, built_skew, tos_mem}
use Rattle.scc.specs.Groups.{least_mutual}
use Rattle.scc.specs.Steps.{Mirrored}
use Rattle.scc.proofs.Least.{least_mutual_lem, representative_is}
use Rattle.tables.specs.Clauses.{slots_from}
use Rattle.table_graph.specs.Pairs.{ClausesInside}
use Rattle.table_graph.proofs.Listing.{slots_in}
use Rattle.table_graph.specs.Components.{SlotColumns}

-- the representative depends only on the edges of the slots
reach_as : (adj adj' : ℕ → List ℕ) (size : ℕ) → ((s q : ℕ) → s < size → Memᴰ q (adj s) → q < size) → ((s : ℕ) → s < size → adj s ≡ adj' s) → {a b : ℕ} → a < size → Reach adj a b → (b < size) × (Reach adj' a b)
reach_as adj adj' size inside same lt here = (lt, here)
reach_as adj adj' size inside same lt (on {b = b} {c = c} r m) =
    let k = reach_as adj adj' size inside same lt r in
    (inside b c k.0 m, on k.1 (subst (Memᴰ c) (same b k.0) m))

pub least_as : (adj adj' : ℕ → List ℕ) (size : ℕ) → ((s q : ℕ) → s < size → Memᴰ q (adj s) → q < size) → ((s q : ℕ) → s < size → Memᴰ q (adj' s) → q < size)
    → ((s : ℕ) → s < size → adj s ≡ adj' s) → (s : ℕ) → s < size → least_mutual adj size s ≡ least_mutual adj' size s
least_as adj adj' size inside inside' same s lt =
    let A = least_mutual_lem adj size inside s lt in
    representative_is adj' size inside' s (least_mutual adj size s) lt (record {
      below = A.below;
      there = (reach_as adj adj' size inside same lt A.there).1;
      back = (reach_as adj adj' size inside same A.below A.back).1;
      least = λ b there back.
          let t = reach_as adj' adj size inside' (λ k kl. sym (same k kl)) lt there in
          A.least b t.1 (reach_as adj' adj size inside' (λ k kl. sym (same k kl)) t.0 back).1;
    })

-- the graph of listed clauses: taking twins reverses it
pub listed_skew : {v n : ℕ} {cs : List ℕ} {ls : List ℤ} → ClausesInside v n cs ls → Skew (implications (slots_from cs ls n 0)) twin (2 * v)
listed_skew {v} {n} {cs} {ls} L = implications_skew (slots_from cs ls n 0) v (slots_in L)

module _ {v n : ℕ} {cs : List ℕ} {ls : List ℤ} (L : ClausesInside v n cs ls) {d f p s order rep : List ℕ} (S : SlotColumns v d f p s order rep) (offsets targets : List ℕ) (r : ℕ) (long : length offsets ≡ 2 * v + 1)
    (B : Built (froms (slots_from cs ls n 0)) (tos (slots_from cs ls n 0)) offsets targets (2 * v) r) where
  abbrev clauses : List (List ℕ)
  clauses = slots_from cs ls n 0

  skew : Skew (adj_of offsets (take r targets)) twin (2 * v)
  skew = built_skew clauses offsets targets v r (slots_in L) B

  -- it is fit for the walks
  pub ready : Mirrored offsets (take r targets) d f p s order rep
  ready =
      record {
        graph = subst (Graph offsets (take r targets)) (sym S.reps)
            (built_graph (froms clauses) (tos clauses) offsets targets (2 * v) r B (omega (arith, L.few)) long
            (λ q m. let k = tos_mem clauses m in slots_in L k.0 k.1 q k.2));
        pairs = (v, S.reps);
        skew = subst (Skew (adj_of offsets (take r targets)) twin) (sym S.reps) skew;
        discs = S.discs ∙ sym S.reps;
        fins = S.fins ∙ sym S.reps;
        pars = S.pars ∙ sym S.reps;
        starts = S.starts ∙ sym S.reps;
        orders = S.orders ∙ sym S.reps;
      }

  -- and its representatives are those of the clauses' graph
  pub same_least : (q : ℕ) → q < 2 * v → least_mutual (adj_of offsets (take r targets)) (length rep) q ≡ least_mutual (implications clauses) (2 * v) q
  same_least q lt =
      ap (λ (k : ℕ). least_mutual (adj_of offsets (take r targets)) k q) S.reps
      ∙ least_as (adj_of offsets (take r targets)) (implications clauses) (2 * v) skew.inside (listed_skew L).inside
      (λ k kl. built_adj (froms clauses) (tos clauses) offsets targets (2 * v) r B k kl) q lt

-- ---- the scratch that `representatives` owns

pub own_scratch : (v : ℕ) (l : List SlotStamp) (order rep : List ℕ) → length l ≡ 2 * v → length order ≡ 2 * v → length rep ≡ 2 * v
    → SlotColumns v (discoveries_of l) (finishes_of l) (parents_of l) (starts_of l) order rep
own_scratch v l order rep many orders reps = record {
  discs = discoveries_long l ∙ many;
  fins = finishes_long l ∙ many;
  pars = parents_long l ∙ many;
  starts = starts_long l ∙ many;
  orders = orders;
  reps = reps;
}
