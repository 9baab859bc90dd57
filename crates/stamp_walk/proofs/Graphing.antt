-- How the calls of `stamp_columns` fit: the tables' edges and the order are fit to be walked, and the test on the finishes says whether the graph is cyclic. Assumes nothing.
use Prim.Native.Nat.{ℕ, suc, ◌+◌, ◌*◌, ◌/◌, ◌<◌}
use native.Mathlib.Omega.{arith}
use mathlib.Core.Path.{◌≡◌, refl, sym, ap, subst, ◌∙◌}
use mathlib.Core.Bool.{Bool, not}
use mathlib.Core.List.{List, [], ◌∷◌, map, Memᴰ}
use lib.ListN.{length, get_or, take, replicate, length-replicate}
use lib.IntN.{ℤ, pos, nat_abs}
use Rattle.base.specs.Lists.{absent}
use Rattle.base.proofs.Lists.{get_d_mem, front_zeros}
use Rattle.literal.specs.Literals.{slot_of}
use Rattle.literal.proofs.Laws.{slot_variable}
use Rattle.literal.proofs.Twins.{twin_below}
use Rattle.walk.specs.Walk.{Stamps, stamp_all}
use Rattle.walk.specs.Compressed.{stamps}
use Rattle.walk.proofs.Theorems.{Stamped, stamp_theorem}
use Rattle.implications.specs.Clauses.{froms, tos, implications, Once, empty, more}
use Rattle.implications.proofs.Implications.{tos_mem}
use Rattle.scc.specs.Groups.{blank, cyclic}
use Rattle.scc.specs.Forward.{forward}
use Rattle.scc.proofs.Forward.{edge_below, cyclic_forward}
use Rattle.tables.specs.Clauses.{literals_of, slots_at, slots_from}
use Rattle.visits.specs.Formed.{Formed}
use Rattle.visits.proofs.Forming.{clause_fits}
use Rattle.table_graph.specs.Pairs.{EdgeRoom}
use Rattle.table_graph.proofs.Listing.{formed_listed, mem_map, from_clauses, slots_in, froms_mem, fit_edges}
use Rattle.stamp_walk.specs.Stamping.{ColumnsHold, Columned, WalkableEdges, Finished, Proper, Ordered, WalkRoom}

-- ---- tables that keep the shape rule

-- no variable twice among the literals: none among their slots
pub once_slots : (C : List ℤ) → ((k : ℕ) → k < length C → 0 < nat_abs (get_or C k (pos 0)))
    → ((k : ℕ) → k < length C → (j : ℕ) → j < k → nat_abs (get_or C j (pos 0)) ≡ nat_abs (get_or C k (pos 0)) → ⊥) → Once (map slot_of C)
once_slots [] above apart = empty
once_slots (x ∷ C) above apart =
    more
    (λ q m e.
    let k = mem_map slot_of (pos 0) C m in
    let y : ℤ = get_or C k.0 (pos 0) in
    apart (suc k.0) (omega (arith, k.1)) 0 (omega arith)
    (slot_variable x (above 0 (omega arith)) ∙ ap (λ (n : ℕ). n + 1) (sym e ∙ ap (λ (n : ℕ). n / 2) k.2) ∙ sym (slot_variable y (above (suc k.0) (omega (arith, k.1))))))
    (once_slots C (λ k lt. above (suc k) (omega arith)) (λ k lt j lj. apart (suc k) (omega arith) (suc j) (omega arith)))

pub formed_proper : {v n s : ℕ} {mark : Bool} {c : List ℕ} {l w : List ℤ} → Formed v n s mark c l w → Proper v n c l
unfolding slots_at
formed_proper {v} {n} {s} {mark} {c} {l} {w} F = record {
  listed = formed_listed F;
  once = λ C m.
      let r = from_clauses c l n 0 m in
      let fit = clause_fits F r.0 (omega (arith, r.1)) in
      subst Once (sym r.2) (once_slots (literals_of c l r.0) (λ k lt. (fit.ranged k lt).above) fit.once);
}

-- ---- the calls

module _ {v n : ℕ} {cs : List ℕ} {ls : List ℤ} (P : Proper v n cs ls) {order : List ℕ} (A : Ordered (2 * v) order) where
  abbrev clauses : List (List ℕ)
  clauses = slots_from cs ls n 0

  abbrev within : (c : List ℕ) → Memᴰ c clauses → (q : ℕ) → Memᴰ q c → q < 2 * v
  within = slots_in P.listed

  pub room : {F T O G : List ℕ} {R : List Bool} {X : List ℕ} → WalkRoom v n F T O G R X → EdgeRoom v n cs ls F T O G
  room S = record { listed = P.listed; froms = S.froms; tos = S.tos; heads = S.heads; marks = S.marks }

  head_below : (i : ℕ) → i < length (tos clauses) → get_or (tos clauses) i 0 < 2 * v
  head_below i lt = let k = tos_mem clauses (get_d_mem (tos clauses) i 0 lt) in within k.0 k.1 (get_or (tos clauses) i 0) k.2

  tail_below : (i : ℕ) → i < length (froms clauses) → get_or (froms clauses) i 0 < 2 * v
  tail_below i lt = let k = froms_mem clauses (get_d_mem (froms clauses) i 0 lt) in omega (arith, k.4, twin_below v k.2 (within k.0 k.1 k.2 k.3))

  pub walkable : {F T O G : List ℕ} {R : List Bool} {X : List ℕ} → WalkRoom v n F T O G R X → WalkableEdges (2 * v) (froms clauses) (tos clauses) order O G R X
  walkable S = record {
    small = omega (arith, P.listed.few);
    edges = fit_edges (room S);
    marks = S.marks;
    heads = head_below;
    below = λ i lt. A.below (get_or order i 0) (get_d_mem order i 0 lt);
    flags = S.flags;
    picks = omega (arith, A.many, S.picks);
  }

  pub finished : {F T O G : List ℕ} {R : List Bool} {X : List ℕ} → WalkRoom v n F T O G R X → (finishes : List ℕ) → length finishes ≡ 2 * v → Finished (froms clauses) (tos clauses) finishes
  finished S finishes e =
      let pairs = (fit_edges (room S)).pairs in
      record { pairs = pairs; tails = λ i lt. omega (arith, e, tail_below i lt); heads = λ i lt. omega (arith, e, head_below i (omega arith)) }

  -- the walk's stamps, from columns that have a place for each slot
  abbrev walked : List ℕ → List ℕ → List ℕ → Stamps
  walked f p s = stamp_all (implications clauses) (λ q. absent q (tos clauses)) order (blank (2 * v) f p s)

  pub walk_stamped : (f p s : List ℕ) → length f ≡ 2 * v → length p ≡ 2 * v → length s ≡ 2 * v → length (walked f p s).discoveries ≡ 2 * v → Stamped (implications clauses) (2 * v) (walked f p s)
  walk_stamped f p s hf hp hs hd =
      stamp_theorem (implications clauses) (2 * v) (λ a b lt m. (edge_below clauses v within a b m).1) (λ q. absent q (tos clauses)) order f p s (walked f p s) A.below A.all hf hp hs hd refl

  pub cyclic_is : {d₀ f p s d' f' p' s' : List ℕ} → Columned (2 * v) d₀ f p s → ColumnsHold (walked f p s) d' f' p' s' → length d' ≡ 2 * v → (r : Bool)
      → ((t : ℕ) (d p s : List ℕ) → r ≡ not (forward (stamps t d f' p s) (froms clauses) (tos clauses))) → r ≡ cyclic (implications clauses) (2 * v)
  cyclic_is {d₀} {f} {p} {s} {d'} {f'} C H len r test =
      let σ : Stamps = walked f p s in
      let S = walk_stamped f p s C.fins C.pars C.tops (ap length (sym H.discs) ∙ len) in
      test σ.time σ.discoveries σ.parents σ.starts
      ∙ ap (λ (x : List ℕ). not (forward (stamps σ.time σ.discoveries x σ.parents σ.starts) (froms clauses) (tos clauses))) H.fins
      ∙ sym (cyclic_forward clauses v within P.once σ S)

-- ---- the scratch that `stamp_columns` owns

pub own_scratch : {v n : ℕ} {cs : List ℕ} {ls : List ℤ} (F T : List ℕ) (R : List Bool) → Proper v n cs ls → length F ≡ 8192 → length T ≡ 8192 → length R ≡ 2 * v
    → WalkRoom v n F T (take (2 * v + 1) (replicate 2049 0)) (replicate 8192 0) R (replicate 2048 0)
own_scratch {v} F T R P froms tos flags = record {
  froms = omega (arith, P.listed.number);
  tos = omega (arith, P.listed.number);
  heads = omega (arith, P.listed.number, length-replicate {A = ℕ} 8192 0);
  marks = front_zeros (2 * v + 1) 2049 (omega (arith, P.listed.few));
  flags = flags;
  picks = omega (arith, P.listed.few, length-replicate {A = ℕ} 2048 0);
}
