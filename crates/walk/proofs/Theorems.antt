-- The theorems of time stamping, over any graph whose slots are below `size`.
--     forest_all        after Stamp, the stamps are a forest of the graph, and every slot of the list is entered
--     time-all          where every slot is entered, the time is twice the number of slots
--     times_apart       (a) all discoveries and finishes differ
--     Forest.parted     (b) two intervals are nested or apart
--     above_holds, holds_above     (c) interval a holds interval b exactly when a is b or an ancestor of b by the parent chain
--     above_reach       (d) an ancestor reaches its descendants in the graph
--     start_exact       (e) a start enters exactly the slots that it reaches and that were not entered before
-- Assumes nothing.
use Prim.Native.Nat.{ℕ, zero, suc, ◌+◌, ◌*◌, ◌≤◌, ◌<◌}
use native.Mathlib.Nat.{le_refl, le_trans}
use native.Mathlib.Omega.{arith}
use mathlib.Core.Bool.{Bool}
use mathlib.Core.Path.{◌≡◌, refl, sym, ap, subst, ◌∙◌}
use mathlib.Core.Logic.{◌⊎◌, inl, inr, ⊎_elim, ⊎_map}
use mathlib.Core.List.Memᴰ
use mathlib.Core.List.{List, [], ◌∷◌, Memᴰ}
use lib.ListN.{length, get_or, replicate, length-replicate}
use Rattle.base.specs.Decide.{same_or, le_or, zero_or}
use Rattle.base.specs.Lists.{filter}
use Rattle.base.proofs.Lists.{mem_filter, get_d_zeros, get_d_inside}
use Rattle.walk.specs.Walk.{Stamps, edge, edges, start_walk, fresh, stamp_all}
use Rattle.walk.specs.Compressed.{stamps}
use Rattle.walk.specs.Forest.{discovery_at, finish_at, parent_at, start_at, Holds, Parted, Above, self, up, Reach, here, on, Top, Under, Forest}
use Rattle.walk.proofs.Run.{Less, less_refl, less_trans, edge_new, edge_old}
use Rattle.walk.proofs.Drive.{fresh_all, fresh_le}
use Rattle.walk.proofs.Steps.{Walked, Sized, sized_less, enters_walked, Timely, reach_from}

-- after Stamp: a forest, every slot entered, and the time twice their number, so that by `hit` and `times_apart` each time of 1 to 2 * size is once a discovery or a finish
pub record Stamped (adj : ℕ → List ℕ) (size : ℕ) (σ : Stamps) : Type 0 where
  pub forest : Forest adj σ
  pub all : (q : ℕ) → q < size → 0 < discovery_at σ q
  pub end : σ.time ≡ 2 * size

-- ---- of any forest

module _ (adj : ℕ → List ℕ) (σ : Stamps) (F : Forest adj σ) where
  -- a parent is entered and holds its child
  parent_holds : (b : ℕ) → 0 < discovery_at σ b → (0 < discovery_at σ (parent_at σ b)) × (Holds σ (parent_at σ b) b)
  parent_holds b e =
      ⊎_elim
      (λ t. (omega (arith, e, ap (discovery_at σ) t.parent), (omega (arith, ap (discovery_at σ) t.parent), omega (arith, ap (finish_at σ) t.parent))))
      (λ u. (
        omega (arith, u.1.entered, ap (discovery_at σ) u.1.parent),
        (omega (arith, u.1.begins, ap (discovery_at σ) u.1.parent), omega (arith, u.1.ends, ap (finish_at σ) u.1.parent)),
      ))
      (F.tree b e)

  pub above_holds : {a b : ℕ} → 0 < discovery_at σ b → Above σ a b → (0 < discovery_at σ a) × (Holds σ a b)
  above_holds e self = (e, (le_refl _, le_refl _))
  above_holds e (up {b = b} h) =
      let k = parent_holds b e in
      let i = above_holds k.0 h in
      (i.0, (le_trans i.1.0 k.1.0, le_trans k.1.1 i.1.1))

  holds_above_in : (n a b : ℕ) → discovery_at σ b ≤ n → 0 < discovery_at σ a → 0 < discovery_at σ b → Holds σ a b → Above σ a b
  holds_above_in zero a b le ea eb h = absurd (omega arith)
  holds_above_in (suc n) a b le ea eb h =
      ⊎_elim
      (λ (e : a ≡ b). subst (Above σ a) e self)
      (λ (d : a ≡ b → ⊥).
      ⊎_elim
      (λ (t : Top σ b). absurd (t.widest a ea d h))
      (λ (u : (p : ℕ) × Under adj σ b p). up (subst (Above σ a) (sym u.1.parent) (holds_above_in n a u.0 (omega (arith, u.1.begins)) ea u.1.entered (u.1.narrowest a ea d h))))
      (F.tree b eb))
      (same_or a b)

  pub holds_above : {a b : ℕ} → 0 < discovery_at σ a → 0 < discovery_at σ b → Holds σ a b → Above σ a b
  holds_above {a} {b} ea eb h = holds_above_in (discovery_at σ b) a b (le_refl _) ea eb h

  pub above_reach : {a b : ℕ} → 0 < discovery_at σ b → Above σ a b → Reach adj a b
  above_reach e self = here
  above_reach {a} e (up {b = b} h) =
      let r = above_reach (parent_holds b e).0 h in
      ⊎_elim
      (λ (t : Top σ b). subst (Reach adj a) t.parent r)
      (λ (u : (p : ℕ) × Under adj σ b p). on (subst (Reach adj a) u.1.parent r) u.1.edge)
      (F.tree b e)

  -- so an interval that holds another is a path
  pub holds_reach : {a b : ℕ} → 0 < discovery_at σ a → 0 < discovery_at σ b → Holds σ a b → Reach adj a b
  holds_reach ea eb h = above_reach eb (holds_above ea eb h)

  -- the start is the top of the tree: it holds q, and nothing else holds it
  start_in_lem : (n q : ℕ) → discovery_at σ q ≤ n → 0 < discovery_at σ q → (0 < discovery_at σ (start_at σ q)) × (Holds σ (start_at σ q) q) × (Top σ (start_at σ q))
  start_in_lem zero q le e = absurd (omega arith)
  start_in_lem (suc n) q le e =
      ⊎_elim
      (λ (t : Top σ q). subst (λ (k : ℕ). (0 < discovery_at σ k) × (Holds σ k q) × (Top σ k)) (sym t.start) (e, (le_refl _, le_refl _), t))
      (λ (u : (p : ℕ) × Under adj σ q p).
      let i = start_in_lem n u.0 (omega (arith, u.1.begins)) u.1.entered in
      subst (λ (k : ℕ). (0 < discovery_at σ k) × (Holds σ k q) × (Top σ k)) (sym u.1.start) (i.0, (omega (arith, i.1.0, u.1.begins), omega (arith, i.1.1, u.1.ends)), i.2))
      (F.tree q e)

  pub start_starts : (q : ℕ) → 0 < discovery_at σ q → (0 < discovery_at σ (start_at σ q)) × (Holds σ (start_at σ q) q) × (Top σ (start_at σ q))
  start_starts q e = start_in_lem (discovery_at σ q) q (le_refl _) e

  -- all times differ, and none is past the end
  pub times_apart : (q u : ℕ) → 0 < discovery_at σ q → 0 < discovery_at σ u → (q ≡ u → ⊥) → ((discovery_at σ q ≡ discovery_at σ u → ⊥) × (finish_at σ q ≡ finish_at σ u → ⊥) × (discovery_at σ q ≡ finish_at σ u → ⊥))
  times_apart q u e f d = go (F.parted q u e f d)
    where
      go : Parted σ q u → ((discovery_at σ q ≡ discovery_at σ u → ⊥) × (finish_at σ q ≡ finish_at σ u → ⊥) × (discovery_at σ q ≡ finish_at σ u → ⊥))
      go (inl h) = (λ x. omega (arith, F.spans q e, F.spans u f), λ x. omega (arith, F.spans q e, F.spans u f), λ x. omega (arith, F.spans q e, F.spans u f))
      go (inr (inl h)) = (λ x. omega (arith, F.spans q e, F.spans u f), λ x. omega (arith, F.spans q e, F.spans u f), λ x. omega (arith, F.spans q e, F.spans u f))
      go (inr (inr (inl h))) = (λ x. omega (arith, F.spans q e, F.spans u f), λ x. omega (arith, F.spans q e, F.spans u f), λ x. omega (arith, F.spans q e, F.spans u f))
      go (inr (inr (inr h))) = (λ x. omega (arith, F.spans q e, F.spans u f), λ x. omega (arith, F.spans q e, F.spans u f), λ x. omega (arith, F.spans q e, F.spans u f))

  pub forest_timely : Timely σ
  forest_timely q = ⊎_elim (λ (z : discovery_at σ q ≡ 0). omega arith) (λ (e : 0 < discovery_at σ q). omega (arith, F.spans q e, F.past q e)) (zero_or (discovery_at σ q))

  pub reach_entered : {a b : ℕ} → 0 < discovery_at σ a → Reach adj a b → 0 < discovery_at σ b
  reach_entered e here = e
  reach_entered e (on {b = b} {c = c} r m) = F.closed b c (reach_entered e r) m

-- ---- where the discoveries have a place for each slot, what is entered is a slot, and so are its parent and its start

module _ (adj : ℕ → List ℕ) (size : ℕ) (σ : Stamps) (S : Stamped adj size σ) (len : length σ.discoveries ≡ size) where
  pub entered_below : (q : ℕ) → 0 < discovery_at σ q → q < size
  entered_below q e = omega (arith, len, get_d_inside σ.discoveries q e)

  pub links_below : (q : ℕ) → q < size → (parent_at σ q < size) × (start_at σ q < size)
  links_below q lt = (
    entered_below (parent_at σ q)
        (⊎_elim
        (λ (t : Top σ q). subst (λ (k : ℕ). 0 < discovery_at σ k) (sym t.parent) (S.all q lt))
        (λ (u : (p : ℕ) × Under adj σ q p). subst (λ (k : ℕ). 0 < discovery_at σ k) (sym u.1.parent) u.1.entered)
        (S.forest.tree q (S.all q lt))),
    entered_below (start_at σ q) (start_starts adj σ S.forest q (S.all q lt)).0,
  )

-- ---- cycles: two different slots reach each other exactly when an edge goes back to an interval around it

module _ (adj : ℕ → List ℕ) (σ : Stamps) (F : Forest adj σ) where
  -- an edge that goes back closes a cycle
  pub back_cycle : (a b : ℕ) → 0 < discovery_at σ a → Memᴰ b (adj a) → Holds σ b a → (Reach adj a b) × (Reach adj b a)
  back_cycle a b e m h = (on here m, holds_reach adj σ F (F.closed a b e m) e h)

  -- any other edge goes to a slot that finished earlier
  edge_down : (a b : ℕ) → 0 < discovery_at σ a → Memᴰ b (adj a) → (a ≡ b → ⊥) → (Holds σ b a → ⊥) → finish_at σ b < finish_at σ a
  edge_down a b e m d not = go (F.parted a b e (F.closed a b e m) d)
    where
      go : Parted σ a b → finish_at σ b < finish_at σ a
      go (inl h) = absurd (omega (arith, F.seen a b e m))
      go (inr (inl h)) = omega (arith, F.spans a e)
      go (inr (inr (inl h))) = h.1
      go (inr (inr (inr h))) = absurd (not (omega arith, omega arith))

  pub reach_down : ((a b : ℕ) → 0 < discovery_at σ a → Memᴰ b (adj a) → (a ≡ b → ⊥) → Holds σ b a → ⊥) → {a b : ℕ} → 0 < discovery_at σ a → Reach adj a b → (a ≡ b) ⊎ (finish_at σ b < finish_at σ a)
  reach_down none e here = inl refl
  reach_down none {a} e (on {b = b} {c = c} r m) =
      let eb = reach_entered adj σ F e r in
      ⊎_elim
      (λ (x : b ≡ c). subst (λ (k : ℕ). (a ≡ k) ⊎ (finish_at σ k < finish_at σ a)) x (reach_down none e r))
      (λ (d : b ≡ c → ⊥).
      let k = edge_down b c eb m d (none b c eb m d) in
      inr (⊎_elim (λ (x : a ≡ b). omega (arith, k, ap (finish_at σ) x)) (λ (x : finish_at σ b < finish_at σ a). omega (arith, k)) (reach_down none e r)))
      (same_or b c)

  -- with no edge back, no two different slots reach each other
  pub acyclic : ((a b : ℕ) → 0 < discovery_at σ a → Memᴰ b (adj a) → (a ≡ b → ⊥) → Holds σ b a → ⊥) → (a b : ℕ) → 0 < discovery_at σ a → (a ≡ b → ⊥) → Reach adj a b → Reach adj b a → ⊥
  acyclic none a b e d there back =
      ⊎_elim
      (λ (x : a ≡ b). d x)
      (λ (x : finish_at σ b < finish_at σ a). ⊎_elim (λ (y : b ≡ a). d (sym y)) (λ (y : finish_at σ a < finish_at σ b). omega arith) (reach_down none (reach_entered adj σ F e there) back))
      (reach_down none e there)

-- ---- a start makes a forest of a forest

module _ (adj : ℕ → List ℕ) (r : ℕ) (σ σ' : Stamps) (F : Forest adj σ) (w : Walked adj (λ q. q ≡ r) r r σ σ') where
  -- entered before: all stays; or by this start
  Was : ℕ → Type 0
  Was q = (0 < discovery_at σ q) × (discovery_at σ' q ≡ discovery_at σ q) × (finish_at σ' q ≡ finish_at σ q) × (finish_at σ q ≤ σ.time) × (discovery_at σ q < finish_at σ q)

  Now : ℕ → Type 0
  Now q = (discovery_at σ q ≡ 0) × (0 < discovery_at σ' q) × (σ.time < discovery_at σ' q) × (discovery_at σ' q < finish_at σ' q)

  when : (q : ℕ) → 0 < discovery_at σ' q → Was q ⊎ Now q
  unfolding Was Now
  when q e =
      ⊎_elim
      (λ z. let a = w.added q (z, e) in inr (z, e, a.after, a.spans))
      (λ s. inl (s, w.discovery_kept q s, w.finishes_kept q s, F.past q s, F.spans q s))
      (zero_or (discovery_at σ q))

  parted_when : (q u : ℕ) → (q ≡ u → ⊥) → Was q ⊎ Now q → Was u ⊎ Now u → Parted σ' q u
  unfolding Was Now
  parted_when q u d (inl f) (inl g) = moved (F.parted q u f.0 g.0 d)
    where
      moved : Parted σ q u → Parted σ' q u
      moved (inl h) = inl (omega (arith, h, f.2, g.1))
      moved (inr (inl h)) = inr (inl (omega (arith, h, g.2, f.1)))
      moved (inr (inr (inl h))) = inr (inr (inl (omega (arith, h, f.1, g.1), omega (arith, h, f.2, g.2))))
      moved (inr (inr (inr h))) = inr (inr (inr (omega (arith, h, f.1, g.1), omega (arith, h, f.2, g.2))))
  parted_when q u d (inl f) (inr g) = inl (omega (arith, f.2, f.3, g.2))
  parted_when q u d (inr f) (inl g) = inr (inl (omega (arith, g.2, g.3, f.2)))
  parted_when q u d (inr f) (inr g) = w.parted q u (f.0, f.1) (g.0, g.1) d

  tree_was : (q : ℕ) → Was q → Top σ' q ⊎ ((p : ℕ) × Under adj σ' q p)
  unfolding Was Now
  tree_was q f =
      ⊎_elim
      (λ (t : Top σ q). inl (record {
        parent = w.parents_kept q f.0 ∙ t.parent;
        start = w.starts_kept q f.0 ∙ t.start;
        widest = λ v e d h. ⊎_elim
            (λ g. t.widest v g.0 d (omega (arith, h, g.1, f.1), omega (arith, h, g.2, f.2)))
            (λ g. absurd (omega (arith, h, g.2, f.1, f.3, f.4)))
            (when v e);
      }))
      (λ (u : (p : ℕ) × Under adj σ q p).
      let p = u.0 in
      let b = u.1 in
      inr (
        p,
        record {
          parent = w.parents_kept q f.0 ∙ b.parent;
          entered = omega (arith, b.entered, w.discovery_kept p b.entered);
          edge = b.edge;
          begins = omega (arith, b.begins, w.discovery_kept p b.entered, f.1);
          ends = omega (arith, b.ends, w.finishes_kept p b.entered, f.2);
          start = w.starts_kept q f.0 ∙ b.start ∙ sym (w.starts_kept p b.entered);
          narrowest = λ v e d h. ⊎_elim
              (λ g. let k = b.narrowest v g.0 d (omega (arith, h, g.1, f.1), omega (arith, h, g.2, f.2)) in
              (omega (arith, k, g.1, w.discovery_kept p b.entered), omega (arith, k, g.2, w.finishes_kept p b.entered)))
              (λ g. absurd (omega (arith, h, g.2, f.1, f.3, f.4)))
              (when v e);
        },
      ))
      (F.tree q f.0)

  tree_now : (q : ℕ) → Now q → Top σ' q ⊎ ((p : ℕ) × Under adj σ' q p)
  unfolding Was Now
  tree_now q f =
      let a = w.added q (f.0, f.1) in
      ⊎_elim
      (λ l. inl (record {
        parent = l.parent ∙ sym l.ok;
        start = a.start ∙ sym l.ok;
        widest = λ v e d h. ⊎_elim
            (λ g. absurd (omega (arith, h, g.1, g.2, g.3, f.2, f.3)))
            (λ g. l.widest v (g.0, g.1) d h)
            (when v e);
      }))
      (λ l.
      let p = l.0 in
      let b = l.1 in
      inr (
        p,
        record {
          parent = b.parent;
          entered = b.new.1;
          edge = b.edge;
          begins = b.begins;
          ends = b.ends;
          start = a.start ∙ sym (w.added p b.new).start;
          narrowest = λ v e d h. ⊎_elim
              (λ g. absurd (omega (arith, h, g.1, g.2, g.3, f.2, f.3)))
              (λ g. b.narrowest v (g.0, g.1) d h)
              (when v e);
        },
      ))
      a.came

  pub forest_start : Forest adj σ'
  unfolding Was Now
  forest_start =
      record {
        spans = λ q e. ⊎_elim (λ f. omega (arith, f.1, f.2, f.4)) (λ f. f.3) (when q e);
        past = λ q e. ⊎_elim (λ f. omega (arith, f.2, f.3, w.later)) (λ f. (w.added q (f.0, f.1)).past) (when q e);
        parted = λ q u e f d. parted_when q u d (when q e) (when u f);
        tree = λ q e. ⊎_elim (tree_was q) (tree_now q) (when q e);
        closed = λ q c e m. ⊎_elim (λ f. let k = F.closed q c f.0 m in omega (arith, k, w.discovery_kept c k)) (λ f. ((w.added q (f.0, f.1)).closed c m).0) (when q e);
        seen = λ q c e m. ⊎_elim (λ f. let k = F.seen q c f.0 m in omega (arith, k, w.discovery_kept c (F.closed q c f.0 m), f.2)) (λ f. ((w.added q (f.0, f.1)).closed c m).1) (when q e);
        hit = λ t x y.
            ⊎_elim
            (λ (le : t ≤ σ.time). let h = F.hit t x le in (h.0, omega (arith, h.1, w.discovery_kept h.0 h.1), ⊎_map (λ e. w.discovery_kept h.0 h.1 ∙ e) (λ e. w.finishes_kept h.0 h.1 ∙ e) h.2))
            (λ (lt : σ.time < t). let h = w.hit t lt y in (h.0, h.1.1, h.2))
            (le_or t σ.time);
      }

-- ---- Stamp, whole

module _ (adj : ℕ → List ℕ) (size : ℕ) (inside : (s q : ℕ) → s < size → Memᴰ q (adj s) → q < size) where
  pub start_walked : (n r : ℕ) (σ : Stamps) → Sized size n σ → Forest adj σ → r < size → discovery_at σ r ≡ 0
      → (Less σ (start_walk n adj r σ)) × (Walked adj (λ q. q ≡ r) r r σ (start_walk n adj r σ)) × (0 < discovery_at (start_walk n adj r σ) r)
  unfolding start_walk
  start_walked n r σ z F lt e = enters_walked adj size inside (λ q. q ≡ r) r r n r σ z (forest_timely adj σ F) refl lt e

  -- (e) the slots that a start enters are those that it reaches and that were not entered
  pub start_exact : (n r : ℕ) (σ : Stamps) → Sized size n σ → Forest adj σ → r < size → discovery_at σ r ≡ 0 → (q : ℕ) → discovery_at σ q ≡ 0
      → (0 < discovery_at (start_walk n adj r σ) q → Reach adj r q) × (Reach adj r q → 0 < discovery_at (start_walk n adj r σ) q)
  start_exact n r σ z F lt e q new =
      let w = start_walked n r σ z F lt e in (
        λ k. let o = (w.1.added q (new, k)).reach in subst (λ (x : ℕ). Reach adj x q) o.1 o.2,
        λ k. reach_entered adj (start_walk n adj r σ) (forest_start adj r σ (start_walk n adj r σ) F w.1) w.2 k,
      )

  pub forest_edges : (n : ℕ) (qs : List ℕ) → ((q : ℕ) → Memᴰ q qs → q < size) → (σ : Stamps) → Sized size n σ → Forest adj σ
      → (Less σ (edges (start_walk n adj) qs σ)) × (Forest adj (edges (start_walk n adj) qs σ)) × ((q : ℕ) → 0 < discovery_at σ q → 0 < discovery_at (edges (start_walk n adj) qs σ) q) × ((q : ℕ) → Memᴰ q qs → 0 < discovery_at (edges (start_walk n adj) qs σ) q)
  unfolding edges
  forest_edges n [] all σ z F = (less_refl σ, F, λ q e. e, λ q m. absurd (Memᴰ.not-nil m))
  forest_edges n (r ∷ rs) all σ z F =
      let lt = all r (Memᴰ.head refl) in
      let τ : Stamps = edge (start_walk n adj) r σ in
      let first : (Less σ τ) × (Forest adj τ) × ((q : ℕ) → 0 < discovery_at σ q → 0 < discovery_at τ q) × (0 < discovery_at τ r) =
      ⊎_elim
      (λ (e : discovery_at σ r ≡ 0). let w = start_walked n r σ z F lt e in
      subst (λ (x : Stamps). (Less σ x) × (Forest adj x) × ((q : ℕ) → 0 < discovery_at σ q → 0 < discovery_at x q) × (0 < discovery_at x r)) (sym (edge_new (start_walk n adj) r σ e))
      (w.0, forest_start adj r σ (start_walk n adj r σ) F w.1, λ q k. omega (arith, k, w.1.discovery_kept q k), w.2))
      (λ (e : 0 < discovery_at σ r).
      subst (λ (x : Stamps). (Less σ x) × (Forest adj x) × ((q : ℕ) → 0 < discovery_at σ q → 0 < discovery_at x q) × (0 < discovery_at x r)) (sym (edge_old (start_walk n adj) r σ (λ o. omega (arith, o, e))))
      (less_refl σ, F, λ q k. k, e))
      (zero_or (discovery_at σ r)) in
      let rest = forest_edges n rs (λ q m. all q (Memᴰ.tail m)) τ (sized_less size n σ τ first.0 z) first.1 in
      let ρ : Stamps = edges (start_walk n adj) rs τ in (
        less_trans σ τ ρ first.0 rest.0,
        rest.1,
        λ q k. rest.2 q (first.2 q k),
        λ q m. ⊎_elim (λ (e : q ≡ r). rest.2 q (subst (λ (k : ℕ). 0 < discovery_at τ k) (sym e) first.3)) (λ t. rest.3 q t) (Memᴰ.cases_cons m),
      )

  none : {A : Type 0} (f p s : List ℕ) (q : ℕ) → 0 < discovery_at (stamps 0 (replicate size 0) f p s) q → A
  none f p s q e = absurd (omega (arith, e, get_d_zeros size q))

  pub forest_all : (root : ℕ → Bool) (order f p s : List ℕ) → ((q : ℕ) → Memᴰ q order → q < size) → length f ≡ size → length p ≡ size → length s ≡ size
      → (Forest adj (stamp_all adj root order (stamps 0 (replicate size 0) f p s)))
      × (((q : ℕ) → Memᴰ q order → 0 < discovery_at (stamp_all adj root order (stamps 0 (replicate size 0) f p s)) q))
      × ((stamp_all adj root order (stamps 0 (replicate size 0) f p s)).time + 2 * fresh (stamp_all adj root order (stamps 0 (replicate size 0) f p s)).discoveries ≡ 2 * size)
  unfolding stamp_all
  forest_all root order f p s all hf hp hs =
      let σ : Stamps = stamps 0 (replicate size 0) f p s in
      let n : ℕ = length {A = ℕ} (replicate size 0) in
      let z : Sized size n σ = record { discs = length-replicate size 0; fins = hf; pars = hp; starts = hs; few = fresh_le (replicate size 0) } in
      let F : Forest adj σ = record { spans = λ q e. none f p s q e; past = λ q e. none f p s q e; parted = λ q u e d x. none f p s q e; tree = λ q e. none f p s q e; closed = λ q c e m. none f p s q e; seen = λ q c e m. none f p s q e; hit = λ t x y. absurd (omega arith) } in
      let one = forest_edges n (filter root order) (λ q m. all q (mem_filter root order m)) σ z F in
      let τ : Stamps = edges (start_walk n adj) (filter root order) σ in
      let two = forest_edges n order all τ (sized_less size n σ τ one.0 z) one.1 in
      (two.1, two.3, omega (arith, two.0.spent, one.0.spent, fresh_all size))

  -- a list that has every slot leaves none fresh
  pub fresh_none : (l : List ℕ) → ((q : ℕ) → q < length l → 0 < get_or l q 0) → fresh l ≡ 0
  unfolding fresh
  fresh_none [] all = refl
  fresh_none (zero ∷ l) all = absurd (let k : 0 < 0 = all 0 (omega arith) in omega arith)
  fresh_none (suc k ∷ l) all = fresh_none l (λ q lt. all (suc q) (omega arith))

  pub stamp_theorem : (root : ℕ → Bool) (order f p s : List ℕ) (σ : Stamps) → ((q : ℕ) → Memᴰ q order → q < size) → ((q : ℕ) → q < size → Memᴰ q order)
      → length f ≡ size → length p ≡ size → length s ≡ size → length σ.discoveries ≡ size
      → σ ≡ stamp_all adj root order (stamps 0 (replicate size 0) f p s)
      → Stamped adj size σ
  stamp_theorem root order f p s σ below every hf hp hs hd e =
      let t = forest_all root order f p s below hf hp hs in
      let F : Forest adj σ = subst (Forest adj) (sym e) t.0 in
      let all : (q : ℕ) → q < size → 0 < discovery_at σ q = λ q lt. subst (λ (x : Stamps). 0 < discovery_at x q) (sym e) (t.1 q (every q lt)) in
      let sum : σ.time + 2 * fresh σ.discoveries ≡ 2 * size = subst (λ (x : Stamps). x.time + 2 * fresh x.discoveries ≡ 2 * size) (sym e) t.2 in
      record { forest = F; all = all; end = omega (arith, sum, fresh_none σ.discoveries (λ q lt. all q (omega (arith, hd, lt)))) }

  -- a single start on blank columns enters exactly what it reaches
  pub reach_exact : (n r : ℕ) (f p s : List ℕ) → length f ≡ size → length p ≡ size → length s ≡ size → r < size → size ≤ n → (q : ℕ)
      → (0 < discovery_at (start_walk n adj r (stamps 0 (replicate size 0) f p s)) q → Reach adj r q) × (Reach adj r q → 0 < discovery_at (start_walk n adj r (stamps 0 (replicate size 0) f p s)) q)
  reach_exact n r f p s hf hp hs lt big q =
      let σ : Stamps = stamps 0 (replicate size 0) f p s in
      let z : Sized size n σ = record { discs = length-replicate size 0; fins = hf; pars = hp; starts = hs; few = omega (arith, fresh_all size) } in
      let F : Forest adj σ = record { spans = λ q e. none f p s q e; past = λ q e. none f p s q e; parted = λ q u e d x. none f p s q e; tree = λ q e. none f p s q e; closed = λ q c e m. none f p s q e; seen = λ q c e m. none f p s q e; hit = λ t x y. absurd (omega arith) } in
      start_exact n r σ z F lt (get_d_zeros size r) q (get_d_zeros size q)

-- ---- paths are implications, and have contrapositives

pub reach_implies : (adj : ℕ → List ℕ) (T : ℕ → Type 0) → ((s c : ℕ) → Memᴰ c (adj s) → T s → T c) → {a b : ℕ} → Reach adj a b → T a → T b
reach_implies adj T step here t = t
reach_implies adj T step (on {b = b} {c = c} r m) t = step b c m (reach_implies adj T step r t)

-- a path does not leave the slots below size
pub reach_below : (adj : ℕ → List ℕ) (size : ℕ) → ((s q : ℕ) → s < size → Memᴰ q (adj s) → q < size) → {a b : ℕ} → a < size → Reach adj a b → b < size
reach_below adj size inside lt r = reach_implies adj (λ s. s < size) (λ s q m below. inside s q below m) r lt

pub reach_mirror : (adj : ℕ → List ℕ) (neg : ℕ → ℕ) → ((s c : ℕ) → Memᴰ c (adj s) → Memᴰ (neg s) (adj (neg c))) → {a b : ℕ} → Reach adj a b → Reach adj (neg b) (neg a)
reach_mirror adj neg flip here = here
reach_mirror adj neg flip (on {b = b} {c = c} r m) = reach_from (flip b c m) (reach_mirror adj neg flip r)
