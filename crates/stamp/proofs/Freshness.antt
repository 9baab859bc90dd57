-- The stamps that Stamp's walk leaves are fresh: the walk's forest, slot by slot, is what the scan of the shape rule asks of a slot that is entered and left.
--     stamped_fresh   records that hold the columns of a walk's stamps are fresh stamps
--     records_fresh   so are those of `stamped_tables`
--     stamps_stamped  the stamps of any clauses are a forest of their implication graph, with every slot entered
--     entries_below   every parent and every start in the columns is a slot
-- Assumes nothing.
use Prim.Native.Nat.{ℕ, zero, suc, ◌+◌, ◌*◌, ◌/◌, ◌≤◌, ◌<◌}
use native.Mathlib.Omega.{arith}
use mathlib.Core.Path.{◌≡◌, refl, sym, ap, ◌∙◌}
use mathlib.Core.Bool.{Bool}
use mathlib.Core.Logic.{◌⊎◌, inl, inr, ⊎_elim}
use mathlib.Core.List.{List, [], ◌∷◌, ◌++◌, map, Memᴰ}
use lib.ListN.{length, get_or, drop, replicate, length-replicate, length-append, length-drop, length-map, get_or-append, get_or-map}
use lib.IntN.{ℤ, pos}
use Rattle.base.specs.Decide.{same_or}
use Rattle.base.specs.Lists.{absent, filter, interleave}
use Rattle.base.proofs.Lists.{get_d_any, mem_filter}
use Rattle.literal.specs.Literals.{slot_of, lit_at}
use Rattle.stamps.specs.Fresh.{discovery_in, finish_in, parent_in, start_in, Times, FreshStamps}
use Rattle.stamps.proofs.Local.{Around, Entered, Left, fresh_from}
use Rattle.walk.specs.Walk.{Stamps, edges, start_walk, stamp_all, Lists}
use Rattle.walk.specs.Forest.{discovery_at, finish_at, parent_at, start_at, Holds, Parted, Forest, Top}
use Rattle.walk.proofs.Run.{Less, less_trans, edges_less, enters_less}
use Rattle.walk.proofs.Theorems.{Stamped, stamp_theorem, times_apart, entered_below, links_below}
use Rattle.implications.specs.Clauses.{tos, implications}
use Rattle.scc.specs.Groups.{blank}
use Rattle.scc.proofs.Forward.{edge_below}
use Rattle.tables.specs.Tables.{Tables}
use Rattle.tables.specs.Clauses.{slots_from}
use Rattle.table_graph.proofs.Listing.{slots_in}
use Rattle.stamp_walk.specs.Stamping.{ColumnsHold, Proper}
use Rattle.stamp_walk.proofs.Copying.{many_records}
use Rattle.stamp.specs.Stamp.{stamps_of, stamped_tables}
use Rattle.stamp.specs.Asking.{Full}
use Rattle.stamp.proofs.Writing.{full_lists}
use Rattle.walk.specs.Forest as forest

-- the tables hold the walk's columns: the times side by side, the links as literals
pub record Laid (v : ℕ) (σ : Stamps) (times : List ℕ) (links : List ℤ) : Type 0 where
  pub discoveries : (s : ℕ) → s < 2 * v → discovery_in times s ≡ discovery_at σ s
  pub finishes : (s : ℕ) → s < 2 * v → finish_in times s ≡ finish_at σ s
  pub parents : (s : ℕ) → s < 2 * v → parent_in links s ≡ lit_at (parent_at σ s)
  pub starts : (s : ℕ) → s < 2 * v → start_in links s ≡ lit_at (start_at σ s)

module _ (v : ℕ) (adj : ℕ → List ℕ) (σ : Stamps) (times : List ℕ) (links : List ℤ) (S : Stamped adj (2 * v) σ) (size : length σ.discoveries ≡ 2 * v) (L : Laid v σ times links) where
  abbrev D : ℕ → ℕ
  D s = discovery_at σ s

  abbrev E : ℕ → ℕ
  E s = finish_at σ s

  F : Forest adj σ
  F = S.forest

  on : (s : ℕ) → s < 2 * v → 0 < D s
  on = S.all

  -- what is open when s is entered holds s
  around_holds : (u s : ℕ) → u < 2 * v → s < 2 * v → Around times u s → Holds σ u s
  around_holds u s lu ls a = go (F.parted u s (on u lu) (on s ls) (λ e. omega (arith, a.0, ap (discovery_in times) e)))
    where
      begins : D u < D s
      begins = omega (arith, a.0, L.discoveries u lu, L.discoveries s ls)

      inside : D s < E u
      inside = omega (arith, a.1, L.discoveries s ls, L.finishes u lu)

      go : Parted σ u s → Holds σ u s
      go (inl h) = absurd (omega (arith, inside))
      go (inr (inl h)) = absurd (omega (arith, begins, F.spans s (on s ls)))
      go (inr (inr (inl h))) = (omega arith, omega arith)
      go (inr (inr (inr h))) = absurd (omega (arith, begins))

  left : (s : ℕ) → s < 2 * v → Left v times s
  left s ls = record {
    forward = omega (arith, F.spans s (on s ls), L.discoveries s ls, L.finishes s ls);
    inside = λ u lu a b.
        let h = around_holds s u ls lu (a, b) in
        let d = (times_apart adj σ F u s (on u lu) (on s ls) (λ e. omega (arith, a, ap (discovery_in times) e))).1 in
        omega (arith, h.1, d, L.finishes u lu, L.finishes s ls);
  }

  entered : (s : ℕ) → s < 2 * v → Entered v times links s
  entered s ls = ⊎_elim
      (λ (t : Top σ s). inl (record {
        parent = L.parents s ls ∙ ap lit_at t.parent;
        start = L.starts s ls ∙ ap lit_at t.start;
        alone = λ u lu a. t.widest u (on u lu) (λ e. omega (arith, a.0, ap (discovery_in times) e)) (around_holds u s lu ls a);
      }))
      (λ (w : (p : ℕ) × forest.Under adj σ s p).
      let p = w.0 in
      let U = w.1 in
      let lp = entered_below adj (2 * v) σ S size p U.entered in
      inr (
        p,
        record {
          slot = lp;
          parent = L.parents s ls ∙ ap lit_at U.parent;
          start = L.starts s ls ∙ ap lit_at U.start ∙ sym (L.starts p lp);
          around = (omega (arith, U.begins, L.discoveries p lp, L.discoveries s ls), omega (arith, U.ends, F.spans s (on s ls), L.discoveries s ls, L.finishes p lp));
          last = λ u lu a.
              let h = U.narrowest u (on u lu) (λ e. omega (arith, a.0, ap (discovery_in times) e)) (around_holds u s lu ls a) in
              omega (arith, h.0, L.discoveries u lu, L.discoveries p lp);
        },
      ))
      (F.tree s (on s ls))

  -- place k of the times is the discovery or the finish of slot k / 2
  At : ℕ → Type 0
  At k = ((k ≡ 2 * (k / 2)) × (get_or times k 0 ≡ D (k / 2))) ⊎ ((k ≡ 2 * (k / 2) + 1) × (get_or times k 0 ≡ E (k / 2)))

  at : (k : ℕ) → k < 4 * v → At k
  unfolding At
  at k lk =
      ⊎_elim
      (λ (e : k ≡ 2 * (k / 2)). inl (e, ap (λ (j : ℕ). get_or times j 0) e ∙ L.discoveries (k / 2) (omega arith)))
      (λ (n : k ≡ 2 * (k / 2) → ⊥). let e : k ≡ 2 * (k / 2) + 1 = omega arith in inr (e, ap (λ (j : ℕ). get_or times j 0) e ∙ L.finishes (k / 2) (omega arith)))
      (same_or k (2 * (k / 2)))

  -- a discovery is no finish, and two slots share neither
  apart : (s u : ℕ) → s < 2 * v → u < 2 * v → (D s ≡ D u → s ≡ u) × (E s ≡ E u → s ≡ u) × (D s ≡ E u → ⊥)
  apart s u ls lu =
      ⊎_elim
      (λ (e : s ≡ u). (λ _. e, λ _. e, λ h. omega (arith, F.spans s (on s ls), h, ap E e)))
      (λ (d : s ≡ u → ⊥). let t = times_apart adj σ F s u (on s ls) (on u lu) d in (λ h. absurd (t.0 h), λ h. absurd (t.1 h), t.2))
      (same_or s u)

  every_time : Times (4 * v) times
  unfolding At
  every_time = record { ranged = λ k lk. bounds k lk (at k lk); once = λ j lj k lk e. same j k lj lk e (at j lj) (at k lk) }
    where
      bounds : (k : ℕ) → k < 4 * v → At k → (0 < get_or times k 0) × (get_or times k 0 ≤ 4 * v)
      bounds k lk a =
          let s = k / 2 in
          let ls : s < 2 * v = omega arith in
          ⊎_elim
          (λ h. (omega (arith, h.1, on s ls), omega (arith, h.1, F.spans s (on s ls), F.past s (on s ls), S.end)))
          (λ h. (omega (arith, h.1, F.spans s (on s ls)), omega (arith, h.1, F.past s (on s ls), S.end)))
          a

      same : (j k : ℕ) → j < 4 * v → k < 4 * v → get_or times j 0 ≡ get_or times k 0 → At j → At k → j ≡ k
      same j k lj lk e (inl a) (inl b) = omega (arith, a.0, b.0, (apart (j / 2) (k / 2) (omega arith) (omega arith)).0 (sym a.1 ∙ e ∙ b.1))
      same j k lj lk e (inl a) (inr b) = absurd ((apart (j / 2) (k / 2) (omega arith) (omega arith)).2 (sym a.1 ∙ e ∙ b.1))
      same j k lj lk e (inr a) (inl b) = absurd ((apart (k / 2) (j / 2) (omega arith) (omega arith)).2 (sym b.1 ∙ sym e ∙ a.1))
      same j k lj lk e (inr a) (inr b) = omega (arith, a.0, b.0, (apart (j / 2) (k / 2) (omega arith) (omega arith)).1 (sym a.1 ∙ e ∙ b.1))

  pub stamped_fresh : FreshStamps v times links
  stamped_fresh = fresh_from v times links every_time entered left

-- ---- the records of two columns

module _ {A : Type 0} where
  pub first_of_lem : (xs ys : List A) (s : ℕ) (d : A) → s < length xs → length ys ≡ length xs → get_or (interleave xs ys) (2 * s) d ≡ get_or xs s d
  unfolding interleave
  first_of_lem [] ys s d lt len = absurd (omega arith)
  first_of_lem (x ∷ xs) [] s d lt len = absurd (omega arith)
  first_of_lem (x ∷ xs) (y ∷ ys) zero d lt len = refl
  first_of_lem (x ∷ xs) (y ∷ ys) (suc s) d lt len =
      ap (λ (k : ℕ). get_or (x ∷ y ∷ interleave xs ys) k d) (let e : 2 * suc s ≡ suc (suc (2 * s)) = omega arith in e) ∙ first_of_lem xs ys s d (omega arith) (omega arith)

  pub second_of : (xs ys : List A) (s : ℕ) (d : A) → s < length xs → length ys ≡ length xs → get_or (interleave xs ys) (2 * s + 1) d ≡ get_or ys s d
  unfolding interleave
  second_of [] ys s d lt len = absurd (omega arith)
  second_of (x ∷ xs) [] s d lt len = absurd (omega arith)
  second_of (x ∷ xs) (y ∷ ys) zero d lt len = refl
  second_of (x ∷ xs) (y ∷ ys) (suc s) d lt len =
      ap (λ (k : ℕ). get_or (x ∷ y ∷ interleave xs ys) k d) (let e : 2 * suc s + 1 ≡ suc (suc (2 * s + 1)) = omega arith in e) ∙ second_of xs ys s d (omega arith) (omega arith)

  front_first : (xs ys r : List A) (s : ℕ) (d : A) → s < length xs → length ys ≡ length xs → get_or (interleave xs ys ++ r) (2 * s) d ≡ get_or xs s d
  front_first xs ys r s d lt len = get_or-append (interleave xs ys) r d (2 * s) (omega (arith, many_records xs ys len)) ∙ first_of_lem xs ys s d lt len

  front_second : (xs ys r : List A) (s : ℕ) (d : A) → s < length xs → length ys ≡ length xs → get_or (interleave xs ys ++ r) (2 * s + 1) d ≡ get_or ys s d
  front_second xs ys r s d lt len = get_or-append (interleave xs ys) r d (2 * s + 1) (omega (arith, many_records xs ys len)) ∙ second_of xs ys s d lt len

literal_at : (l : List ℕ) (s : ℕ) → s < length l → get_or (map lit_at l) s (pos 0) ≡ lit_at (get_or l s 0)
literal_at l s lt = get_d_any (map lit_at l) s (pos 0) (lit_at 0) (omega (arith, lt, length-map l lit_at)) ∙ get_or-map lit_at l s 0

-- ---- the stamps of any clauses on the slots of v variables, under any list of all their slots

module _ (cs : List (List ℕ)) (v : ℕ) (below : (c : List ℕ) → Memᴰ c cs → (q : ℕ) → Memᴰ q c → q < 2 * v) (order : List ℕ) (o : Lists (2 * v) order) where
  -- the walk leaves the columns' lengths as they were
  pub stamps_less : Less (blank (2 * v) (replicate (2 * v) 0) (replicate (2 * v) 0) (replicate (2 * v) 0)) (stamps_of cs (2 * v) order)
  unfolding stamps_of stamp_all start_walk
  stamps_less =
      let n : ℕ = 2 * v in
      let z : List ℕ = replicate n 0 in
      let adj : ℕ → List ℕ = implications cs in
      let root : ℕ → Bool = λ q. absent q (tos cs) in
      let visit : ℕ → Stamps → Stamps = start_walk (length {A = ℕ} (replicate n 0)) adj in
      let in_graph : (s q : ℕ) → s < n → Memᴰ q (adj s) → q < n = λ s q lt m. (edge_below cs v below s q m).1 in
      let less = edges_less adj n in_graph visit (λ q σ. enters_less adj n in_graph (length {A = ℕ} (replicate n 0)) q q q σ) in
      let one = less (filter root order) (λ q m. o.below q (mem_filter root order m)) (blank n z z z) (length-replicate n 0) in
      let two = less order o.below (edges visit (filter root order) (blank n z z z)) (one.discs ∙ length-replicate n 0) in
      less_trans (blank n z z z) (edges visit (filter root order) (blank n z z z)) (stamps_of cs n order) one two

  pub stamps_sized : length (stamps_of cs (2 * v) order).discoveries ≡ 2 * v
  stamps_sized = stamps_less.discs ∙ length-replicate (2 * v) 0

  pub stamps_stamped : Stamped (implications cs) (2 * v) (stamps_of cs (2 * v) order)
  unfolding stamps_of
  stamps_stamped =
      let z : List ℕ = replicate (2 * v) 0 in
      let n : length z ≡ 2 * v = length-replicate _ 0 in
      stamp_theorem (implications cs) (2 * v) (λ s q lt m. (edge_below cs v below s q m).1) (λ q. absent q (tos cs)) order z z z (stamps_of cs (2 * v) order) o.below o.all n n n stamps_sized refl

-- ---- Stamp's

module _ {v n : ℕ} {cs : List ℕ} {ls : List ℤ} {order : List ℤ} (P : Proper v n cs ls) (F : Full v order) where
  abbrev clauses : List (List ℕ)
  clauses = slots_from cs ls n 0

  abbrev slots : List ℕ
  slots = map slot_of order

  abbrev σ : Stamps
  σ = stamps_of clauses (2 * v) slots

  -- the walk leaves the columns' lengths as they were
  less : Less (blank (2 * v) (replicate (2 * v) 0) (replicate (2 * v) 0) (replicate (2 * v) 0)) σ
  less = stamps_less clauses v (slots_in P.listed) slots (full_lists F)

  pub discoveries_size : length σ.discoveries ≡ 2 * v
  discoveries_size = less.discs ∙ length-replicate (2 * v) 0

  pub finishes_size : length σ.finishes ≡ 2 * v
  finishes_size = less.fins ∙ length-replicate (2 * v) 0

  pub parents_size : length σ.parents ≡ 2 * v
  parents_size = less.pars ∙ length-replicate (2 * v) 0

  pub starts_size : length σ.starts ≡ 2 * v
  starts_size = less.starts ∙ length-replicate (2 * v) 0

  stamped : Stamped (implications clauses) (2 * v) σ
  stamped = stamps_stamped clauses v (slots_in P.listed) slots (full_lists F)

  -- every link that the walk leaves is a slot
  pub entries_below : {d' f' p' s' : List ℕ} → ColumnsHold σ d' f' p' s' → (q : ℕ) → q < 2 * v → (get_or p' q 0 < 2048) × (get_or s' q 0 < 2048)
  entries_below H q lt =
      let k = links_below (implications clauses) (2 * v) σ stamped discoveries_size q lt in (
        omega (arith, k.0, P.listed.few, ap (λ (l : List ℕ). get_or l q 0) H.pars),
        omega (arith, k.1, P.listed.few, ap (λ (l : List ℕ). get_or l q 0) H.tops),
      )

  module _ (t : Tables) where
    abbrev t' : Tables
    t' = stamped_tables v σ t

    laid : Laid v σ t'.times t'.links
    unfolding stamped_tables
    laid =
        let mp = length-map σ.parents lit_at in
        let ms = length-map σ.starts lit_at in
        record {
          discoveries = λ s lt. front_first σ.discoveries σ.finishes (drop (4 * v) t.times) s 0 (omega (arith, discoveries_size)) (finishes_size ∙ sym discoveries_size);
          finishes = λ s lt. front_second σ.discoveries σ.finishes (drop (4 * v) t.times) s 0 (omega (arith, discoveries_size)) (finishes_size ∙ sym discoveries_size);
          parents = λ s lt.
              front_first (map lit_at σ.parents) (map lit_at σ.starts) (drop (4 * v) t.links) s (pos 0) (omega (arith, parents_size, mp)) (omega (arith, parents_size, starts_size, mp, ms))
              ∙ literal_at σ.parents s (omega (arith, parents_size));
          starts = λ s lt.
              front_second (map lit_at σ.parents) (map lit_at σ.starts) (drop (4 * v) t.links) s (pos 0) (omega (arith, parents_size, mp)) (omega (arith, parents_size, starts_size, mp, ms))
              ∙ literal_at σ.starts s (omega (arith, starts_size));
        }

    pub records_fresh : FreshStamps v t'.times t'.links
    records_fresh = stamped_fresh v (implications clauses) σ t'.times t'.links stamped discoveries_size laid

    -- no table changes its length
    pub times_long : 4 * v ≤ length t.times → length t'.times ≡ length t.times
    unfolding stamped_tables
    times_long le =
        length-append (interleave σ.discoveries σ.finishes) (drop (4 * v) t.times)
        ∙ omega (arith, many_records σ.discoveries σ.finishes (finishes_size ∙ sym discoveries_size), discoveries_size, length-drop (4 * v) t.times)

    pub links_long : 4 * v ≤ length t.links → length t'.links ≡ length t.links
    unfolding stamped_tables
    links_long le =
        let mp = length-map σ.parents lit_at in
        let ms = length-map σ.starts lit_at in
        length-append (interleave (map lit_at σ.parents) (map lit_at σ.starts)) (drop (4 * v) t.links)
        ∙ omega (arith, many_records (map lit_at σ.parents) (map lit_at σ.starts) (omega (arith, parents_size, starts_size, mp, ms)), parents_size, mp, length-drop (4 * v) t.links)
