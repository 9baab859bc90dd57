-- The loops over slots and literals, step by step. Assumes nothing.
use Prim.Native.Nat.{ℕ, zero, suc, ◌+◌, ◌*◌, ◌-◌, ◌≤◌, ◌<◌}
use native.Mathlib.Numerals.{add-one}
use native.Mathlib.Omega.{arith}
use mathlib.Core.Path.{◌≡◌, refl, sym, ap, subst, ◌∙◌}
use mathlib.Core.Bool.{Bool, true, false}
use mathlib.Core.Logic.{⊎_elim}
use mathlib.Core.List.{List, [], ◌∷◌, ◌++◌, append-nil}
use lib.ListN.{length, take, drop, get_or, set, length-set, drop_of_length-le}
use lib.Seq.{drop-cons, set_split, take-suc-set, take-set-le, get_or-set_other, append_snoc, length-take-le, drop_at, drop-length, take-take}
use lib.Dec.{ltb, eqb}
use lib.IntN.{ℤ, pos, neg_ℤ}
use borrow.Author.Tests.{eq-eqb, ne_eqb}
use Rattle.base.specs.Decide.{same_or, le_or}
use Rattle.base.specs.Lists.{any}
use Rattle.base.proofs.Lists.{filter_in, filter_out, any_here, any_next, take_same}
use Rattle.literal.specs.Literals.{Literal, slot_of}
use Rattle.literal.proofs.Compact.{Compact, start, stay, gone}
use Rattle.intervals.specs.declared.Interval.{Interval}
use Rattle.intervals.specs.declared.Relation.{Relation}
use Rattle.intervals.specs.Intervals.{interval, compare}
use Rattle.intervals.specs.Relations.{wider, begins_first}
use Rattle.intervals.proofs.Comparing.{compare_begins_first}
use Rattle.walk.specs.Walk.{Stamps}
use Rattle.walk.specs.Forest.{discovery_at, finish_at}
use Rattle.stamp_columns.specs.Columns.{columns}
use Rattle.stamp_columns.specs.Intervals.{interval_at}
use Rattle.stamp_columns.specs.Slots.{Slots}
use Rattle.discovery_order.proofs.Sorting.{slot_at}
use Rattle.clause_slots.specs.Stamped.{Lits}
use Rattle.hidden_literals.specs.Sorted.{Searched}
use Rattle.hidden_literals.specs.Figures.{innermost, inner, outer, outermost, among, kept_by}

-- ---- lines 1 to 4

-- `last` is the interval of the slot that stayed last
pub record Narrowing (times xs₀ xs : List ℕ) (last : Interval) (n i : ℕ) : Type 0 where
  pub within : i ≤ n
  pub room : n ≤ length xs
  pub same : length xs ≡ length xs₀
  pub front : take i xs ≡ take i xs₀
  pub kept : (links : List ℤ) → drop n xs ≡ inner (columns times links) (drop i xs₀)
  pub stayed : (links : List ℤ) → last ≡ innermost (columns times links) (drop i xs₀)

pub narrowing_none : (times xs : List ℕ) → Narrowing times xs xs (interval 4294967295 4294967295) (length xs) (length xs)
unfolding inner innermost
narrowing_none times xs = record {
  within = omega arith;
  room = omega arith;
  same = refl;
  front = refl;
  kept = λ links. drop-length xs ∙ sym (ap (inner (columns times links)) (drop-length xs));
  stayed = λ links. sym (ap (innermost (columns times links)) (drop-length xs));
}

module _ (σ : Stamps) (x : ℕ) (xs : List ℕ) where
  inner_goes : wider (compare (interval_at σ x) (innermost σ xs)) ≡ true → (inner σ (x ∷ xs) ≡ inner σ xs) × (innermost σ (x ∷ xs) ≡ innermost σ xs)
  unfolding inner innermost
  inner_goes e = (rw (e, inner), rw (e, innermost))

  inner_stays : wider (compare (interval_at σ x) (innermost σ xs)) ≡ false → (inner σ (x ∷ xs) ≡ x ∷ inner σ xs) × (innermost σ (x ∷ xs) ≡ interval_at σ x)
  unfolding inner innermost
  inner_stays e = (rw (e, inner), rw (e, innermost))

  outer_goes : (last : Interval) → wider (compare last (interval_at σ x)) ≡ true → outer σ last (x ∷ xs) ≡ outer σ last xs
  unfolding outer
  outer_goes last e = rw (e, outer)

  outer_stays : (last : Interval) → wider (compare last (interval_at σ x)) ≡ false → outer σ last (x ∷ xs) ≡ x ∷ outer σ (interval_at σ x) xs
  unfolding outer
  outer_stays last e = rw (e, outer)

-- what the code has read: r is the answer for the intervals t and u, which are a and b
read_wider : {a b t u : Interval} {r : Relation} {h : Bool} → t ≡ a → u ≡ b → r ≡ compare t u → h ≡ wider r → wider (compare a b) ≡ h
read_wider p q e k = sym (k ∙ ap wider (e ∙ (λ i. compare (p i) (q i))))

module _ {times xs₀ xs : List ℕ} {last : Interval} {n i : ℕ} (N : Narrowing times xs₀ xs last n i) (some : 0 < i) where
  abbrev slot_before : ℕ
  slot_before = get_or xs (i - 1) 0

  unmoved : slot_before ≡ get_or xs₀ (i - 1) 0
  unmoved = take_same i (i - 1) xs xs₀ 0 (omega arith) N.front

  -- the slot before i, and the rest
  from : drop (i - 1) xs₀ ≡ slot_before ∷ drop i xs₀
  from =
      drop-cons xs₀ (i - 1) 0 (omega (arith, N.within, N.room, N.same)) ∙ ap (λ (y : ℕ). y ∷ drop (suc (i - 1)) xs₀) (sym unmoved)
      ∙ ap (λ (k : ℕ). slot_before ∷ drop k xs₀) (let e : suc (i - 1) ≡ i = omega arith in e)

  pub narrowing_time : Slots times xs₀ → 2 * slot_before + 1 < length times
  narrowing_time S = subst (λ (y : ℕ). 2 * y + 1 < length times) (sym unmoved) (slot_at S (i - 1) (omega (arith, N.within, N.room, N.same)))

  module _ (t : Interval) (is : t ≡ interval_at (columns times []) slot_before) {r : Relation} {h : Bool} (e : r ≡ compare t last) (k : h ≡ wider r) where
    test : (links : List ℤ) → wider (compare (interval_at (columns times links) slot_before) (innermost (columns times links) (drop i xs₀))) ≡ h
    test links = read_wider is (N.stayed links) e k

    pub narrowing_stays : h ≡ false → Narrowing times xs₀ (set xs (n - 1) slot_before) t (n - 1) (i - 1)
    narrowing_stays out = record {
      within = omega (arith, N.within);
      room = simp length-set (omega (arith, N.room));
      same = simp length-set N.same;
      front = take-set-le (i - 1) xs (n - 1) slot_before (omega (arith, N.within)) ∙ sym (take-take (i - 1) i xs (omega arith)) ∙ ap (take (i - 1)) N.front ∙ take-take (i - 1) i xs₀ (omega arith);
      kept = λ links.
          placed slot_before ∙ ap (λ (l : List ℕ). slot_before ∷ l) (N.kept links)
          ∙ sym (inner_stays (columns times links) slot_before (drop i xs₀) (test links ∙ out)).0 ∙ ap (inner (columns times links)) (sym from);
      stayed = λ links. is ∙ sym (inner_stays (columns times links) slot_before (drop i xs₀) (test links ∙ out)).1 ∙ ap (innermost (columns times links)) (sym from);
    }
      where
        placed : (y : ℕ) → drop (n - 1) (set xs (n - 1) y) ≡ y ∷ drop n xs
        placed y =
            ap (drop (n - 1)) (set_split xs (n - 1) y (omega (arith, N.room, N.within))) ∙ drop_at (take (n - 1) xs) (y ∷ drop (suc (n - 1)) xs) (n - 1) (length-take-le (n - 1) xs (omega (arith, N.room)))
            ∙ ap (λ (k : ℕ). y ∷ drop k xs) (let q : suc (n - 1) ≡ n = omega (arith, N.within) in q)

    pub narrowing_goes : h ≡ true → Narrowing times xs₀ xs last n (i - 1)
    narrowing_goes holds = record {
      within = omega (arith, N.within);
      room = N.room;
      same = N.same;
      front = sym (take-take (i - 1) i xs (omega arith)) ∙ ap (take (i - 1)) N.front ∙ take-take (i - 1) i xs₀ (omega arith);
      kept = λ links. N.kept links ∙ sym (inner_goes (columns times links) slot_before (drop i xs₀) (test links ∙ holds)).0 ∙ ap (inner (columns times links)) (sym from);
      stayed = λ links. N.stayed links ∙ sym (inner_goes (columns times links) slot_before (drop i xs₀) (test links ∙ holds)).1 ∙ ap (innermost (columns times links)) (sym from);
    }

-- ---- lines 5 to 8

pub record Widening (times xs₀ xs : List ℕ) (last : Interval) (n i : ℕ) : Type 0 where
  pub behind : n ≤ i
  pub within : i ≤ length xs
  pub same : length xs ≡ length xs₀
  pub ahead : (k : ℕ) → i ≤ k → get_or xs k 0 ≡ get_or xs₀ k 0
  pub split : (links : List ℤ) → outermost (columns times links) xs₀ ≡ take n xs ++ outer (columns times links) last (drop i xs₀)

module _ {times xs₀ xs : List ℕ} {last : Interval} {n i : ℕ} (W : Widening times xs₀ xs last n i) (lt : i < length xs) where
  abbrev slot_here : ℕ
  slot_here = get_or xs i 0

  next : drop i xs₀ ≡ slot_here ∷ drop (i + 1) xs₀
  next = drop-cons xs₀ i 0 (omega (arith, W.same, lt)) ∙ sym (λ j. W.ahead i (omega arith) j ∷ drop (add-one i j) xs₀)

  pub widening_time : Slots times xs₀ → 2 * slot_here + 1 < length times
  widening_time S = subst (λ (y : ℕ). 2 * y + 1 < length times) (sym (W.ahead i (omega arith))) (slot_at S i (omega (arith, W.same, lt)))

  module _ (t : Interval) (is : t ≡ interval_at (columns times []) slot_here) {r : Relation} {h : Bool} (e : r ≡ compare last t) (k : h ≡ wider r) where
    outer_test : (links : List ℤ) → wider (compare last (interval_at (columns times links) slot_here)) ≡ h
    outer_test links = read_wider refl is e k

    pub widening_stays : h ≡ false → Widening times xs₀ (set xs n slot_here) t (n + 1) (i + 1)
    widening_stays out = record {
      behind = omega (arith, W.behind);
      within = simp length-set (omega arith);
      same = simp length-set W.same;
      ahead = λ k l. get_or-set_other xs n k slot_here 0 (λ q. omega (arith, q, l, W.behind)) ∙ W.ahead k (omega arith);
      split = λ links.
          W.split links ∙ ap (λ (l : List ℕ). take n xs ++ outer (columns times links) last l) next
          ∙ ap (λ (l : List ℕ). take n xs ++ l) (outer_stays (columns times links) slot_here (drop (i + 1) xs₀) last (outer_test links ∙ out))
          ∙ ap (λ (u : Interval). take n xs ++ slot_here ∷ outer (columns times links) u (drop (i + 1) xs₀)) (sym is)
          ∙ placed slot_here (outer (columns times links) t (drop (i + 1) xs₀));
    }
      where
        placed : (y : ℕ) (l : List ℕ) → take n xs ++ y ∷ l ≡ take (n + 1) (set xs n y) ++ l
        placed y l = sym (append_snoc (take n xs) y l) ∙ ap (λ (z : List ℕ). z ++ l) (sym (take-suc-set xs n y (omega (arith, W.behind, lt)))) ∙ ap (λ (k : ℕ). take k (set xs n y) ++ l) (sym (add-one n))

    pub widening_goes : h ≡ true → Widening times xs₀ xs last n (i + 1)
    widening_goes holds = record {
      behind = omega (arith, W.behind);
      within = omega arith;
      same = W.same;
      ahead = λ k l. W.ahead k (omega arith);
      split = λ links.
          W.split links ∙ ap (λ (l : List ℕ). take n xs ++ outer (columns times links) last l) next
          ∙ ap (λ (l : List ℕ). take n xs ++ l) (outer_goes (columns times links) slot_here (drop (i + 1) xs₀) last (outer_test links ∙ holds));
    }

pub widening_done : {times xs₀ xs : List ℕ} {last : Interval} {n i : ℕ} → Widening times xs₀ xs last n i → length xs ≤ i → (n ≤ length xs₀) × ((links : List ℤ) → take n xs ≡ outermost (columns times links) xs₀)
unfolding outer
widening_done {times} {xs₀} {xs} {last} {n} {i} W h = (
  omega (arith, W.behind, W.within, W.same),
  λ links. sym (W.split links ∙ ap (λ (l : List ℕ). take n xs ++ outer (columns times links) last l) (let q : length xs₀ ≤ i = omega (arith, W.same, h) in drop_of_length-le xs₀ q) ∙ append-nil (take n xs)),
)

-- ---- the search

pub record Halving (xs : List ℕ) (s low high : ℕ) : Type 0 where
  pub ordered : low ≤ high
  pub within : high ≤ length xs
  pub before : (k : ℕ) → k < low → get_or xs k 0 ≡ s → ⊥
  pub behind : (k : ℕ) → high ≤ k → k < length xs → get_or xs k 0 ≡ s → ⊥

pub among_at : (s : ℕ) (xs : List ℕ) (k : ℕ) → k < length xs → get_or xs k 0 ≡ s → among s xs ≡ true
unfolding any
among_at s [] k lt e = absurd (omega arith)
among_at s (x ∷ xs) zero lt e = any_here (λ m. eqb m s) x xs (eq-eqb x s e)
among_at s (x ∷ xs) (suc k) lt e =
    ⊎_elim
    (λ (q : x ≡ s). any_here (λ m. eqb m s) x xs (eq-eqb x s q))
    (λ (d : x ≡ s → ⊥). any_next (λ m. eqb m s) x xs (ne_eqb x s d) ∙ among_at s xs k (omega arith) e)
    (same_or x s)

pub among_none : (s : ℕ) (xs : List ℕ) → ((k : ℕ) → k < length xs → get_or xs k 0 ≡ s → ⊥) → among s xs ≡ false
unfolding any
among_none s [] h = refl
among_none s (x ∷ xs) h = any_next (λ m. eqb m s) x xs (ne_eqb x s (h 0 (omega arith))) ∙ among_none s xs (λ k l e. h (suc k) (omega arith) e)

module _ {xs : List ℕ} {s low high : ℕ} (H : Halving xs s low high) where
  pub halving_done : high ≤ low → among s xs ≡ false
  halving_done h = among_none s xs (λ k l e. ⊎_elim (λ (a : low ≤ k). H.behind k (omega (arith, h, a)) l e) (λ (a : k < low). H.before k a e) (le_or low k))

  module _ {times : List ℕ} (S : Searched times xs s) (mid : ℕ) (lo : low ≤ mid) (hi : mid < high) (other : get_or xs mid 0 ≡ s → ⊥) where
    -- what the code has read of the middle slot and s
    pub halving_read : {t u : Interval} → t ≡ interval_at (columns times []) (get_or xs mid 0) → u ≡ interval_at (columns times []) s → {r : Relation} {h : Bool} → r ≡ compare t u → h ≡ begins_first r
        → ltb (discovery_at (columns times []) (get_or xs mid 0)) (discovery_at (columns times []) s) ≡ h
    halving_read p q e k =
        sym (k ∙ ap begins_first (e ∙ (λ i. compare (p i) (q i))) ∙ compare_begins_first _ _ (λ d. let o = S.alone mid (omega (arith, hi, H.within)) d in (d, ap (finish_at (columns times [])) o)))

    pub halving_up : discovery_at (columns times []) (get_or xs mid 0) < discovery_at (columns times []) s → Halving xs s (mid + 1) high
    halving_up lt = record {
      ordered = omega arith;
      within = H.within;
      before = λ k h e. ⊎_elim (λ (q : k ≡ mid). other (ap (λ (j : ℕ). get_or xs j 0) (sym q) ∙ e)) (λ (d : k ≡ mid → ⊥). omega (arith, lt, S.rises k mid (omega (arith, h, d)) (omega (arith, hi, H.within)), ap (discovery_at (columns times [])) e)) (same_or k mid);
      behind = H.behind;
    }

    pub halving_down : discovery_at (columns times []) s ≤ discovery_at (columns times []) (get_or xs mid 0) → Halving xs s low mid
    halving_down le = record {
      ordered = lo;
      within = omega (arith, hi, H.within);
      before = H.before;
      behind = λ k h l e.
          ⊎_elim
          (λ (q : mid ≡ k). other (ap (λ (j : ℕ). get_or xs j 0) q ∙ e))
          (λ (d : mid ≡ k → ⊥). ⊎_elim (λ (t : discovery_at (columns times []) (get_or xs mid 0) ≡ discovery_at (columns times []) s). other (S.alone mid (omega (arith, hi, H.within)) t))
          (λ (t : discovery_at (columns times []) (get_or xs mid 0) ≡ discovery_at (columns times []) s → ⊥). omega (arith, le, t, S.rises mid k (omega (arith, h, d)) l, ap (discovery_at (columns times [])) e)) (same_or (discovery_at (columns times []) (get_or xs mid 0)) (discovery_at (columns times []) s)))
          (same_or mid k);
    }

-- ---- the literals that stay

pub record Moving (slots : List ℕ) (p₀ p : List ℤ) (n i : ℕ) : Type 0 where
  pub compact : Compact (λ (s : List ℤ). kept_by slots) p₀ p n i
  pub ahead : (k : ℕ) → i ≤ k → get_or p k (pos 0) ≡ get_or p₀ k (pos 0)

pub moving_none : (slots : List ℕ) (p : List ℤ) → Moving slots p p 0 0
moving_none slots p = record { compact = start; ahead = λ k h. refl }

module _ {slots : List ℕ} {p₀ p : List ℤ} {n i : ℕ} (M : Moving slots p₀ p n i) (lt : i < length p) where
  pub moving_literal : Lits p₀ → Literal 1024 (get_or p i (pos 0))
  moving_literal L = subst (Literal 1024) (sym (M.ahead i (omega arith))) (L.each i (omega (arith, M.compact.same, lt)))

  pub moving_stays : among (slot_of (neg_ℤ (get_or p i (pos 0)))) slots ≡ true → Moving slots p₀ (set p n (get_or p i (pos 0))) (n + 1) (i + 1)
  moving_stays e = record {
    compact = stay M.compact lt (filter_in (λ l. among (slot_of (neg_ℤ l)) slots) (get_or p i (pos 0)) (drop (suc i) p) e);
    ahead = λ k h. get_or-set_other p n k (get_or p i (pos 0)) (pos 0) (λ q. omega (arith, q, h, M.compact.behind)) ∙ M.ahead k (omega arith);
  }

  pub moving_goes : among (slot_of (neg_ℤ (get_or p i (pos 0)))) slots ≡ false → Moving slots p₀ p n (i + 1)
  moving_goes e = record {
    compact = gone M.compact lt (filter_out (λ l. among (slot_of (neg_ℤ l)) slots) (get_or p i (pos 0)) (drop (suc i) p) e);
    ahead = λ k h. M.ahead k (omega arith);
  }

-- ---- a literal and its complement have slots
