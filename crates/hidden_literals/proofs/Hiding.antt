-- What stays of a sorted list is what holds no other, or what no other holds.
--     inner_filter    of slots by rising discovery, those that hold no other
--     outer_filter    and those that no other holds
-- Assumes nothing.
use Prim.Native.Nat.{ℕ, ◌≤◌, ◌<◌}
use native.Mathlib.Omega.{arith}
use mathlib.Core.Path.{◌≡◌, refl, sym, ap, ◌∙◌}
use mathlib.Core.Bool.{Bool, true, false, not, ◌&&◌, ◌||◌, or-false}
use mathlib.Core.List.{List, [], ◌∷◌, Memᴰ}
use lib.Dec.{eqb}
use borrow.Author.Tests.{eq-eqb}
use Rattle.base.specs.Lists.{any, filter}
use Rattle.base.proofs.Booleans.{and_left, and_right, clash, both_ways, differ, differs}
use Rattle.base.proofs.Lists.{any_here, any_next, filter_same, any_same, no_any}
use Rattle.intervals.specs.declared.Interval.{Interval}
use Rattle.intervals.specs.Intervals.{interval, compare}
use Rattle.intervals.specs.Relations.{wider}
use Rattle.intervals.proofs.Wider.{wider_true, wider_through, wider_than_middle, middle_wider}
use Rattle.walk.specs.Walk.{Stamps}
use Rattle.walk.specs.Forest.{discovery_at, finish_at}
use Rattle.stamp_columns.specs.Intervals.{interval_at, relation}
use Rattle.hidden.specs.Hidden.{holds}
use Rattle.hidden.proofs.Intervals.{Nested, Below, holds_true, inside}
use Rattle.hidden.proofs.Relations.{relation_wider}
use Rattle.hidden.proofs.Sorted.{Rising}
use Rattle.hidden_literals.specs.Figures.{innermost, inner, outer, outermost}

-- x holds another of the list; another of the list holds x
abbrev pub holds_one : Stamps → List ℕ → ℕ → Bool
holds_one σ xs x = any (λ m. not (eqb m x) && holds σ x m) xs

abbrev pub held_by_one : Stamps → List ℕ → ℕ → Bool
held_by_one σ xs x = any (λ m. not (eqb m x) && holds σ m x) xs

module _ (size : ℕ) (σ : Stamps) (N : Nested size σ) where
  turned : (a b : ℕ) → not (eqb a b) ≡ not (eqb b a)
  turned a b = both_ways _ _ (λ h. differs b a (λ e. differ a b h (sym e))) (λ h. differs a b (λ e. differ b a h (sym e)))

  -- the test of the definition is the answer `holds`
  answer : (x m : ℕ) → x < size → m < size → (not (eqb x m) && holds σ x m) ≡ wider (relation σ x m)
  answer x m lx lm = sym (relation_wider size σ N x m lx lm)

  answer' : (x m : ℕ) → x < size → m < size → (not (eqb m x) && holds σ x m) ≡ wider (relation σ x m)
  answer' x m lx lm = ap (λ (b : Bool). b && holds σ x m) (turned m x) ∙ answer x m lx lm

  -- a slot that is discovered no earlier than another does not hold it
  earlier : (x m : ℕ) → x < size → m < size → discovery_at σ x ≤ discovery_at σ m → (b : Bool) → (b ≡ true → x ≡ m → ⊥) → (b && holds σ m x) ≡ false
  earlier x m lx lm le b d =
      both_ways (b && holds σ m x) false
      (λ h. absurd (omega (arith, le, (inside size σ N m x lm lx (d (and_left b (holds σ m x) h)) (holds_true σ m x (and_right b (holds σ m x) h))).0)))
      (λ h. clash h refl)

  self : (x : ℕ) (b : Bool) → (not (eqb x x) && b) ≡ false
  self x b = ap (λ (c : Bool). not c && b) (eq-eqb x x refl)

  -- ---- lines 1 to 4

  module _ (small : (q : ℕ) → q < size → finish_at σ q < 4294967295) where
    -- no slot of the list begins after the one that stays last
    innermost_begins : (d : ℕ) → d ≤ 4294967295 → (xs : List ℕ) → ((y : ℕ) → Memᴰ y xs → d ≤ discovery_at σ y) → d ≤ (innermost σ xs).begin
    unfolding innermost
    innermost_begins d h [] low = h
    innermost_begins d h (x ∷ xs) low = go (innermost_begins d h xs (λ y m. low y (Memᴰ.tail m))) (wider (compare (interval_at σ x) (innermost σ xs)))
      where
        go : d ≤ (innermost σ xs).begin → (b : Bool) → d ≤ (elim b as (λ _. Interval) [ true ↦ innermost σ xs | false ↦ interval_at σ x ]).begin
        go r true = r
        go r false = low x (Memᴰ.head refl)

    -- a slot that is discovered no later than any of the list holds one of them exactly if it holds the one that stays last
    innermost_any : (x : ℕ) → x < size → (xs : List ℕ) → Below size xs → Rising σ xs → ((y : ℕ) → Memᴰ y xs → discovery_at σ x ≤ discovery_at σ y)
        → wider (compare (interval_at σ x) (innermost σ xs)) ≡ any (λ m. wider (relation σ x m)) xs
    unfolding innermost any
    innermost_any x lx [] below rise low = both_ways _ false (λ h. absurd (omega (arith, small x lx, (wider_true (interval_at σ x) (interval 4294967295 4294967295) h).0.1))) (λ h. clash h refl)
    innermost_any x lx (y ∷ ys) below rise low =
        go (innermost_any x lx ys (λ z m. below z (Memᴰ.tail m)) rise.1 (λ z m. low z (Memᴰ.tail m))) (wider (compare (interval_at σ y) last)) refl (wider (relation σ x y)) refl
      where
        last : Interval
        last = innermost σ ys

        begins : discovery_at σ y ≤ last.begin
        begins = let ly = below y (Memᴰ.head refl) in innermost_begins (discovery_at σ y) (omega (arith, small y ly, N.spans y ly)) ys rise.0

        go : wider (compare (interval_at σ x) last) ≡ any (λ m. wider (relation σ x m)) ys
            → (b : Bool) → wider (compare (interval_at σ y) last) ≡ b → (c : Bool) → wider (relation σ x y) ≡ c
            → wider (compare (interval_at σ x) (elim b [ true ↦ last | false ↦ interval_at σ y ])) ≡ elim c [ true ↦ true | false ↦ any (λ m. wider (relation σ x m)) ys ]
        go r true e true k = wider_through (interval_at σ x) (interval_at σ y) last k e
        go r true e false k = r
        go r false e true k = k
        go r false e false k = k ∙ sym (sym r ∙ none (wider (compare (interval_at σ x) last)) refl)
          where
            none : (b : Bool) → wider (compare (interval_at σ x) last) ≡ b → b ≡ false
            none true h = clash (wider_than_middle (interval_at σ x) (interval_at σ y) last (low y (Memᴰ.head refl)) begins e h) k
            none false h = refl

    pub inner_filter : (xs : List ℕ) → Below size xs → Rising σ xs → inner σ xs ≡ filter (λ x. not (holds_one σ xs x)) xs
    unfolding inner filter
    inner_filter [] below rise = refl
    inner_filter (x ∷ xs) below rise =
        go (inner_filter xs (λ y m. below y (Memᴰ.tail m)) rise.1) (wider (compare (interval_at σ x) (innermost σ xs))) refl (holds_one σ (x ∷ xs) x) first
      where
        lx : x < size
        lx = below x (Memᴰ.head refl)

        -- x holds one behind it
        first : holds_one σ (x ∷ xs) x ≡ wider (compare (interval_at σ x) (innermost σ xs))
        first =
            any_next (λ m. not (eqb m x) && holds σ x m) x xs (self x (holds σ x x))
            ∙ any_same _ _ xs (λ m k. answer' x m lx (below m (Memᴰ.tail k)))
            ∙ sym (innermost_any x lx xs (λ y m. below y (Memᴰ.tail m)) rise.1 rise.0)

        -- none behind it holds x
        rest : filter (λ y. not (holds_one σ xs y)) xs ≡ filter (λ y. not (holds_one σ (x ∷ xs) y)) xs
        rest = filter_same _ _ xs (λ y k. ap not (sym (any_next (λ m. not (eqb m y) && holds σ y m) x xs (earlier x y lx (below y (Memᴰ.tail k)) (rise.0 y k) (not (eqb x y)) (λ h. differ x y h)))))

        go : inner σ xs ≡ filter (λ y. not (holds_one σ xs y)) xs → (b : Bool) → wider (compare (interval_at σ x) (innermost σ xs)) ≡ b → (c : Bool) → c ≡ wider (compare (interval_at σ x) (innermost σ xs))
            → ◌≡◌ {A = List ℕ} (elim b [ true ↦ inner σ xs | false ↦ x ∷ inner σ xs ]) (elim (not c) [ true ↦ x ∷ filter (λ y. not (holds_one σ (x ∷ xs) y)) xs | false ↦ filter (λ y. not (holds_one σ (x ∷ xs) y)) xs ])
        go r true e true k = r ∙ rest
        go r true e false k = clash (k ∙ e) refl
        go r false e true k = clash refl (k ∙ e)
        go r false e false k = ap (λ (l : List ℕ). x ∷ l) (r ∙ rest)

  -- ---- lines 5 to 8

  -- `before` says which are held by one in front of the list: those that `last` holds
  outer_from : (xs : List ℕ) → Below size xs → Rising σ xs → (last : Interval) → ((y : ℕ) → Memᴰ y xs → last.begin ≤ discovery_at σ y)
      → (before : ℕ → Bool) → ((y : ℕ) → Memᴰ y xs → before y ≡ wider (compare last (interval_at σ y)))
      → outer σ last xs ≡ filter (λ y. not (before y || held_by_one σ xs y)) xs
  unfolding outer filter
  outer_from [] below rise last low before same = refl
  outer_from (x ∷ xs) below rise last low before same = go (outer_from xs (λ y m. below y (Memᴰ.tail m)) rise.1) (wider (compare last (interval_at σ x))) refl (before x || held_by_one σ (x ∷ xs) x) first
    where
      lx : x < size
      lx = below x (Memᴰ.head refl)

      -- x is held by none behind it
      none : held_by_one σ (x ∷ xs) x ≡ false
      none = any_next (λ m. not (eqb m x) && holds σ m x) x xs (self x (holds σ x x)) ∙ any_same _ (λ m. false) xs (λ m k. earlier x m lx (below m (Memᴰ.tail k)) (rise.0 m k) (not (eqb m x)) (λ h e. differ m x h (sym e))) ∙ no_any xs

      first : (before x || held_by_one σ (x ∷ xs) x) ≡ wider (compare last (interval_at σ x))
      first = ap (λ (b : Bool). before x || b) none ∙ or-false (before x) ∙ same x (Memᴰ.head refl)

      -- x counts with those in front
      and_x : ℕ → Bool
      and_x y = before y || (not (eqb x y) && holds σ x y)

      moved : (y : ℕ) → (and_x y || held_by_one σ xs y) ≡ (before y || held_by_one σ (x ∷ xs) y)
      moved y = cases (before y) (not (eqb x y) && holds σ x y) refl
        where
          cases : (a b : Bool) → (not (eqb x y) && holds σ x y) ≡ b → ((a || b) || held_by_one σ xs y) ≡ (a || held_by_one σ (x ∷ xs) y)
          cases true b e = refl
          cases false true e = sym (any_here (λ m. not (eqb m y) && holds σ m y) x xs e)
          cases false false e = sym (any_next (λ m. not (eqb m y) && holds σ m y) x xs e)

      rest : filter (λ y. not (and_x y || held_by_one σ xs y)) xs ≡ filter (λ y. not (before y || held_by_one σ (x ∷ xs) y)) xs
      rest = filter_same _ _ xs (λ y k. ap not (moved y))

      front : (y : ℕ) → Memᴰ y xs → and_x y ≡ (wider (compare last (interval_at σ y)) || wider (relation σ x y))
      front y k = λ i. same y (Memᴰ.tail k) i || answer x y lx (below y (Memᴰ.tail k)) i

      goes : wider (compare last (interval_at σ x)) ≡ true → (y : ℕ) → (wider (compare last (interval_at σ y)) || wider (relation σ x y)) ≡ wider (compare last (interval_at σ y))
      goes e y = by (wider (compare last (interval_at σ y))) refl (wider (relation σ x y)) refl
        where
          by : (a : Bool) → wider (compare last (interval_at σ y)) ≡ a → (b : Bool) → wider (relation σ x y) ≡ b → (a || b) ≡ a
          by true p b q = refl
          by false p true q = clash (wider_through last (interval_at σ x) (interval_at σ y) e q) p
          by false p false q = refl

      stays : wider (compare last (interval_at σ x)) ≡ false → (y : ℕ) → Memᴰ y xs → (wider (compare last (interval_at σ y)) || wider (relation σ x y)) ≡ wider (relation σ x y)
      stays e y k = by (wider (compare last (interval_at σ y))) refl (wider (relation σ x y)) refl
        where
          by : (a : Bool) → wider (compare last (interval_at σ y)) ≡ a → (b : Bool) → wider (relation σ x y) ≡ b → (a || b) ≡ b
          by true p true q = refl
          by true p false q = clash (middle_wider last (interval_at σ x) (interval_at σ y) (low x (Memᴰ.head refl)) (rise.0 y k) e p) q
          by false p b q = refl

      go : ((u : Interval) → ((y : ℕ) → Memᴰ y xs → u.begin ≤ discovery_at σ y) → (h : ℕ → Bool) → ((y : ℕ) → Memᴰ y xs → h y ≡ wider (compare u (interval_at σ y)))
          → outer σ u xs ≡ filter (λ y. not (h y || held_by_one σ xs y)) xs)
          → (b : Bool) → wider (compare last (interval_at σ x)) ≡ b → (c : Bool) → c ≡ wider (compare last (interval_at σ x))
          → ◌≡◌ {A = List ℕ} (elim b [ true ↦ outer σ last xs | false ↦ x ∷ outer σ (interval_at σ x) xs ])
          (elim (not c) [ true ↦ x ∷ filter (λ y. not (before y || held_by_one σ (x ∷ xs) y)) xs | false ↦ filter (λ y. not (before y || held_by_one σ (x ∷ xs) y)) xs ])
      go r true e true k = r last (λ y m. low y (Memᴰ.tail m)) and_x (λ y m. front y m ∙ goes e y) ∙ rest
      go r true e false k = clash (k ∙ e) refl
      go r false e true k = clash refl (k ∙ e)
      go r false e false k = ap (λ (l : List ℕ). x ∷ l) (r (interval_at σ x) rise.0 and_x (λ y m. front y m ∙ stays e y m) ∙ rest)

  pub outer_filter : (xs : List ℕ) → Below size xs → Rising σ xs → outermost σ xs ≡ filter (λ y. not (held_by_one σ xs y)) xs
  outer_filter xs below rise =
      outer_from xs below rise (interval 0 0) (λ y m. omega arith) (λ y. false)
      (λ y m. both_ways false _ (λ h. clash h refl) (λ h. absurd (omega (arith, N.spans y (below y m), (wider_true (interval 0 0) (interval_at σ y) h).0.1))))
