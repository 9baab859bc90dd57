-- What the code of figure 5 keeps is the two filters. Assumes nothing.
use Prim.Native.Nat.{ℕ, ◌<◌}
use mathlib.Core.Path.{◌≡◌, refl, sym, ap, subst, ◌∙◌}
use mathlib.Core.Bool.{Bool, true, not, ◌&&◌}
use mathlib.Core.List.Memᴰ
use mathlib.Core.List.{List, map, Memᴰ}
use lib.Dec.{eqb}
use lib.IntN.{ℤ, nat_abs}
use borrow.Author.Tests.{eqb-true, eq-eqb}
use Rattle.base.specs.Lists.{any, filter}
use Rattle.base.proofs.Booleans.{both_ways, and_left, and_right}
use Rattle.base.proofs.Lists.{mem_filter, filter_same, filter_map, any_in, any_out, filter_filter, any_same, any_filter, any_map}
use Rattle.literal.specs.Literals.{slot_of, twin}
use Rattle.literal.proofs.Laws.{slot_twin}
use Rattle.literal.proofs.Twins.{twin_eq}
use Rattle.walk.specs.Walk.{Stamps}
use Rattle.walk.specs.Forest.{finish_at}
use Rattle.hidden.specs.Hidden.{holds, by_discovery, unhidden, shorten}
use Rattle.hidden.proofs.Intervals.{Nested, Within, Below}
use Rattle.hidden.proofs.Sorted.{sorted_in, sorted_out, sorted_rising}
use Rattle.hidden_literals.specs.Figures.{inner, outermost, among, kept_by}
use Rattle.hidden_literals.proofs.Hiding.{holds_one, held_by_one, inner_filter, outer_filter}

-- ---- some element of a sorted list

pub any_sorted : (σ : Stamps) (p : ℕ → Bool) (xs : List ℕ) → any p (by_discovery σ xs) ≡ any p xs
any_sorted σ p xs =
    both_ways _ _
    (λ h. let r = any_out p (by_discovery σ xs) h in any_in p xs (sorted_out σ xs r.1) r.2)
    (λ h. let r = any_out p xs h in any_in p (by_discovery σ xs) (sorted_in σ xs r.1) r.2)

-- an element that passes a test and is s
among_test : (s : ℕ) (p : ℕ → Bool) (xs : List ℕ) → any (λ m. p m && eqb m s) xs ≡ (among s xs && p s)
among_test s p xs =
    both_ways _ _
    (λ h. let r = any_out (λ m. p m && eqb m s) xs h in both r.0 r.1 (p r.0) refl r.2)
    (λ h. let r = any_out (λ m. eqb m s) xs (and_left (among s xs) (p s) h) in
    any_in (λ m. p m && eqb m s) xs r.1 (λ i. (ap p (eqb-true r.0 s r.2) ∙ and_right (among s xs) (p s) h) i && r.2 i))
  where
    both : (m : ℕ) → Memᴰ m xs → (b : Bool) → p m ≡ b → (p m && eqb m s) ≡ true → (among s xs && p s) ≡ true
    both m k b e h = let q = and_right (p m) (eqb m s) h in λ i. any_in (λ y. eqb y s) xs k q i && (ap p (sym (eqb-true m s q)) ∙ and_left (p m) (eqb m s) h) i

among_filter : (s : ℕ) (p : ℕ → Bool) (xs : List ℕ) → among s (filter p xs) ≡ (among s xs && p s)
among_filter s p xs = any_filter p (λ m. eqb m s) xs ∙ among_test s p xs

among_in : (s : ℕ) (xs : List ℕ) → Memᴰ s xs → among s xs ≡ true
among_in s xs m = any_in (λ y. eqb y s) xs m (eq-eqb s s refl)

twins_same : (a b : ℕ) → eqb (twin a) (twin b) ≡ eqb a b
twins_same a b = both_ways _ _ (λ h. eq-eqb a b (twin_eq (eqb-true (twin a) (twin b) h))) (λ h. eq-eqb (twin a) (twin b) (ap twin (eqb-true a b h)))

-- ---- the slots that the code keeps of a clause

abbrev pub inner_slots : Stamps → List ℤ → List ℕ
inner_slots σ C = inner σ (by_discovery σ (map slot_of C))

abbrev pub outer_twins : Stamps → List ℤ → List ℕ
outer_twins σ C = outermost σ (by_discovery σ (map twin (inner_slots σ C)))

module _ (size : ℕ) (σ : Stamps) (N : Nested size σ) (C : List ℤ) (w : Within size (map slot_of C)) (small : (q : ℕ) → q < size → finish_at σ q < 4294967295) where
  pub sorted_below : Below size (by_discovery σ (map slot_of C))
  sorted_below x m = (w x (sorted_out σ (map slot_of C) m)).0

  -- a slot stays in lines 1 to 4 as the definition says
  abbrev stays : ℕ → Bool
  stays s = not (holds_one σ (map slot_of C) s)

  inner_is : inner_slots σ C ≡ filter stays (by_discovery σ (map slot_of C))
  inner_is =
      inner_filter size σ N small (by_discovery σ (map slot_of C)) sorted_below (sorted_rising σ (map slot_of C))
      ∙ filter_same _ _ (by_discovery σ (map slot_of C)) (λ x m. ap not (any_sorted σ _ (map slot_of C)))

  pub inner_mem : {x : ℕ} → Memᴰ x (inner_slots σ C) → Memᴰ x (map slot_of C)
  inner_mem {x} m = sorted_out σ (map slot_of C) (sub (by_discovery σ (map slot_of C)) (subst (Memᴰ x) inner_is m))
    where
      sub : (xs : List ℕ) → Memᴰ x (filter stays xs) → Memᴰ x xs
      sub xs k = mem_filter stays xs k

  pub twins_below : Below size (by_discovery σ (map twin (inner_slots σ C)))
  twins_below x m = let r = Memᴰ.of_map twin (inner_slots σ C) (sorted_out σ (map twin (inner_slots σ C)) m) in subst (λ (y : ℕ). y < size) r.2 (w r.0 (inner_mem r.1)).1

  -- some slot that stays, in any list with the elements of the clause
  any_inner : (q : ℕ → Bool) → any q (inner_slots σ C) ≡ any q (filter stays (map slot_of C))
  any_inner q = ap (any q) inner_is ∙ any_filter stays q (by_discovery σ (map slot_of C)) ∙ any_sorted σ _ (map slot_of C) ∙ sym (any_filter stays q (map slot_of C))

  any_twins : (q : ℕ → Bool) → any q (by_discovery σ (map twin (inner_slots σ C))) ≡ any (λ x. q (twin x)) (filter stays (map slot_of C))
  any_twins q = any_sorted σ q (map twin (inner_slots σ C)) ∙ any_map twin q (inner_slots σ C) ∙ any_inner (λ x. q (twin x))

  -- the slots of what lines 1 to 4 leave
  left_slots : map slot_of (unhidden slot_of (holds σ) C) ≡ filter stays (map slot_of C)
  unfolding unhidden
  left_slots = filter_map slot_of stays C

  -- of a literal of the clause: its complement is among what the code keeps exactly if neither filter takes it out
  kept_is : (l : ℤ) → Memᴰ (slot_of l) (map slot_of C) → among (twin (slot_of l)) (outer_twins σ C)
      ≡ (stays (slot_of l) && not (any (λ m. not (eqb m (slot_of l)) && holds σ (twin m) (twin (slot_of l))) (map slot_of (unhidden slot_of (holds σ) C))))
  kept_is l k =
      ap (among (twin (slot_of l))) (outer_filter size σ N (by_discovery σ (map twin (inner_slots σ C))) twins_below (sorted_rising σ (map twin (inner_slots σ C))))
      ∙ among_filter (twin (slot_of l)) (λ y. not (held_by_one σ (by_discovery σ (map twin (inner_slots σ C))) y)) (by_discovery σ (map twin (inner_slots σ C)))
      ∙ (λ i. one i && not (two i))
    where
      one : among (twin (slot_of l)) (by_discovery σ (map twin (inner_slots σ C))) ≡ stays (slot_of l)
      one =
          any_twins (λ m. eqb m (twin (slot_of l)))
          ∙ any_same _ _ (filter stays (map slot_of C)) (λ x m. twins_same x (slot_of l))
          ∙ among_filter (slot_of l) stays (map slot_of C)
          ∙ ap (λ (b : Bool). b && stays (slot_of l)) (among_in (slot_of l) (map slot_of C) k)

      two : held_by_one σ (by_discovery σ (map twin (inner_slots σ C))) (twin (slot_of l)) ≡ any (λ m. not (eqb m (slot_of l)) && holds σ (twin m) (twin (slot_of l))) (map slot_of (unhidden slot_of (holds σ) C))
      two =
          any_twins (λ m. not (eqb m (twin (slot_of l))) && holds σ m (twin (slot_of l)))
          ∙ any_same _ _ (filter stays (map slot_of C)) (λ x m. ap (λ (b : Bool). not b && holds σ (twin x) (twin (slot_of l))) (twins_same x (slot_of l)))
          ∙ ap (any (λ m. not (eqb m (slot_of l)) && holds σ (twin m) (twin (slot_of l)))) (sym left_slots)

  pub kept_shortened : ((l : ℤ) → Memᴰ l C → 0 < nat_abs l) → kept_by (outer_twins σ C) C ≡ shorten slot_of σ C
  unfolding shorten unhidden
  kept_shortened some =
      filter_same _ _ C (λ l m. ap (λ (s : ℕ). among s (outer_twins σ C)) (slot_twin l (some l m)) ∙ kept_is l (Memᴰ.map slot_of m))
      ∙ sym (filter_filter (λ l. not (any (λ m. not (eqb m (slot_of l)) && holds σ (twin m) (twin (slot_of l))) (map slot_of (unhidden slot_of (holds σ) C)))) (λ l. stays (slot_of l)) C)
