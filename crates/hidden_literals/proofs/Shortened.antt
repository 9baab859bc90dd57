-- What a clause with nested intervals gives the calls of figure 5. Assumes nothing.
use Prim.Native.Nat.{ℕ, zero, suc, ◌*◌, ◌-◌, ◌≤◌, ◌<◌}
use native.Mathlib.Omega.{arith}
use mathlib.Core.Path.{◌≡◌, sym, ap, subst, ◌∙◌}
use mathlib.Core.Bool.{Bool, true, false, not}
use mathlib.Core.List.{List, [], ◌∷◌, ◌++◌, map, Memᴰ}
use lib.ListN.{length, take, drop, get_or, length-map, length-drop, replicate}
use lib.Seq.{take-append-le}
use lib.IntN.{ℤ, pos, neg_ℤ}
use Rattle.base.specs.Lists.{filter}
use Rattle.base.proofs.Lists.{mem_filter, get_d_mem}
use Rattle.literal.specs.Literals.{slot_of, twin}
use Rattle.literal.proofs.Laws.{slot_below, slot_twin}
use Rattle.literal.proofs.Twins.{twin_below}
use Rattle.walk.specs.Walk.{Stamps}
use Rattle.walk.specs.Forest.{discovery_at, finish_at}
use Rattle.intervals.specs.Intervals.{compare}
use Rattle.intervals.specs.Relations.{wider}
use Rattle.stamp_columns.specs.Columns.{columns}
use Rattle.stamp_columns.specs.Intervals.{interval_at}
use Rattle.hidden.specs.Hidden.{by_discovery, shorten}
use Rattle.hidden.proofs.Relations.{same_discovery}
use Rattle.hidden.proofs.Sorted.{Rising, sorted_out, sorted_rising}
use Rattle.stamp_columns.specs.Slots.{Slots}
use Rattle.discovery_order.proofs.Sorting.{length_sorted}
use Rattle.clause_slots.specs.Stamped.{StampedSlots, StampedClause}
use Rattle.clause_slots.proofs.Clause.{clause_literals, clause_within, clause_lits}
use Rattle.hidden_literals.specs.Sorted.{Sorted}
use Rattle.hidden_literals.specs.Figures.{innermost, inner, outermost, kept_by}
use Rattle.hidden_literals.proofs.Hiding.{held_by_one, outer_filter}
use Rattle.hidden_literals.proofs.Shortening.{inner_slots, outer_twins, inner_mem, twins_below, kept_shortened}

-- what the three calls have given
pub twins_given : (times xs t₁ t₂ : List ℕ) {n : ℕ} → t₁ ≡ map twin xs → ((links : List ℤ) → t₂ ≡ by_discovery (columns times links) t₁)
    → (t₃ : List ℕ) → (n ≤ length t₂) × ((links : List ℤ) → take n t₃ ≡ outermost (columns times links) t₂)
    → (n ≤ length xs) × (take n t₃ ≡ outermost (columns times []) (by_discovery (columns times []) (map twin xs)))
twins_given times xs t₁ t₂ {n} e h t₃ r = (
  omega (arith, r.0, ap length (h []), length_sorted (columns times []) t₁, ap length e, length-map xs twin),
  r.1 [] ∙ ap (outermost (columns times [])) (h [] ∙ ap (by_discovery (columns times [])) e),
)

-- ---- lists that rise

filter_rising : (σ : Stamps) (p : ℕ → Bool) (xs : List ℕ) → Rising σ xs → Rising σ (filter p xs)
unfolding filter
filter_rising σ p [] r = tt
filter_rising σ p (x ∷ xs) r = go (filter_rising σ p xs r.1) (p x)
  where
    go : Rising σ (filter p xs) → (b : Bool) → Rising σ (elim b [ true ↦ x ∷ filter p xs | false ↦ filter p xs ])
    go rest true = (λ y m. r.0 y (mem_filter p xs m), rest)
    go rest false = rest

rising_at : (σ : Stamps) (xs : List ℕ) → Rising σ xs → (j k : ℕ) → j < k → k < length xs → discovery_at σ (get_or xs j 0) ≤ discovery_at σ (get_or xs k 0)
rising_at σ [] r j k lt h = absurd (omega arith)
rising_at σ (x ∷ xs) r j zero lt h = absurd (omega arith)
rising_at σ (x ∷ xs) r zero (suc k) lt h = r.0 (get_or xs k 0) (get_d_mem xs k 0 (omega arith))
rising_at σ (x ∷ xs) r (suc j) (suc k) lt h = rising_at σ xs r.1 j k (omega arith) (omega arith)

-- ---- a clause

inner_shorter : (σ : Stamps) (xs : List ℕ) → length (inner σ xs) ≤ length xs
unfolding inner
inner_shorter σ [] = omega arith
inner_shorter σ (x ∷ xs) = go (wider (compare (interval_at σ x) (innermost σ xs))) (inner_shorter σ xs)
  where
    go : (b : Bool) → length (inner σ xs) ≤ length xs → length {A = ℕ} (elim b [ true ↦ inner σ xs | false ↦ x ∷ inner σ xs ]) ≤ suc (length xs)
    go true h = omega arith
    go false h = omega arith

module _ {times : List ℕ} {C : List ℤ} (K : StampedClause times C) where
  abbrev σ : Stamps
  σ = columns times []

  clause_small : (q : ℕ) → q < 2 * K.vars → finish_at (columns times []) q < 4294967295
  clause_small q lt = omega (arith, K.small q lt)

  pub clause_slots : Slots times (by_discovery σ (map slot_of C))
  clause_slots = record { size = 2 * K.vars; few = omega (arith, K.few); room = omega (arith, K.few, K.long); each = λ x m. (clause_within K x (sorted_out σ (map slot_of C) m)).0 }

  pub clause_inside : StampedSlots times (inner_slots σ C)
  clause_inside = record { vars = K.vars; few = K.few; long = K.long; each = λ x m. (clause_within K x (inner_mem (2 * K.vars) σ K.nested C (clause_within K) clause_small m)).0 }

  pub inner_length : length (inner_slots σ C) ≤ length C
  inner_length = omega (arith, inner_shorter σ (by_discovery σ (map slot_of C)), length_sorted σ (map slot_of C), length-map C slot_of)

  outer_is : outer_twins σ C ≡ filter (λ y. not (held_by_one σ (by_discovery σ (map twin (inner_slots σ C))) y)) (by_discovery σ (map twin (inner_slots σ C)))
  outer_is = outer_filter (2 * K.vars) σ K.nested (by_discovery σ (map twin (inner_slots σ C))) (twins_below (2 * K.vars) σ K.nested C (clause_within K) clause_small) (sorted_rising σ (map twin (inner_slots σ C)))

  outer_below : (x : ℕ) → Memᴰ x (outer_twins σ C) → x < 2 * K.vars
  outer_below x m = twins_below (2 * K.vars) σ K.nested C (clause_within K) clause_small x (mem_filter _ (by_discovery σ (map twin (inner_slots σ C))) (subst (Memᴰ x) outer_is m))

  pub clause_sorted : Sorted times (outer_twins σ C) C
  clause_sorted = record {
    slots = record { size = 2 * K.vars; few = omega (arith, K.few); room = omega (arith, K.few, K.long); each = outer_below };
    long = K.long;
    lits = clause_lits K;
    searched = λ k lt. record {
      rises = rising_at σ (outer_twins σ C) (subst (Rising σ) (sym outer_is) (filter_rising σ _ (by_discovery σ (map twin (inner_slots σ C))) (sorted_rising σ (map twin (inner_slots σ C)))));
      alone = λ j lj e. same_discovery (2 * K.vars) σ K.nested (get_or (outer_twins σ C) j 0) (slot_of (neg_ℤ (get_or C k (pos 0)))) (outer_below (get_or (outer_twins σ C) j 0) (get_d_mem (outer_twins σ C) j 0 lj)) (complement k lt) e;
    };
  }
    where
      complement : (k : ℕ) → k < length C → slot_of (neg_ℤ (get_or C k (pos 0))) < 2 * K.vars
      complement k lt =
          let L = K.each k lt in
          subst (λ (x : ℕ). x < 2 * K.vars) (sym (slot_twin (get_or C k (pos 0)) L.above)) (twin_below K.vars (slot_of (get_or C k (pos 0))) (slot_below (get_or C k (pos 0)) K.vars L.above L.within))

  pub clause_shortened : kept_by (outer_twins σ C) C ≡ shorten slot_of σ C
  clause_shortened = kept_shortened (2 * K.vars) σ K.nested C (clause_within K) clause_small (λ l m. (clause_literals K l m).above)

-- ---- what the calls of `shorten_part` have given

module _ {times : List ℕ} {C : List ℤ} (K : StampedClause times C) {slots : List ℕ} (sorted : slots ≡ by_discovery (columns times []) (map slot_of C)) (s₁ : List ℕ) (first : ℕ)
    (inners : (links : List ℤ) → drop first s₁ ≡ inner (columns times links) slots) where
  pub inner_given : drop first s₁ ≡ inner_slots (columns times []) C
  inner_given = inners [] ∙ ap (inner (columns times [])) sorted

  pub inner_many : length s₁ - first ≡ length (drop first s₁)
  inner_many = sym (length-drop first s₁)

  pub inner_few : length s₁ - first ≤ length C
  inner_few = omega (arith, inner_many, ap length inner_given, inner_length K)

  -- the complements that stay, in a table of which t₁ is the front
  module _ (n : ℕ) (t₁ t₂ : List ℕ) (few : n ≤ length t₁) (outers : take n t₁ ≡ outermost (columns times []) (by_discovery (columns times []) (map twin (drop first s₁)))) where
    pub outer_given : take n (t₁ ++ t₂) ≡ outer_twins (columns times []) C
    outer_given = take-append-le n t₁ t₂ few ∙ outers ∙ ap (λ (l : List ℕ). outermost (columns times []) (by_discovery (columns times []) (map twin l))) inner_given

  pub part_given : {K' : List ℕ} {r : ℕ} {q : List ℤ} → K' ≡ outer_twins (columns times []) C
      → (r ≡ length (kept_by K' C)) × (q ≡ kept_by K' C ++ replicate (length C - length (kept_by K' C)) (pos 0))
      → (r ≡ length (shorten slot_of (columns times []) C)) × (q ≡ shorten slot_of (columns times []) C ++ replicate (length C - length (shorten slot_of (columns times []) C)) (pos 0))
  part_given {K'} {r} {q} e h = subst (λ (D : List ℤ). (r ≡ length D) × (q ≡ D ++ replicate (length C - length D) (pos 0))) (ap (λ (l : List ℕ). kept_by l C) e ∙ clause_shortened K) h
