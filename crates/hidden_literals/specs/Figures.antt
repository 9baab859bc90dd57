-- Figure 5 over slots that are sorted by discovery, as the code goes through them: what stays of a list. Assumes nothing: these are definitions.
use Rattle.std.specs.Prelude.{ℕ, Bool, true, false, List, [], ◌∷◌, eqb, ℤ, neg_ℤ}
use Rattle.base.specs.Lists.{any, filter}
use Rattle.literal.specs.Literals.{slot_of}
use Rattle.intervals.specs.declared.Interval.{Interval}
use Rattle.intervals.specs.Intervals.{interval, compare}
use Rattle.intervals.specs.Relations.{wider}
use Rattle.walk.specs.Walk.{Stamps}
use Rattle.stamp_columns.specs.Intervals.{interval_at}

-- the interval of the slot that stays last, from the last of the list to the first; of no slot, an interval behind all others
unfoldable pub innermost : Stamps → List ℕ → Interval
innermost σ [] = interval 4294967295 4294967295
innermost σ (x ∷ xs) = elim (wider (compare (interval_at σ x) (innermost σ xs))) [ true ↦ innermost σ xs | false ↦ interval_at σ x ]

-- lines 1 to 4, from the last to the first: a slot that holds the one that stayed last goes
unfoldable pub inner : Stamps → List ℕ → List ℕ
inner σ [] = []
inner σ (x ∷ xs) = elim (wider (compare (interval_at σ x) (innermost σ xs))) [ true ↦ inner σ xs | false ↦ x ∷ inner σ xs ]

-- lines 5 to 8, from the first to the last: a slot that is held by the one that stayed last goes
unfoldable pub outer : Stamps → Interval → List ℕ → List ℕ
outer σ last [] = []
outer σ last (x ∷ xs) = elim (wider (compare last (interval_at σ x))) [ true ↦ outer σ last xs | false ↦ x ∷ outer σ (interval_at σ x) xs ]

-- from the first slot on: an interval of no time holds none
abbrev pub outermost : Stamps → List ℕ → List ℕ
outermost σ xs = outer σ (interval 0 0) xs

-- s is in the list
abbrev pub among : ℕ → List ℕ → Bool
among s xs = any (λ m. eqb m s) xs

-- the literals whose complement has its slot in the list
abbrev pub kept_by : List ℕ → List ℤ → List ℤ
kept_by slots C = filter (λ l. among (slot_of (neg_ℤ l)) slots) C
