-- The interval of a slot, and how the intervals of two slots lie. Assumes nothing: these are definitions.
use Rattle.std.specs.Prelude.{ℕ}
use Rattle.intervals.specs.declared.Interval.{Interval}
use Rattle.intervals.specs.declared.Relation.{Relation}
use Rattle.intervals.specs.Intervals.{interval, compare}
use Rattle.walk.specs.Walk.{Stamps}
use Rattle.walk.specs.Forest.{discovery_at, finish_at}

abbrev pub interval_at : Stamps → ℕ → Interval
interval_at σ s = interval (discovery_at σ s) (finish_at σ s)

abbrev pub relation : Stamps → ℕ → ℕ → Relation
relation σ a b = compare (interval_at σ a) (interval_at σ b)
