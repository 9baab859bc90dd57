-- The loop that keeps the literals that are not false. Assumes nothing.
use Prim.Native.Nat.{ℕ, suc, ◌+◌, ◌<◌}
use mathlib.Core.Path.{◌≡◌, ap}
use mathlib.Core.Bool.{true, false, not}
use mathlib.Core.List.{List}
use lib.ListN.{length, drop, get_or, set}
use lib.IntN.{ℤ, pos}
use Rattle.base.proofs.Lists.{filter_in, filter_out}
use Rattle.literal.proofs.Compact.{Compact, stay, gone}
use Rattle.tables.specs.Values.{is_false}
use Rattle.visits.proofs.Ahead.{Ahead, ahead_next, ahead_set}
use Rattle.propagate_visits.specs.Visits.{not_false}

-- literals move to the front, and what is still to be read is as it was
pub record Moving (variables p₀ p : List ℤ) (n i : ℕ) : Type 0 where
  pub compact : Compact (λ (s : List ℤ). not_false variables) p₀ p n i
  pub unread : Ahead p₀ p i

module _ {variables p₀ p : List ℤ} {n i : ℕ} (M : Moving variables p₀ p n i) (lt : i < length p) where
  pub moving_stays : is_false variables (get_or p i (pos 0)) ≡ false → Moving variables p₀ (set p n (get_or p i (pos 0))) (n + 1) (i + 1)
  moving_stays e = record {
    compact = stay M.compact lt (filter_in (λ l. not (is_false variables l)) (get_or p i (pos 0)) (drop (suc i) p) (ap not e));
    unread = ahead_set M.unread n M.compact.behind (get_or p i (pos 0));
  }

  pub moving_goes : is_false variables (get_or p i (pos 0)) ≡ true → Moving variables p₀ p n (i + 1)
  moving_goes e = record {
    compact = gone M.compact lt (filter_out (λ l. not (is_false variables l)) (get_or p i (pos 0)) (drop (suc i) p) (ap not e));
    unread = ahead_next M.unread;
  }
