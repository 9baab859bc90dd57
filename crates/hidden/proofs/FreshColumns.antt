-- The stamp records as columns: what the shape rule says of fresh stamps is what the laws of this crate ask.
--     fresh_nested     fresh stamps are nested or apart
--     fresh_linked     and their links are the narrowest and the widest
-- Assumes nothing.
use Prim.Native.Nat.{ℕ, ◌*◌, ◌<◌}
use native.Mathlib.Omega.{arith}
use mathlib.Core.Path.{◌≡◌, sym, subst}
use mathlib.Core.Logic.{◌⊎◌, inl, inr, ⊎_elim}
use mathlib.Core.List.{List}
use lib.IntN.{ℤ}
use Rattle.literal.specs.Literals.{slot_of}
use Rattle.literal.proofs.Laws.{slot_below}
use Rattle.walk.specs.Walk.{Stamps}
use Rattle.walk.specs.Forest.{Holds, Parted}
use Rattle.stamps.specs.Fresh.{discovery_in, finish_in, parent_in, start_in, NestedOrApart, FreshStamps}
use Rattle.stamp_columns.specs.Columns.{columns}
use Rattle.stamp_columns.proofs.Columns.{column_discovery, column_finishes, column_parents, column_starts, to_times, to_columns}
use Rattle.stamps.proofs.Local.{same_slot, same_finish}
use Rattle.hidden.proofs.Intervals.{Nested}
use Rattle.hidden.proofs.Failed.{Linked}

module _ (times : List ℕ) (links : List ℤ) where
  abbrev σ : Stamps
  σ = columns times links

  -- ---- fresh stamps

  module _ (v : ℕ) (F : FreshStamps v times links) where
    pub fresh_nested : Nested (2 * v) σ
    fresh_nested =
        record {
          spans = λ q lt. omega (arith, F.forward q lt, column_discovery times links q, column_finishes times links q);
          parted = λ q u lq lu d. part q u (λ e. d (same_slot v times F.every_time q u lq lu e)) (λ e. d (same_finish v times F.every_time q u lq lu e)) (F.nested q lq u lu);
        }
      where
        part : (q u : ℕ) → (discovery_in times q ≡ discovery_in times u → ⊥) → (finish_in times q ≡ finish_in times u → ⊥) → NestedOrApart times q u → Parted σ q u
        part q u d e (inl (inl h)) = inr (inr (inl (omega (arith, h.0, d, column_discovery times links q, column_discovery times links u), omega (arith, h.1, e, column_finishes times links q, column_finishes times links u))))
        part q u d e (inl (inr h)) = inr (inr (inr (omega (arith, h.0, d, column_discovery times links q, column_discovery times links u), omega (arith, h.1, e, column_finishes times links q, column_finishes times links u))))
        part q u d e (inr (inl h)) = inl (omega (arith, h, column_finishes times links q, column_discovery times links u))
        part q u d e (inr (inr h)) = inr (inl (omega (arith, h, column_finishes times links u, column_discovery times links q)))

    pub fresh_linked : Linked (2 * v) σ
    fresh_linked =
        record {
          nested = fresh_nested;
          parent_below = λ q lt. let l = F.parent_literal q lt in subst (λ (x : ℕ). x < 2 * v) (sym (column_parents times links q)) (slot_below (parent_in links q) v l.above l.within);
          parent = λ q lt.
              subst (λ (p : ℕ). ((p ≡ q) × ((u : ℕ) → u < 2 * v → Holds σ u q → u ≡ q)) ⊎ ((p ≡ q → ⊥) × Holds σ p q × ((u : ℕ) → u < 2 * v → (u ≡ q → ⊥) → Holds σ u q → Holds σ u p))) (sym (column_parents times links q))
              (⊎_elim
              (λ h. inl (h.0, λ u lu k. h.1 u lu (to_times times links u q k)))
              (λ h. inr (h.0, to_columns times links (slot_of (parent_in links q)) q h.1, λ u lu d k. to_columns times links u (slot_of (parent_in links q)) (h.2 u lu d (to_times times links u q k))))
              (F.parent q lt));
          start_below = λ q lt. let l = F.start_literal q lt in subst (λ (x : ℕ). x < 2 * v) (sym (column_starts times links q)) (slot_below (start_in links q) v l.above l.within);
          start = λ q lt. subst (λ (r : ℕ). Holds σ r q) (sym (column_starts times links q)) (to_columns times links (slot_of (start_in links q)) q (F.start q lt).0);
        }
