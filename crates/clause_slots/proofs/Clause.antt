-- The slots of a clause's literals and their complements have stamps. Assumes nothing.
use Prim.Native.Nat.{ℕ, ◌*◌, ◌<◌}
use native.Mathlib.Omega.{arith}
use mathlib.Core.Path.{subst}
use mathlib.Core.List.Memᴰ
use mathlib.Core.List.{List, map, Memᴰ}
use lib.ListN.{length, get_or}
use lib.IntN.{ℤ, pos}
use Rattle.base.proofs.Lists.{get_d_mem, each_mem}
use Rattle.literal.specs.Literals.{Literal, slot_of, twin}
use Rattle.literal.proofs.Laws.{slot_below}
use Rattle.literal.proofs.Twins.{twin_below}
use Rattle.hidden.proofs.Intervals.{Within}
use Rattle.stamp_columns.specs.Slots.{Slots}
use Rattle.clause_slots.specs.Stamped.{Lits, StampedSlots, StampedClause}

-- ---- slots and their complements

module _ {times xs : List ℕ} (I : StampedSlots times xs) where
  pub inside_small : (k : ℕ) → k < length xs → get_or xs k 0 < 65536
  inside_small k lt = omega (arith, I.each (get_or xs k 0) (get_d_mem xs k 0 lt), I.few)

  pub inside_twins : Slots times (map twin xs)
  inside_twins = record {
    size = 2 * I.vars;
    few = omega (arith, I.few);
    room = omega (arith, I.few, I.long);
    each = λ x m. let r = Memᴰ.of_map twin xs m in subst (λ (y : ℕ). y < 2 * I.vars) r.2 (twin_below I.vars r.0 (I.each r.0 r.1));
  }

-- ---- the literals of a clause

module _ {times : List ℕ} {C : List ℤ} (K : StampedClause times C) where
  pub clause_literals : (l : ℤ) → Memᴰ l C → Literal K.vars l
  clause_literals = each_mem (Literal K.vars) C (pos 0) K.each

  pub clause_within : Within (2 * K.vars) (map slot_of C)
  clause_within s m =
      let r = Memᴰ.of_map slot_of C m in
      let L = clause_literals r.0 r.1 in
      let h = subst (λ (x : ℕ). x < 2 * K.vars) r.2 (slot_below r.0 K.vars L.above L.within) in
      (h, twin_below K.vars s h)

  pub clause_lits : Lits C
  clause_lits = record { each = λ k lt. record { above = (K.each k lt).above; within = omega (arith, (K.each k lt).within, K.few) } }
