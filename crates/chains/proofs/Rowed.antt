-- The climb in a row of 2,048 places, from the last place up: the row behind a place holds what was passed, and the places in front are enough. Assumes nothing.
use Prim.Native.Nat.{ℕ, zero, suc, ◌+◌, ◌*◌, ◌-◌, ◌≤◌, ◌<◌}
use native.Mathlib.Omega.{arith}
use mathlib.Core.Path.{◌≡◌, refl, sym, ap, ◌∙◌}
use mathlib.Core.List.{List, ◌∷◌}
use lib.ListN.{length, get_or, set, drop, length-set, drop_of_length-le}
use lib.Seq.{drop-cons, drop-set-lt, get_or-set_same}
use lib.IntN.{ℤ, pos}
use Rattle.literal.specs.Literals.{Small, Literal, slot_of}
use Rattle.literal.proofs.Signed.{eq_eq_z, ne_eq_z}
use Rattle.stamps.specs.Fresh.{parent_in, Holds}
use Rattle.chains.specs.declared.Ends.{Ends}
use Rattle.chains.specs.Chains.{ends, climb, chain_of}
use Rattle.chains.specs.Climbing.{Climbable, Parented}
use Rattle.chains.proofs.Climbing.{D, E, slot_in, times_in, Step, step}

-- ---- one step of the definition

pub climb_ends : (links : List ℤ) (n : ℕ) (top l : ℤ) (below : List ℤ) → l ≡ top → climb links n top l below ≡ l ∷ below
unfolding climb
climb_ends links zero top l below e = refl
climb_ends links (suc n) top l below e = rw (eq_eq_z l top e, climb)

pub climb_on : (links : List ℤ) (n : ℕ) (top l : ℤ) (below : List ℤ) → (l ≡ top → ⊥) → climb links (suc n) top l below ≡ climb links n top (parent_in links (slot_of l)) (l ∷ below)
unfolding climb
climb_on links n top l below d = rw (ne_eq_z l top d, climb)

-- ---- the row

-- the ends have complements, so they are told apart by their bits
pub end_small : {links : List ℤ} {e : Ends} → Climbable links e → Small e.top × Small e.bottom
end_small C = let B = C.between in (record { small = omega (arith, B.top_literal.within, C.stamped.few) }, record { small = omega (arith, B.bottom_literal.within, C.stamped.few) })

-- the climb stands at l, which is at this place of the row
pub record Rowed (links : List ℤ) (top bottom : ℤ) (row : List ℤ) (at : ℕ) (l : ℤ) : Type 0 where
  pub from : Climbable links (ends top bottom)
  pub size : length row ≡ 2048
  pub within : at ≤ 2047
  pub here : get_or row at (pos 0) ≡ l
  pub literal : Literal from.vars l
  pub held : Holds from.times (slot_of top) (slot_of l)
  pub room : E from.stamped.fresh top + D from.stamped.fresh l ≤ E from.stamped.fresh l + D from.stamped.fresh top + 2 * at
  pub left : climb links at top l (drop (suc at) row) ≡ chain_of links (ends top bottom)

pub rowed_begin : {links : List ℤ} {top bottom : ℤ} (row : List ℤ) → Climbable links (ends top bottom) → length row ≡ 2048 → Rowed links top bottom (set row 2047 bottom) 2047 bottom
unfolding chain_of
rowed_begin {links} {top} {bottom} row C e =
    let F = C.stamped.fresh in
    let t = times_in F C.between.top_literal in
    let b = times_in F C.between.bottom_literal in
    let n : length (set row 2047 bottom) ≡ 2048 = length-set row 2047 bottom ∙ e in
    let enough : length (set row 2047 bottom) ≤ 2048 = omega (arith, n) in
    record {
      from = C;
      size = n;
      within = omega arith;
      here = get_or-set_same row 2047 bottom (pos 0) (omega (arith, e));
      literal = C.between.bottom_literal;
      held = C.between.held;
      room = omega (arith, t.0, t.2, b.1, C.stamped.few);
      left = ap (climb links 2047 top bottom) (drop_of_length-le (set row 2047 bottom) enough);
    }

module _ {links : List ℤ} {top bottom : ℤ} {row : List ℤ} {at : ℕ} {l : ℤ} (R : Rowed links top bottom row at l) where
  pub here_small : Small l
  here_small = record { small = omega (arith, R.literal.within, R.from.stamped.few) }

  -- the rest of the row from the place on
  row_cons : drop at row ≡ l ∷ drop (suc at) row
  row_cons = drop-cons row at (pos 0) (omega (arith, R.size, R.within)) ∙ ap (λ (x : ℤ). x ∷ drop (suc at) row) R.here

  pub rowed_parented : Parented links l
  rowed_parented = record {
    literal = record { above = R.literal.above; within = omega (arith, R.literal.within, R.from.stamped.few) };
    room = omega (arith, slot_in R.from.stamped.fresh R.literal, R.from.stamped.linked);
  }

  up : (l ≡ top → ⊥) → Step R.from.stamped.fresh top l
  up d = step R.from.stamped.fresh R.from.between.top_literal R.literal R.held d

  -- there is a place in front
  pub rowed_room : (l ≡ top → ⊥) → 0 < at
  rowed_room d = let s = up d in omega (arith, R.room, s.wider, s.held.0, s.held.1)

  pub rowed_step : (l ≡ top → ⊥) → Rowed links top bottom (set row (at - 1) (parent_in links (slot_of l))) (at - 1) (parent_in links (slot_of l))
  rowed_step d =
      let s = up d in
      let r = rowed_room d in
      let one : suc (at - 1) ≡ at = omega (arith, r) in
      let p = parent_in links (slot_of l) in
      record {
        from = R.from;
        size = length-set row (at - 1) p ∙ R.size;
        within = omega (arith, R.within);
        here = get_or-set_same row (at - 1) p (pos 0) (omega (arith, R.size, R.within));
        literal = s.literal;
        held = s.held;
        room = omega (arith, R.room, s.wider, r);
        left = ap (climb links (at - 1) top p) (drop-set-lt (suc (at - 1)) row (at - 1) p (omega arith) ∙ ap (λ (k : ℕ). drop k row) one ∙ row_cons)
            ∙ sym (climb_on links (at - 1) top l (drop (suc at) row) d)
            ∙ ap (λ (k : ℕ). climb links k top l (drop (suc at) row)) one
            ∙ R.left;
      }

  pub rowed_end : l ≡ top → drop at row ≡ chain_of links (ends top bottom)
  rowed_end e = row_cons ∙ sym (climb_ends links at top l (drop (suc at) row) e) ∙ R.left
