-- THE LAW of a chain: under fresh stamps, from a literal whose interval holds another's, the climb ends, and its literals go down along the parents from the one to the other. Assumes nothing.
use Prim.Native.Nat.{ℕ, zero, suc, ◌+◌, ◌*◌, ◌≤◌}
use native.Mathlib.Omega.{arith}
use mathlib.Core.Path.{◌≡◌, refl, sym, subst}
use mathlib.Core.List.{List, [], ◌∷◌}
use lib.IntN.{ℤ}
use Rattle.base.specs.Decide.{eqℤ?}
use Rattle.literal.specs.Literals.{Literal, slot_of}
use Rattle.stamps.specs.Fresh.{parent_in, Holds, FreshStamps}
use Rattle.chains.specs.declared.Ends.{Ends}
use Rattle.chains.specs.Chains.{climb, chain_of}
use Rattle.chains.specs.Climbing.{Climbable}
use Rattle.chains.specs.Descending.{Descends, ends, down}
use Rattle.chains.proofs.Climbing.{D, E, times_in, step}
use Rattle.chains.proofs.Rowed.{climb_ends, climb_on}

module _ {v : ℕ} {times : List ℕ} {links : List ℤ} (F : FreshStamps v times links) (top q : ℤ) (T : Literal v top) where
  abbrev Room : ℕ → ℤ → Type 0
  Room n l = E F top + D F l ≤ E F l + D F top + 2 * n

  there : (n : ℕ) (l : ℤ) (below : List ℤ) → l ≡ top → Descends links q l (l ∷ below) → Descends links q top (climb links n top l below)
  there n l below e d = subst (Descends links q top) (sym (climb_ends links n top l below e)) (subst (λ (x : ℤ). Descends links q x (l ∷ below)) e d)

  -- at the top it ends, with any steps left; below it there is a step left, and it goes on
  climbed : (n : ℕ) (l : ℤ) (below : List ℤ) → Literal v l → Holds times (slot_of top) (slot_of l) → Room n l → Descends links q l (l ∷ below) → Descends links q top (climb links n top l below)
  climbed zero l below L h room d = elim (eqℤ? l top) [
    | yes e ↦ there zero l below e d
    | no other ↦ let s = step F T L h other in absurd (omega (arith, room, s.wider, s.held.0, s.held.1))
  ]
  climbed (suc n) l below L h room d = elim (eqℤ? l top) [
    | yes e ↦ there (suc n) l below e d
    | no other ↦
        let s = step F T L h other in
        let p = parent_in links (slot_of l) in
        subst (Descends links q top) (sym (climb_on links n top l below other)) (climbed n p (l ∷ below) s.literal s.held (omega (arith, room, s.wider)) (down refl s.other d))
  ]

pub chain_descends : {links : List ℤ} {e : Ends} → Climbable links e → Descends links e.bottom e.top (chain_of links e)
unfolding chain_of
chain_descends {links} {e} C =
    let F = C.stamped.fresh in
    let t = times_in F C.between.top_literal in
    let b = times_in F C.between.bottom_literal in
    climbed F e.top e.bottom C.between.top_literal 2047 e.bottom [] C.between.bottom_literal C.between.held (omega (arith, t.0, t.2, b.1, C.stamped.few)) ends
