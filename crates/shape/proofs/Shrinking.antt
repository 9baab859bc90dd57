-- What a store must keep so that the rule stays: starts stay, parts only shrink, and the literals of the other parts stay. For the laws of shorten and drop.
-- Assumes nothing.
use Prim.Native.Nat.{ℕ, ◌+◌, ◌≤◌, ◌<◌}
use native.Mathlib.Omega.{arith}
use mathlib.Core.Path.{◌≡◌, sym, ap, subst, ◌∙◌}
use mathlib.Core.Bool.{Bool}
use mathlib.Core.List.{List}
use lib.ListN.{get_or}
use lib.IntN.{ℤ, pos, nat_abs}
use Rattle.literal.specs.Literals.{Literal}
use Rattle.tables.specs.Tables.{start_of, length_of, standing, class_of}
use Rattle.shape.specs.Shape.{Parts, Literals}

-- the records `after` have the starts of those `before`, and no part is longer
pub parts_shrink : (n : ℕ) (before after : List ℕ) → Parts n before
    → ((i : ℕ) → i < n → start_of after i ≡ start_of before i) → ((i : ℕ) → i < n → length_of after i ≤ length_of before i)
    → ((i : ℕ) → i < n → standing after i ≤ 1) → ((i : ℕ) → i < n → standing after i ≡ 0 → length_of after i ≡ 0)
    → Parts n after
parts_shrink n before after P same less flag dropped = record {
  flag = flag;
  dropped = dropped;
  inside = λ i l. omega (arith, P.inside i l, same i l, less i l);
  rising = λ j lj i li. omega (arith, P.rising j lj i li, same j lj, same i (omega arith));
  apart = λ j lj i li a b.
      let l : i < n = omega arith in
      omega (arith, P.apart j lj i li (omega (arith, a, less i l)) (omega (arith, b, less j lj)), same j lj, same i l, less i l);
}

-- the literals of a clause whose places hold what they held
pub literals_kept : (v : ℕ) (before after variables : List ℤ) (settled : Bool) (start len : ℕ) → Literals v before variables settled start len
    → ((k : ℕ) → k < len → get_or after (start + k) (pos 0) ≡ get_or before (start + k) (pos 0))
    → Literals v after variables settled start len
literals_kept v before after variables settled start len L same = record {
  ranged = λ k l. subst (Literal v) (sym (same k l)) (L.ranged k l);
  once = λ k l j lj e. L.once k l j lj (sym (ap nat_abs (same j (omega arith))) ∙ e ∙ ap nat_abs (same k l));
  own = λ s k l. subst (λ (z : ℤ). class_of variables (nat_abs z) ≡ pos (nat_abs z)) (sym (same k l)) (L.own s k l);
}
