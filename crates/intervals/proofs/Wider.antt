-- Intervals around others, the same one left out: what follows for three of them. Assumes nothing.
use Prim.Native.Nat.{◌≤◌, ◌<◌}
use native.Mathlib.Omega.{arith}
use mathlib.Core.Path.{◌≡◌, refl, ap}
use mathlib.Core.Bool.{true, false}
use mathlib.Core.Logic.{◌⊎◌, inl, inr, ⊎_elim}
use Rattle.base.specs.Decide.{same_or, le_or}
use Rattle.base.proofs.Booleans.{clash}
use Rattle.intervals.specs.declared.Interval.{Interval}
use Rattle.intervals.specs.declared.Relation.{Relation}
use Rattle.intervals.specs.declared.Relation.TheVariants.{Same, Holds, Held, Earlier, Later}
use Rattle.intervals.specs.Intervals.{compare, One, Lies}
use Rattle.intervals.specs.Relations.{wider}
use Rattle.intervals.proofs.Comparing.{compare_lies, lies_compare}

pub wider_true : (a b : Interval) → wider (compare a b) ≡ true → Lies Holds a b
wider_true a b = go (compare a b) (compare_lies a b)
  where
    go : (r : Relation) → Lies r a b → wider r ≡ true → Lies Holds a b
    go Same h e = clash e refl
    go Holds h e = h
    go Held h e = clash e refl
    go Earlier h e = clash e refl
    go Later h e = clash e refl

pub true_wider : (a b : Interval) → Lies Holds a b → wider (compare a b) ≡ true
true_wider a b h = ap wider (lies_compare Holds a b h)

-- one that is wider than a wider one
pub wider_through : (a b c : Interval) → wider (compare a b) ≡ true → wider (compare b c) ≡ true → wider (compare a c) ≡ true
wider_through a b c h k =
    let f = wider_true a b h in
    let g = wider_true b c k in
    true_wider a c ((omega (arith, f.0, g.0), omega (arith, f.0, g.0)), λ e. f.1 (omega (arith, f.0, g.0, e), omega (arith, f.0, g.0, e)))

-- b begins no later than c and is not wider: it ends before c, or it is c
not_wider : (b c : Interval) → b.begin ≤ c.begin → wider (compare b c) ≡ false → (b.end < c.end) ⊎ One b c
not_wider b c le h = ⊎_elim (λ (k : c.end ≤ b.end). inr (same k)) (λ (k : b.end < c.end). inl k) (le_or c.end b.end)
  where
    same : c.end ≤ b.end → One b c
    same k =
        ⊎_elim
        (λ (e : b.begin ≡ c.begin). ⊎_elim (λ (f : b.end ≡ c.end). (e, f)) (λ (d : b.end ≡ c.end → ⊥). clash (true_wider b c ((le, k), λ o. d o.1)) h) (same_or b.end c.end))
        (λ (d : b.begin ≡ c.begin → ⊥). clash (true_wider b c ((le, k), λ o. d o.0)) h)
        (same_or b.begin c.begin)

-- of three that begin in this order: what is wider than the third is wider than the second, if the second is not wider than the third
pub wider_than_middle : (a b c : Interval) → a.begin ≤ b.begin → b.begin ≤ c.begin → wider (compare b c) ≡ false → wider (compare a c) ≡ true → wider (compare a b) ≡ true
wider_than_middle a b c le le' h k =
    let f = wider_true a c k in
    ⊎_elim
    (λ (e : b.end < c.end). true_wider a b ((le, omega (arith, f.0, e)), λ o. omega (arith, f.0, e, o)))
    (λ (e : One b c). true_wider a b ((omega (arith, f.0, e), omega (arith, f.0, e)), λ o. f.1 (omega (arith, o, e), omega (arith, o, e))))
    (not_wider b c le' h)

-- and the second is wider than the third, if the first is wider than the third and not than the second
pub middle_wider : (a b c : Interval) → a.begin ≤ b.begin → b.begin ≤ c.begin → wider (compare a b) ≡ false → wider (compare a c) ≡ true → wider (compare b c) ≡ true
middle_wider a b c le le' h k =
    let f = wider_true a c k in
    ⊎_elim
    (λ (e : a.end < b.end). true_wider b c ((le', omega (arith, f.0, e)), λ o. omega (arith, f.0, e, o)))
    (λ (e : One a b). true_wider b c ((omega (arith, f.0, e), omega (arith, f.0, e)), λ o. f.1 (omega (arith, o, e), omega (arith, o, e))))
    (not_wider a b le h)
