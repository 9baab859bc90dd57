-- Tests one after the other are the bool that `readable`, `ready` and `ready_with` give. Assumes nothing.
use Prim.Native.Nat.{ℕ, ◌≤◌}
use native.Mathlib.Omega.{arith}
use mathlib.Core.Bool.{Bool, true, false, ◌&&◌}
use mathlib.Core.Path.{◌≡◌, refl, sym}
use mathlib.Core.List.{List}
use lib.ListN.{length}
use lib.Dec.{leb}
use borrow.Author.Tests.{leb-true, le-leb}
use Rattle.c_numbers.specs.StateNumbers.{readable}
use Rattle.c_numbers.specs.CCalls.{ready}
use Rattle.c_numbers.specs.WindowCalls.{ready_with}

-- a test that passes
pub passes : (a b r : Bool) → a ≡ true → r ≡ b → r ≡ (a && b)
passes true b r e f = f
passes false b r e f = absurd (let z : ◌≡◌ {A = ℕ} 0 1 = cc in omega arith)

both : (a b : Bool) → (a && b) ≡ true → (a ≡ true) × (b ≡ true)
both true b e = (refl, e)
both false b e = absurd (let z : ◌≡◌ {A = ℕ} 0 1 = cc in omega arith)

pub ready_readable : (s a : List ℕ) → ready s a ≡ true → readable s ≡ true
unfolding ready
ready_readable s a e = (both (leb 4 (length a)) (readable s) e).1

-- numbers that can be read are long enough
pub ready_long : (s a : List ℕ) → ready s a ≡ true → (40 ≤ length s) × (4 ≤ length a)
unfolding ready readable
ready_long s a e =
    let parts = both (leb 4 (length a)) (readable s) e in
    (leb-true 40 (length s) (both (leb 40 (length s)) _ parts.1).0, leb-true 4 (length a) parts.0)

-- the same with the window's numbers
pub with_ready : (s a w : List ℕ) → ready_with s a w ≡ true → ready s a ≡ true
unfolding ready_with
with_ready s a w e = (both (leb 2 (length w)) (ready s a) e).1

pub with_long : (s a w : List ℕ) → ready_with s a w ≡ true → 2 ≤ length w
unfolding ready_with
with_long s a w e = leb-true 2 (length w) (both (leb 2 (length w)) (ready s a) e).0

pub with_able : (s a w : List ℕ) → ready s a ≡ true → 2 ≤ length w → ready_with s a w ≡ true
unfolding ready_with
with_able s a w able long = sym (passes (leb 2 (length w)) (ready s a) true (le-leb 2 (length w) long) (sym able))
