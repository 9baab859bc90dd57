-- Stores to the first places of a slice are numbers over its front. Assumes nothing.
use Prim.Native.Nat.{ℕ, ◌≤◌}
use native.Mathlib.Omega.{arith}
use mathlib.Core.Path.{◌≡◌, refl, sym, ap₂}
use mathlib.Core.List.{List, [], ◌∷◌, ◌++◌}
use lib.ListN.{length, drop, set, length-append, length-drop}
use lib.Seq.{length-take-le}
use borrow.Rule.Slice.PartMut.{put_mid}
use Rattle.state.specs.declared.Programme.{Programme}
use Rattle.c_numbers.specs.StateNumbers.{put_front, put_programme}

pub one_over : (x : ℕ) (old : List ℕ) → 1 ≤ length old → set old 0 x ≡ put_front (x ∷ []) old
one_over x [] h = absurd (omega arith)
one_over x (_ ∷ old) h = refl

pub two_over : (x y : ℕ) (old : List ℕ) → 2 ≤ length old → set (set old 0 x) 1 y ≡ put_front (x ∷ y ∷ []) old
two_over x y [] h = absurd (omega arith)
two_over x y (_ ∷ []) h = absurd (omega arith)
two_over x y (_ ∷ _ ∷ old) h = refl

pub four_over : (x y z w : ℕ) (old : List ℕ) → 4 ≤ length old → set (set (set (set old 0 x) 1 y) 2 z) 3 w ≡ put_front (x ∷ y ∷ z ∷ w ∷ []) old
four_over x y z w [] h = absurd (omega arith)
four_over x y z w (_ ∷ []) h = absurd (omega arith)
four_over x y z w (_ ∷ _ ∷ []) h = absurd (omega arith)
four_over x y z w (_ ∷ _ ∷ _ ∷ []) h = absurd (omega arith)
four_over x y z w (_ ∷ _ ∷ _ ∷ _ ∷ old) h = refl

pub seven_over : (a b c d e f g : ℕ) (old : List ℕ) → 7 ≤ length old → set (set (set (set (set (set (set old 0 a) 1 b) 2 c) 3 d) 4 e) 5 f) 6 g ≡ put_front (a ∷ b ∷ c ∷ d ∷ e ∷ f ∷ g ∷ []) old
seven_over a b c d e f g [] h = absurd (omega arith)
seven_over a b c d e f g (_ ∷ []) h = absurd (omega arith)
seven_over a b c d e f g (_ ∷ _ ∷ []) h = absurd (omega arith)
seven_over a b c d e f g (_ ∷ _ ∷ _ ∷ []) h = absurd (omega arith)
seven_over a b c d e f g (_ ∷ _ ∷ _ ∷ _ ∷ []) h = absurd (omega arith)
seven_over a b c d e f g (_ ∷ _ ∷ _ ∷ _ ∷ _ ∷ []) h = absurd (omega arith)
seven_over a b c d e f g (_ ∷ _ ∷ _ ∷ _ ∷ _ ∷ _ ∷ []) h = absurd (omega arith)
seven_over a b c d e f g (_ ∷ _ ∷ _ ∷ _ ∷ _ ∷ _ ∷ _ ∷ old) h = refl

pub over_length : (new old : List ℕ) → length new ≤ length old → length (put_front new old) ≡ length old
over_length new old h = simp (length-append, length-drop) (omega arith)

-- the length stored at the eighth place, and the codes copied behind it
pub programme_over : (p : Programme) (copied old : List ℕ) → 8 ≤ length old → copied ≡ p.codes → length p.codes ≡ 32 → put_mid 8 32 (set old 7 p.length) copied ≡ put_programme p old
unfolding put_programme
programme_over p copied [] h e f = absurd (omega arith)
programme_over p copied (_ ∷ []) h e f = absurd (omega arith)
programme_over p copied (_ ∷ _ ∷ []) h e f = absurd (omega arith)
programme_over p copied (_ ∷ _ ∷ _ ∷ []) h e f = absurd (omega arith)
programme_over p copied (_ ∷ _ ∷ _ ∷ _ ∷ []) h e f = absurd (omega arith)
programme_over p copied (_ ∷ _ ∷ _ ∷ _ ∷ _ ∷ []) h e f = absurd (omega arith)
programme_over p copied (_ ∷ _ ∷ _ ∷ _ ∷ _ ∷ _ ∷ []) h e f = absurd (omega arith)
programme_over p copied (_ ∷ _ ∷ _ ∷ _ ∷ _ ∷ _ ∷ _ ∷ []) h e f = absurd (omega arith)
programme_over p copied (a ∷ b ∷ c ∷ d ∷ e ∷ f ∷ g ∷ _ ∷ old) h same many = ap₂ (λ (l : List ℕ) (n : ℕ). a ∷ b ∷ c ∷ d ∷ e ∷ f ∷ g ∷ p.length ∷ l ++ drop n old) same (sym many)

-- seven numbers before it are the state's
pub before_programme : (a b c d e f g : ℕ) (p : Programme) (old : List ℕ) → 7 ≤ length old → put_front (a ∷ b ∷ c ∷ d ∷ e ∷ f ∷ g ∷ []) (put_programme p old) ≡ put_front (a ∷ b ∷ c ∷ d ∷ e ∷ f ∷ g ∷ p.length ∷ p.codes) old
unfolding put_programme
before_programme a b c d e f g p [] h = absurd (omega arith)
before_programme a b c d e f g p (_ ∷ []) h = absurd (omega arith)
before_programme a b c d e f g p (_ ∷ _ ∷ []) h = absurd (omega arith)
before_programme a b c d e f g p (_ ∷ _ ∷ _ ∷ []) h = absurd (omega arith)
before_programme a b c d e f g p (_ ∷ _ ∷ _ ∷ _ ∷ []) h = absurd (omega arith)
before_programme a b c d e f g p (_ ∷ _ ∷ _ ∷ _ ∷ _ ∷ []) h = absurd (omega arith)
before_programme a b c d e f g p (_ ∷ _ ∷ _ ∷ _ ∷ _ ∷ _ ∷ []) h = absurd (omega arith)
before_programme a b c d e f g p (_ ∷ _ ∷ _ ∷ _ ∷ _ ∷ _ ∷ _ ∷ old) h = refl

pub programme_length : (p : Programme) (old : List ℕ) → 40 ≤ length old → length p.codes ≡ 32 → length (put_programme p old) ≡ length old
unfolding put_programme
programme_length p old h many = simp (length-append, length-drop, length-take-le 7 old (omega arith)) (omega (arith, h, many))
