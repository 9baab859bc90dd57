-- A literal made true: the value is set at its class literal, so that the classes stay, and the records are still those of variables. Assumes nothing.
use Prim.Native.Nat.{ℕ, ◌≤◌}
use native.Mathlib.Omega.{arith}
use mathlib.Core.Path.{◌≡◌}
use mathlib.Core.List.{List}
use lib.IntN.{ℤ, pos, nat_abs}
use lib.Signed.{non_neg}
use Rattle.literal.specs.Literals.{Literal, sign_by}
use Rattle.tables.specs.Tables.{class_of}
use Rattle.tables.specs.Values.{class_literal, set_true}
use Rattle.visits.specs.Formed.{Variables, Known}
use Rattle.visits.proofs.Forming.{set_classes, set_variables}
use Rattle.visits.proofs.Known.{abs_signed, class_ranged}

module _ {v : ℕ} {w : List ℤ} (R : Variables v w) (l : ℤ) (L : Literal v l) where
  abbrev K : Known w l
  K = record { count = v; rows = R; ranged = L }

  tri : nat_abs (sign_by (non_neg (class_literal w l)) (pos 1)) ≤ 1
  tri = omega (arith, abs_signed (non_neg (class_literal w l)) (pos 1))

  pub true_classes : (u : ℕ) → class_of (set_true w l) u ≡ class_of w u
  true_classes = set_classes R (nat_abs (class_literal w l)) (class_ranged K).above (class_ranged K).within (sign_by (non_neg (class_literal w l)) (pos 1)) tri

  pub true_variables : Variables v (set_true w l)
  true_variables = set_variables R (nat_abs (class_literal w l)) (class_ranged K).above (class_ranged K).within (sign_by (non_neg (class_literal w l)) (pos 1)) tri
