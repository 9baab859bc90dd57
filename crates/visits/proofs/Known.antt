-- What is known of a literal of the variables: it is small, its records are in the table, and its class literal is known too, and its own class. Assumes nothing.
use Prim.Native.Nat.{◌+◌, ◌*◌, ◌-◌, ◌≤◌, ◌<◌}
use native.Mathlib.Omega.{arith}
use mathlib.Core.Path.{◌≡◌, refl, sym, ap, subst, ◌∙◌}
use mathlib.Core.Bool.{Bool, true, false}
use mathlib.Core.List.{List}
use lib.ListN.{length}
use lib.IntN.{ℤ, pos, nat_abs}
use lib.Signed.{non_neg}
use Rattle.literal.specs.Literals.{Small, Literal, sign_by}
use Rattle.literal.proofs.Signed.{abs_neg}
use Rattle.tables.specs.Tables.{class_of, value_of}
use Rattle.tables.specs.Values.{class_literal}
use Rattle.shape.specs.Shape.{Variable}
use Rattle.visits.specs.Formed.{Known}

-- a sign carried through leaves the magnitude
pub abs_signed : (b : Bool) (x : ℤ) → nat_abs (sign_by b x) ≡ nat_abs x
abs_signed true x = refl
abs_signed false x = abs_neg x

module _ {w : List ℤ} {l : ℤ} (K : Known w l) where
  pub known_small : Small l
  known_small = record { small = omega (arith, K.ranged.within, K.rows.few) }

  -- both numbers of its variable's record are in the table
  pub known_place : 2 * nat_abs l ≤ length w
  known_place = omega (arith, K.ranged.within, K.rows.few, K.rows.room)

  pub known_above : 0 < nat_abs l
  known_above = K.ranged.above

  pub known_row : Variable w (nat_abs l)
  known_row = subst (Variable w) (let e : nat_abs l - 1 + 1 ≡ nat_abs l = omega (arith, K.ranged.above) in e) (K.rows.each (nat_abs l - 1) (omega (arith, K.ranged.above, K.ranged.within)))

  pub class_small : Small (class_of w (nat_abs l))
  class_small = record { small = omega (arith, known_row.class.within, K.ranged.within, K.rows.few) }

  pub value_small : Small (value_of w (nat_abs l))
  value_small = record { small = omega (arith, known_row.value) }

  class_abs : nat_abs (class_literal w l) ≡ nat_abs (class_of w (nat_abs l))
  class_abs = abs_signed (non_neg l) (class_of w (nat_abs l))

  -- its class literal is a literal of the variables, and its own class
  pub class_ranged : Literal K.count (class_literal w l)
  class_ranged = record { above = omega (arith, class_abs, known_row.class.above); within = omega (arith, class_abs, known_row.class.within, K.ranged.within) }

  pub known_class : Known w (class_literal w l)
  known_class = record { count = K.count; rows = K.rows; ranged = class_ranged }

  pub class_own : class_of w (nat_abs (class_literal w l)) ≡ pos (nat_abs (class_literal w l))
  class_own = ap (class_of w) class_abs ∙ known_row.own ∙ ap pos (sym class_abs)
