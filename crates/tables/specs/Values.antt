-- Document 01: "The class literal of v is its class, of −v the complement of that. .. A literal is true or false as the value of its class literal says, and a value is set there."
-- Assumes nothing: these are definitions.
use Rattle.std.specs.Prelude.{ℕ, ◌*◌, ◌-◌, Bool, List, set, ℤ, pos, negsuc, nat_abs}
use Rattle.std.specs.Int.Signed.{non_neg}
use Rattle.literal.specs.Literals.{eq_z, sign_by}
use Rattle.tables.specs.Tables.{class_of, value_of}

-- the class literal of l, the sign carried through
abbrev pub class_literal : List ℤ → ℤ → ℤ
class_literal variables l = sign_by (non_neg l) (class_of variables (nat_abs l))

-- the value of the variable of c with c's sign
abbrev pub own_truth : List ℤ → ℤ → ℤ
own_truth variables c = sign_by (non_neg c) (value_of variables (nat_abs c))

-- change request 4: "The value of v is that of its class literal, sign included": what the record of variable w has as its value
abbrev pub class_value : List ℤ → ℕ → ℤ
class_value variables w = own_truth variables (class_of variables w)

-- 1 for a true literal, -1 for a false one, 0 for one that has no value
abbrev pub truth : List ℤ → ℤ → ℤ
truth variables l = own_truth variables (class_literal variables l)

abbrev pub is_true : List ℤ → ℤ → Bool
is_true variables l = eq_z (truth variables l) (pos 1)

abbrev pub is_false : List ℤ → ℤ → Bool
is_false variables l = eq_z (truth variables l) (negsuc 0)

-- the value with which c itself is true, at c's variable
abbrev pub set_own : List ℤ → ℤ → List ℤ
set_own variables c = set variables (2 * nat_abs c - 1) (sign_by (non_neg c) (pos 1))

-- the variable table with l made true: the value is set at its class literal
abbrev pub set_true : List ℤ → ℤ → List ℤ
set_true variables l = set_own variables (class_literal variables l)
