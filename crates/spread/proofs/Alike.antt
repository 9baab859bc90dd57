-- Variable records that differ at most in the values of variables that are not their own class. Every literal is as true in the one as in the other, since truth is read at the class literal. Assumes nothing.
use Prim.Native.Nat.{ℕ, ◌*◌, ◌-◌, ◌≤◌, ◌<◌}
use native.Mathlib.Omega.{arith}
use mathlib.Core.Path.{◌≡◌, refl, sym, ap, subst, ◌∙◌}
use mathlib.Core.Logic.{⊎_elim}
use mathlib.Core.List.{List}
use lib.ListN.{length, get_or, set, length-set}
use lib.Seq.{get_or-set_other}
use lib.IntN.{ℤ, pos, nat_abs}
use lib.Signed.{non_neg}
use Rattle.base.specs.Decide.{same_or}
use Rattle.literal.specs.Literals.{Literal, sign_by}
use Rattle.tables.specs.Tables.{class_of, value_of}
use Rattle.tables.specs.Values.{class_literal, own_truth, class_value, truth, set_own, set_true}
use Rattle.visits.specs.Formed.{Variables, Known}
use Rattle.visits.proofs.Forming.{set_classes, set_value, set_others, set_variables}
use Rattle.visits.proofs.Known.{abs_signed, class_ranged, class_own}

-- of the variables 1 to v; w' has the classes of w, its values at the variables that are their own class, and what is behind
pub record Alike (v : ℕ) (w w' : List ℤ) : Type 0 where
  pub rows : Variables v w'
  pub size : length w' ≡ length w
  pub classes : (u : ℕ) → class_of w' u ≡ class_of w u
  pub owns : (u : ℕ) → 0 < u → class_of w u ≡ pos u → value_of w' u ≡ value_of w u
  pub behind : (k : ℕ) → 2 * v ≤ k → get_or w' k (pos 0) ≡ get_or w k (pos 0)

pub alike_same : {v : ℕ} {w : List ℤ} → Variables v w → Alike v w w
alike_same R = record { rows = R; size = refl; classes = λ u. refl; owns = λ u a o. refl; behind = λ k h. refl }

pub alike_join : {v : ℕ} {w w' w'' : List ℤ} → Alike v w w' → Alike v w' w'' → Alike v w w''
alike_join A B = record {
  rows = B.rows;
  size = B.size ∙ A.size;
  classes = λ u. B.classes u ∙ A.classes u;
  owns = λ u a o. B.owns u a (A.classes u ∙ o) ∙ A.owns u a o;
  behind = λ k h. B.behind k h ∙ A.behind k h;
}

module _ {v : ℕ} {w w' : List ℤ} (R : Variables v w) (A : Alike v w w') (l : ℤ) (L : Literal v l) where
  K : Known w l
  K = record { count = v; rows = R; ranged = L }

  pub class_same : class_literal w' l ≡ class_literal w l
  class_same = ap (sign_by (non_neg l)) (A.classes (nat_abs l))

  pub truth_same : truth w' l ≡ truth w l
  unfolding K
  truth_same = ap (own_truth w') class_same ∙ ap (sign_by (non_neg (class_literal w l))) (A.owns (nat_abs (class_literal w l)) (class_ranged K).above (class_own K))

-- the value of a class literal, by the variable
pub value_same : {v : ℕ} {w w' : List ℤ} → Variables v w → Alike v w w' → (u : ℕ) → 0 < u → u ≤ v → class_value w' u ≡ class_value w u
value_same R A u above within = truth_same R A (pos u) (record { above = above; within = within })

-- a value set in both
module _ {v : ℕ} {w w' : List ℤ} (R : Variables v w) (A : Alike v w w') (u : ℕ) (above : 0 < u) (within : u ≤ v) (x : ℤ) (tri : nat_abs x ≤ 1) where
  set_alike : Alike v (set w (2 * u - 1) x) (set w' (2 * u - 1) x)
  set_alike = record {
    rows = set_variables A.rows u above within x tri;
    size = length-set w' (2 * u - 1) x ∙ A.size ∙ sym (length-set w (2 * u - 1) x);
    classes = λ k. set_classes A.rows u above within x tri k ∙ A.classes k ∙ sym (set_classes R u above within x tri k);
    owns = λ k a own.
        ⊎_elim
        (λ (e : k ≡ u). ap (value_of (set w' (2 * u - 1) x)) e ∙ set_value A.rows u above within x tri ∙ sym (ap (value_of (set w (2 * u - 1) x)) e ∙ set_value R u above within x tri))
        (λ (d : k ≡ u → ⊥). set_others A.rows u above within x tri k a d ∙ A.owns k a (sym (set_classes R u above within x tri k) ∙ own) ∙ sym (set_others R u above within x tri k a d))
        (same_or k u);
    behind = λ k h. get_or-set_other w' (2 * u - 1) k x (pos 0) (λ e. omega (arith, e, h, above, within)) ∙ A.behind k h ∙ sym (get_or-set_other w (2 * u - 1) k x (pos 0) (λ e. omega (arith, e, h, above, within)));
  }

-- a literal made true in both
pub true_alike : {v : ℕ} {w w' : List ℤ} → Variables v w → Alike v w w' → (l : ℤ) → Literal v l → Alike v (set_true w l) (set_true w' l)
true_alike {v} {w} {w'} R A l L =
    let c : ℤ = class_literal w l in
    let C = class_ranged (record { count = v; rows = R; ranged = L }) in
    subst (λ (z : ℤ). Alike v (set_true w l) (set_own w' z)) (sym (class_same R A l L))
    (set_alike R A (nat_abs c) C.above C.within (sign_by (non_neg c) (pos 1)) (omega (arith, abs_signed (non_neg c) (pos 1))))
