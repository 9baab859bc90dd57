-- `shape::variables_ok`: the class of a variable has been looked at before it. Assumes nothing.
use Rattle.std.proofs.Common.{◌≡◌, ℕ, ◌+◌, ◌*◌, ◌-◌, ◌≤◌, ◌<◌, List, length, ℤ, nat_abs, arith, rules, sym, ap, subst, ◌∙◌, ⊎_elim}
use mir.Syntax.{w32}
use mir.Val.{of_z}
use Rattle.base.specs.Decide.{same_or, says_yes, says_no}
use Rattle.tables.specs.Tables.{class_of, value_of}
use Rattle.tables.specs.Values.{class_value}
use Rattle.shape.specs.Shape.{Variable}
use Rattle.shape.specs.Row.{Classed}
use Rattle.shape.proofs.variables_ok.Goals as goal
use Rattle.shape.proofs.variables_ok.Goals.{then-not-variable_ok-via-then-not-variable_ok, then-not-variable_ok-via-else-not-variable_ok+then-variables-w}

-- what holds of the variables before w and of w holds of each up to w
reached : (P : ℕ → Type 0) (w : ℕ) → ((u : ℕ) → u < w - 1 → P (u + 1)) → P w → (u : ℕ) → u < w → P (u + 1)
reached P w before here u lt = ⊎_elim (λ (s : u + 1 ≡ w). subst P (sym s) here) (λ (d : u + 1 ≡ w → ⊥). before u (omega arith)) (same_or (u + 1) w)

classed : (variables : List ℤ) (w : ℕ) → w ≤ 1024 → 2 * w ≤ length variables → ((u : ℕ) → u < w - 1 → Variable variables (u + 1)) → Variable variables w → Classed variables w
classed variables w few room before X =
    let u : ℕ = nat_abs (class_of variables w) in
    let e : u - 1 + 1 ≡ u = omega (arith, X.class.above) in
    let Y : Variable variables u = subst (Variable variables) e (reached (Variable variables) w before X (u - 1) (omega (arith, X.class.above, X.class.within))) in
    record {
      few = few;
      room = room;
      class = X.class;
      value = Y.value;
    }

pub class_value-requires : goal.class_value-requires
class_value-requires c =
    classed c.args.variables.now c.loop-w.w (omega arith) (omega arith) c.loop-w.invariant.0 (c.variable_ok.ensures.holds c.if-not-variable_ok.false)

pub returns-then-not-variable_ok : goal.returns-then-not-variable_ok
returns-then-not-variable_ok c =
    let vs : List ℤ = c.args.variables.now in
    let w : ℕ = c.loop-w.w in
    let e : w - 1 + 1 ≡ w = omega arith in
    elim c.then-not-variable_ok.branch [
      | then-not-variable_ok-via-then-not-variable_ok b ↦
          says_no (λ X. c.variable_ok.ensures.fails b.if-not-variable_ok.true (subst (Variable vs) e (X.0 (w - 1) (omega arith))))
      | then-not-variable_ok-via-else-not-variable_ok+then-variables-w b ↦
          says_no (λ X. b.if-variables-w.true (ap (of_z w32) (subst (λ (x : ℕ). value_of vs x ≡ b.class_value.result) e (X.1 (w - 1) (omega arith) ∙ ap (class_value vs) e ∙ sym b.class_value.ensures))))
    ]

pub loop-w-preserved : goal.loop-w-preserved
loop-w-preserved c =
    let vs : List ℤ = c.args.variables.now in
    let w : ℕ = c.loop-w.w in
    let same : value_of vs w ≡ c.class_value.result = search rules in
    let X : (u : ℕ) → u < w → Variable vs (u + 1) = reached (Variable vs) w c.loop-w.invariant.0 (c.variable_ok.ensures.holds c.if-not-variable_ok.false) in
    let V : (u : ℕ) → u < w → value_of vs (u + 1) ≡ class_value vs (u + 1) = reached (λ x. value_of vs x ≡ class_value vs x) w c.loop-w.invariant.1 (same ∙ c.class_value.ensures) in
    (λ u lt. X u (omega arith), λ u lt. V u (omega arith))

pub returns-else-variables-w : goal.returns-else-variables-w
returns-else-variables-w c =
    let vs : List ℤ = c.args.variables.now in
    let w : ℕ = c.loop-w.w in
    let same : value_of vs w ≡ c.class_value.result = search rules in
    let X : (u : ℕ) → u < w → Variable vs (u + 1) = reached (Variable vs) w c.loop-w.invariant.0 (c.variable_ok.ensures.holds c.if-not-variable_ok.false) in
    let V : (u : ℕ) → u < w → value_of vs (u + 1) ≡ class_value vs (u + 1) = reached (λ x. value_of vs x ≡ class_value vs x) w c.loop-w.invariant.1 (same ∙ c.class_value.ensures) in
    says_yes (λ u lt. X u (omega arith), λ u lt. V u (omega arith))
