-- `shape::shape_ok` meets its contract: what each of its tests decides, together with those before it. Assumes nothing.
use Rattle.std.proofs.Common.{◌≡◌, ℕ, ◌+◌, ◌≤◌, ◌<◌, Bool, true, false, sym, ◌∙◌, arith}
use Rattle.std.proofs.lemmas.Grind.{common_steps}
use Rattle.base.specs.Decide.{Decides, decides_map}
use Rattle.stamps.specs.Fresh.{FreshStamps}
use Rattle.tables.specs.Long.{Long}
use Rattle.tables.specs.Tables.{Tables}
use Rattle.tables.specs.Lent.{lent}
use Rattle.programmes.specs.Rules.{Passing}
use Rattle.shape.specs.Decision.{shape_agrees}
use Rattle.shape.specs.Shape.{Clauses, Cursor, Shape, Spread, Variable, settled_to}
use Rattle.state.specs.declared.State.{State}
use Rattle.shape.proofs.shape_ok.Goals as goal
use Rattle.shape.proofs.shape_ok.Goals.{then-st-le4096, else-st-le4096, then-state_ok, else-state_ok, then-variables_ok, else-variables_ok}

-- the answer of the tests before, and then of one more
both : {x y z : Bool} {P Q : Type 0} → Decides x P → Decides y Q → x ≡ true → z ≡ y → Decides z (P × Q)
both d e h same = record { holds = λ k. (d.holds h, e.holds (sym same ∙ k)); fails = λ k q. e.fails (sym same ∙ k) q.1 }

neither : {x z : Bool} {P Q : Type 0} → Decides x P → x ≡ false → z ≡ x → Decides z (P × Q)
neither d h same = record { holds = λ k. absurd (cc); fails = λ k q. d.fails h q.0 }

-- the rule of the state, of the variables and of the clauses
abbrev First : Tables → State → Type 0
First t s = Long t × (s.v ≤ 1024) × (s.n ≤ 4096) × (Cursor s.pass s.n s.mark × Passing s.programme)

abbrev Second : Tables → State → Type 0
Second t s = First t s × (((w : ℕ) → w < s.v → Variable t.variables (w + 1)) × Spread s.v t.variables)

abbrev Third : Tables → State → Type 0
Third t s = Second t s × Clauses s.v s.n (settled_to s.pass s.n) s.mark t.clauses t.literals t.variables

shaped : (t : Tables) (s : State) → Third t s → (s.fresh ≡ true → FreshStamps s.v t.times t.links) → Shape t s
shaped t s h f = record {
  long = h.0.0.0;
  v_limit = h.0.0.1;
  n_limit = h.0.0.2;
  clauses = h.1;
  variables = h.0.1.0;
  values = h.0.1.1;
  cursor = h.0.0.3.0;
  stamps = f;
  programme = h.0.0.3.1;
}

known : (t : Tables) (s : State) → Shape t s → Third t s
known t s S = (((S.long, S.v_limit, S.n_limit, (S.cursor, S.programme)), (S.variables, S.values)), S.clauses)

pub returns-then-clauses_ok : goal.returns-then-clauses_ok
returns-then-clauses_ok c =
    let a = c.args in
    let s = a.st in
    let t : Tables = lent a.clauses.now a.literals.now a.variables.now a.times.now a.links.now in
    let first : Decides c.if-st-le4096.value (First t s) = elim c.if-st-le4096.branch [ then-st-le4096 w ↦ grind (arith, common_steps) | else-st-le4096 w ↦ grind (arith, common_steps) ] in
    let second : Decides c.if-state_ok.value (Second t s) = elim c.if-state_ok.branch [
      | then-state_ok w ↦ both first w.variables_ok.ensures w.if-state_ok.true w.value-is
      | else-state_ok w ↦ neither first w.if-state_ok.false w.value-is
    ] in
    let third : Decides c.if-variables_ok.value (Third t s) = elim c.if-variables_ok.branch [
      | then-variables_ok w ↦ both second (rw w.settled_to.ensures at w.clauses_ok.ensures) w.if-variables_ok.true w.value-is
      | else-variables_ok w ↦ neither second w.if-variables_ok.false w.value-is
    ] in
    shape_agrees t s (decides_map (shaped t s (third.holds c.if-clauses_ok.true)) (λ S. S.stamps) c.fresh_ok.ensures)

pub returns-else-clauses_ok : goal.returns-else-clauses_ok
returns-else-clauses_ok c =
    let a = c.args in
    let s = a.st in
    let t : Tables = lent a.clauses.now a.literals.now a.variables.now a.times.now a.links.now in
    let first : Decides c.if-st-le4096.value (First t s) = elim c.if-st-le4096.branch [ then-st-le4096 w ↦ grind (arith, common_steps) | else-st-le4096 w ↦ grind (arith, common_steps) ] in
    let second : Decides c.if-state_ok.value (Second t s) = elim c.if-state_ok.branch [
      | then-state_ok w ↦ both first w.variables_ok.ensures w.if-state_ok.true w.value-is
      | else-state_ok w ↦ neither first w.if-state_ok.false w.value-is
    ] in
    let third : Decides c.if-variables_ok.value (Third t s) = elim c.if-variables_ok.branch [
      | then-variables_ok w ↦ both second (rw w.settled_to.ensures at w.clauses_ok.ensures) w.if-variables_ok.true w.value-is
      | else-variables_ok w ↦ neither second w.if-variables_ok.false w.value-is
    ] in
    shape_agrees t s (record { holds = λ e. absurd (cc); fails = λ e S. third.fails c.if-clauses_ok.false (known t s S) })
