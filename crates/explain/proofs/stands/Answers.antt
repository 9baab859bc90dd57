-- A clause stands if its number is from 1 to n and its record says so.
use Rattle.std.proofs.Common.{arith, not, ap, ◌∙◌}
use mathlib.Core.Logic.{⊎_elim}
use borrow.Author.Tests.{eq-eqb, lt-leb}
use Rattle.explain.proofs.Standing.{none_stands, beyond_stands, flag_told}
use Rattle.explain.proofs.stands.Goals as goal
use Rattle.explain.proofs.stands.Goals.{then-number-ne0, else-number-ne0}

pub returns-then-number-n : goal.returns-then-number-n
returns-then-number-n c = let a = c.args in flag_told a.number a.n a.clauses.now (omega (arith, c.if-number-n.true.0)) c.if-number-n.true.1

pub returns-else-number-n : goal.returns-else-number-n
returns-else-number-n c =
    let a = c.args in
    elim c.if-number-ne0.branch [
      | then-number-ne0 w ↦ ⊎_elim (λ s. w.t-5-is ∙ lt-leb a.number a.n s.1 ∙ beyond_stands a.number a.n a.clauses.now s.1) (λ e. absurd (w.if-number-ne0.true e)) c.if-number-n.either
      | else-number-ne0 w ↦ w.t-5-is ∙ ap not (eq-eqb a.number 0 w.if-number-ne0.false) ∙ none_stands a.number a.n a.clauses.now w.if-number-ne0.false
    ]
