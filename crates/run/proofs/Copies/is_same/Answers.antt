-- The three comparisons are those of the definition. Assumes nothing.
use Rattle.std.proofs.Common.{◌*◌, take, sym, ◌∙◌}
use Rattle.base.proofs.Booleans.{clash}
use Rattle.literal.proofs.Comparing.{numbers_same, literals_same}
use Rattle.run.proofs.Unchanged.{records_differ, parts_differ, variables_tell}
use Rattle.run.proofs.Copies.is_same.Goals as goal
use Rattle.run.proofs.Copies.is_same.Goals.{then-eq, else-eq}

pub returns-then-same_parts : goal.returns-then-same_parts
returns-then-same_parts c = λ st st' times times' links links' ev en.
    let a = c.args in
    elim c.if-eq.branch [
      | then-eq w ↦
          c.eq-then-same_parts.ensures
          ∙ literals_same (take (2 * a.v) a.self.now.variables) (take (2 * a.v) a.variables.now)
          ∙ variables_tell a.v a.n a.self.now.clauses a.clauses.now a.self.now.literals a.literals.now a.self.now.variables a.variables.now st st' times times' links links' ev en
          (sym (c.eq.ensures ∙ numbers_same (take (3 * a.n) a.self.now.clauses) (take (3 * a.n) a.clauses.now)) ∙ w.if-eq.true)
          (sym w.same_parts.ensures ∙ sym w.value-is ∙ c.if-same_parts.true)
      | else-eq w ↦ clash c.if-same_parts.true (w.value-is ∙ w.if-eq.false)
    ]

pub returns-else-same_parts : goal.returns-else-same_parts
returns-else-same_parts c = λ st st' times times' links links' ev en.
    let a = c.args in
    c.if-same_parts.false
    ∙ elim c.if-eq.branch [
      | then-eq w ↦ parts_differ a.v a.n a.self.now.clauses a.clauses.now a.self.now.literals a.literals.now a.self.now.variables a.variables.now st st' times times' links links' ev en
          (sym (c.eq.ensures ∙ numbers_same (take (3 * a.n) a.self.now.clauses) (take (3 * a.n) a.clauses.now)) ∙ w.if-eq.true)
          (sym w.same_parts.ensures ∙ sym w.value-is ∙ c.if-same_parts.false)
      | else-eq w ↦ records_differ a.v a.n a.self.now.clauses a.clauses.now a.self.now.literals a.literals.now a.self.now.variables a.variables.now st st' times times' links links' ev en
          (sym (c.eq.ensures ∙ numbers_same (take (3 * a.n) a.self.now.clauses) (take (3 * a.n) a.clauses.now)) ∙ w.if-eq.false)
    ]
