-- The round, and the comparison with what stood before it. Assumes nothing.
use Rattle.std.proofs.Common.{◌≡◌, refl, ap, ◌∙◌, Bool, true, false, ◌||◌, rules}
use Rattle.tables.specs.Tables.{tables}
use Rattle.settle.specs.Steps.{standing_in}
use Rattle.run.specs.Run.{unchanged}
use Rattle.run.proofs.Unchanged.{copies_tell, copies_compare}
use Rattle.run.proofs.make_round.Goals as goal

pub is_same-same-requires : goal.is_same-same-requires
is_same-same-requires c =
    let r = c.round-after in
    let left = standing_in (tables r.new.clauses r.new.literals r.new.variables r.new.times r.new.links) r.result in
    copies_compare c.requires.0 left c.save.ensures r.new.clauses r.new.literals r.new.variables r.auto.clauses r.auto.literals r.auto.variables

pub returns-then-same : goal.returns-then-same
returns-then-same c =
    let a = c.args in
    let r = c.round-after in
    let s = c.is_same-same in
    let stood = standing_in (tables a.clauses.now a.literals.now a.variables.now a.times.now a.links.now) a.st in
    let left = standing_in (tables r.new.clauses r.new.literals r.new.variables r.new.times r.new.links) r.result in
    let told : s.result ≡ unchanged stood left = s.ensures a.st r.result a.times.now r.new.times a.links.now r.new.links refl refl ∙ copies_tell c.requires.0 left c.save.ensures in
    let stops : true ≡ (r.result.mark || s.result) = search rules in
    (r.ensures, stops ∙ ap (λ (b : Bool). r.result.mark || b) told)

pub returns-else-same : goal.returns-else-same
returns-else-same c =
    let a = c.args in
    let r = c.round-after in
    let s = c.is_same-same in
    let stood = standing_in (tables a.clauses.now a.literals.now a.variables.now a.times.now a.links.now) a.st in
    let left = standing_in (tables r.new.clauses r.new.literals r.new.variables r.new.times r.new.links) r.result in
    let told : s.result ≡ unchanged stood left = s.ensures a.st r.result a.times.now r.new.times a.links.now r.new.links refl refl ∙ copies_tell c.requires.0 left c.save.ensures in
    let goes : false ≡ (r.result.mark || s.result) = search rules in
    (r.ensures, goes ∙ ap (λ (b : Bool). r.result.mark || b) told)
