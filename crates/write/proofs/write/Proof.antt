-- `write::write` meets its contract. What `shape_ok` answers decides between refusal 1 and `write_text`, whose needs follow from the rule (`ready`). Assumes nothing.
use mathlib.Core.Path.{sym, ◌∙◌}
use borrow.Author.Tests.{not-true, not-false}
use borrow.Author.Rules.{rules}
use Rattle.tables.specs.Tables.{Tables, tables}
use Rattle.shape.proofs.Reading.{shaped}
use Rattle.write.proofs.Bounds.{ready}
use Rattle.write.proofs.Text.{call_refused, call_written}
use Rattle.write.proofs.write.Statement.{statement}
use Rattle.write.proofs.write.Tie as tie

-- the tables that the call was lent
abbrev lent : tie.Start → Tables
lent s = let a = s.args in tables a.clauses.now a.literals.now a.variables.now a.times.now a.links.now

shape-ok-requires : tie.Need-shape_ok-requires
shape-ok-requires c κs = search rules

returns : tie.Need-returns-then-not-shape_ok
returns c = let a = c.args in call_refused (lent c.before.before.before.before.before) a.st a.out.now (sym c.shape_ok.ensures ∙ c.if-not-shape_ok.true)

write-text-requires : tie.Need-write_text-requires
write-text-requires c κs = let a = c.args in ready (lent c.before.before.before.before.before.before) a.st (shaped (lent c.before.before.before.before.before.before) a.st (sym c.shape_ok.ensures ∙ c.if-not-shape_ok.false))

same_length : tie.Need-shape_of-out
same_length c = search rules

returns-2 : tie.Need-returns
returns-2 c = let a = c.args in c.write_text.ensures a.times.now a.links.now ∙ call_written (lent c.before.before.before.before.before.before.before.before.before) a.st a.out.now (sym c.shape_ok.ensures ∙ c.if-not-shape_ok.false)

pub write_spec : {M : Type 1} → statement M
write_spec =
    tie.close (tie.spec
    shape-ok-requires
    returns
    write-text-requires
    same_length
    returns-2)
