-- `failed::failed_fresh` meets its contract. Assumes nothing.
use Rattle.std.proofs.Common.{[]}
use Rattle.tables.specs.Tables.{tables}
use Rattle.failed.proofs.Calling.{fresh_replied, found_rows}
use Rattle.failed.proofs.failed_fresh.Goals as goal

pub spread-requires : goal.spread-requires
spread-requires c =
    let a = c.args in
    let r = c.fail_from-tally in
    found_rows (tables [] [] a.variables.now a.times.now a.links.now) a.st r.result r.new.variables r.ensures c.requires.0 c.requires.1

pub returns : goal.returns
returns c clauses literals =
    let a = c.args in
    let r = c.fail_from-tally in
    rw (c.state_after-state.ensures, c.spread.ensures) (fresh_replied (tables clauses literals a.variables.now a.times.now a.links.now) a.st r.result r.new.variables r.ensures)
