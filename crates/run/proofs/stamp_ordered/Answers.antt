-- `run::stamp_ordered` meets its contract. Assumes nothing.
use Rattle.std.proofs.Common.{sym, ap, ◌∙◌}
use Rattle.settle.specs.Settle.{between}
use Rattle.stamp.proofs.Asking.{known_proper, known_records}
use Rattle.run.proofs.Running.{runs_formed, runs_known, stamp_refused, stamp_fit}
use Rattle.run.proofs.stamp_ordered.Goals as goal

pub ask_ordered-requires : goal.ask_ordered-requires
ask_ordered-requires c = runs_formed c.requires

pub stamp_acyclic-requires-clause-proper : goal.stamp_acyclic-requires-clause-proper
stamp_acyclic-requires-clause-proper c =
    let K = runs_known c.requires c.args.order.now (sym (c.ask_ordered.ensures c.args.times.now c.args.links.now) ∙ c.in-Ok.is) in
    (known_proper K, K.full)

pub stamp_acyclic-requires-clause-records : goal.stamp_acyclic-requires-clause-records
stamp_acyclic-requires-clause-records c =
    let K = runs_known c.requires c.args.order.now (sym (c.ask_ordered.ensures c.args.times.now c.args.links.now) ∙ c.in-Ok.is) in
    known_records K

pub returns-in-Err : goal.returns-in-Err
returns-in-Err c = ap between (stamp_refused c.requires c.args.order.now c.in-Err.field-0 (sym (c.ask_ordered.ensures c.args.times.now c.args.links.now) ∙ c.in-Err.is))

pub returns-in-Ok : goal.returns-in-Ok
returns-in-Ok c =
    ap between (c.stamp_acyclic.ensures c.args.variables.now ∙ stamp_fit c.requires c.args.order.now (sym (c.ask_ordered.ensures c.args.times.now c.args.links.now) ∙ c.in-Ok.is))
