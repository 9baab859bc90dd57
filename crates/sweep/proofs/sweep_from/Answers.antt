-- `sweep::sweep_from` meets its contract. Assumes nothing.
use Rattle.std.proofs.Common.{arith, ◌≤◌, ◌+◌, ◌-◌, ◌≡◌, ◌∙◌, min, ℕ, true, false, length, replicate}
use lib.ListN.{length-replicate}
use Rattle.state.specs.declared.Pass.TheVariants.{Sweep}
use Rattle.stamp_columns.specs.Columns.{columns}
use Rattle.tables.specs.Tables.{tables}
use Rattle.visits.proofs.Counting.{formed_counted, counts_are}
use Rattle.visits.proofs.Advancing.{advanced}
use Rattle.sweep_visits.specs.Clause.{sweep_clause}
use Rattle.sweep.proofs.sweep_from.Goals as goal

-- the room for a clause's slots
slots_room : 16384 ≤ length {A = ℕ} (replicate 16384 0)
slots_room = omega (arith, length-replicate {A = ℕ} 16384 0)

pub count_standing-before-requires : goal.count_standing-before-requires
count_standing-before-requires c = formed_counted c.requires.0.formed

pub sweep_visits-requires : goal.sweep_visits-requires
sweep_visits-requires c =
    let room : c.args.cursor + c.min-m.result ≤ c.args.st.n = omega arith in
    (record { number = c.args.st.n; sweepable = c.requires.0; room = room }, slots_room, slots_room)

pub count_standing-left-requires : goal.count_standing-left-requires
count_standing-left-requires c =
    let room : c.args.cursor + c.min-m.result ≤ c.args.st.n = omega arith in
    formed_counted (c.sweep_visits.ensures.0 c.args.st.n room c.requires.0).formed

pub returns : goal.returns
returns c = λ w.
    let a = c.args in
    let m = c.min-m.result in
    let v = c.sweep_visits in
    let s = c.count_standing-before in
    let left = c.count_standing-left in
    let counts = c.counts_of-counts in
    let few : m ≡ min a.steps (a.st.n - a.cursor) = omega arith in
    let t' = tables v.new.clauses v.new.literals w a.times.now a.links.now in
    c.answer_at.ensures t'
    ∙ advanced Sweep true false (sweep_clause (columns a.times.now a.links.now)) a.steps a.cursor (tables a.clauses.now a.literals.now w a.times.now a.links.now) a.st m few t' (v.ensures.1 w) counts.result
    (counts_are a.st.n m a.clauses.now v.new.clauses s.result left.result counts.result s.ensures left.ensures counts.ensures)
