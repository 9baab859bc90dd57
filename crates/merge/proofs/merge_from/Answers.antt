use Rattle.std.proofs.Common.{arith, ◌≤◌, ◌-◌, ◌≡◌, min}
use Rattle.tables.specs.Tables.{tables}
use Rattle.tables.specs.Calls.{after}
use Rattle.visits.proofs.Counting.{formed_counted, counts_are}
use Rattle.merge.proofs.Answering.{resumable_mergeable, made_counted, advanced_by}
use Rattle.merge.proofs.merge_from.Goals as goal

pub count_standing-before-requires : goal.count_standing-before-requires
count_standing-before-requires c = formed_counted c.requires.formed

pub visit_some-requires : goal.visit_some-requires
visit_some-requires c =
    let few : c.min-visits.result ≤ c.args.st.n - c.args.cursor = omega arith in
    resumable_mergeable c.requires c.min-visits.result few

pub count_standing-left-requires : goal.count_standing-left-requires
count_standing-left-requires c =
    let v = c.visit_some in
    let few : c.min-visits.result ≤ c.args.st.n - c.args.cursor = omega arith in
    made_counted c.requires c.min-visits.result few v.new.clauses v.new.literals v.ensures

pub returns : goal.returns
returns c =
    let a = c.args in
    let m = c.min-visits.result in
    let v = c.visit_some in
    let few : m ≤ a.st.n - a.cursor = omega arith in
    let fewer : m ≡ min a.steps (a.st.n - a.cursor) = omega arith in
    let counts = counts_are a.st.n m a.clauses.now v.new.clauses c.count_standing-before.result c.count_standing-left.result c.counts_of-counts.result c.count_standing-before.ensures c.count_standing-left.ensures c.counts_of-counts.ensures in
    λ times links.
    let t' = tables v.new.clauses v.new.literals a.variables.now times links in
    advanced_by c.requires m few v.new.clauses v.new.literals v.ensures a.steps fewer a.fresh times links c.counts_of-counts.result counts (after c.answer_at.result t') (c.answer_at.ensures t')
