-- `settle::propagate_whole` meets its contract. Assumes nothing.
use Prim.Native.Nat.{ℕ, ◌+◌, ◌*◌, ◌≤◌}
use mathlib.Core.Bool.{false}
use native.Mathlib.Omega.{arith}
use mathlib.Core.Path.{ap, ◌∙◌}
use Rattle.tables.specs.Tables.{Tables, tables}
use Rattle.visits.proofs.Counting.{formed_counted}
use Rattle.propagate.specs.Propagate.{propagate_from}
use Rattle.propagate_visits.specs.Visits.{begin}
use Rattle.settle.specs.Settle.{between}
use Rattle.settle.proofs.Room.{literals_few, steps_few}
use borrow.Author.Rules.{rules}
use Rattle.settle.proofs.propagate_whole.Statement.{statement}
use Rattle.settle.proofs.propagate_whole.Tie as tie

cast-count-standing : tie.Need-overflow_cast-n
cast-count-standing c = search rules

count-standing-requires : tie.Need-count_standing-totals-requires
count-standing-requires c κs = formed_counted c.requires

add-steps : tie.Need-overflow_add-steps
add-steps c = omega (arith, c.count_standing-totals.ensures.1, literals_few c.requires)

mul-steps : tie.Need-overflow_mul-steps
mul-steps c = let h : (c.count_standing-totals.result.literals + 2) * c.args.st.n ≤ 67117056 = steps_few c.requires c.count_standing-totals.result.literals c.count_standing-totals.ensures.1 in
    omega arith

open-pass-requires : tie.Need-open_pass-outcome-requires
open-pass-requires c κs = search rules

same_length : tie.Need-shape_of-clauses
same_length c = search rules

same-length-2 : tie.Need-shape_of-literals
same-length-2 c = search rules

same-length-3 : tie.Need-shape_of-variables
same-length-3 c = search rules

returns : tie.Need-returns
returns c = λ times links.
    let t : Tables = tables c.args.clauses.now c.args.literals.now c.args.variables.now times links in
    ap between (c.open_pass-outcome.ensures times links)
    ∙ ap (λ (x : ℕ). between (propagate_from false ((x + 2) * c.args.st.n) (begin c.args.st.n t) t c.args.st)) c.count_standing-totals.ensures.1

pub propagate_whole_spec : {M : Type 1} → statement M
propagate_whole_spec =
    tie.close
    (tie.spec
    cast-count-standing
    count-standing-requires
    add-steps
    mul-steps
    open-pass-requires
    same_length
    same-length-2
    same-length-3
    returns)
