-- `visits::count_standing` meets its contract. Assumes nothing.
use Rattle.visits.proofs.Counting.{counting_dropped, counting_standing, counting_done}
use Rattle.visits.proofs.count_standing.Goals as goal
use Rattle.visits.proofs.count_standing.Goals.{then-flag-ne0, else-flag-ne0}

pub loop-i-preserved : goal.loop-i-preserved
loop-i-preserved c =
    let l = c.loop-i in
    elim c.if-flag-ne0.branch [
      | then-flag-ne0 w ↦ rw (w.standing-is, w.literals-is) (counting_standing c.requires l.i c.loop-i-test.true l.invariant w.if-flag-ne0.true)
      | else-flag-ne0 w ↦ rw (w.standing-is, w.literals-is) (counting_dropped c.requires l.i c.loop-i-test.true l.invariant w.if-flag-ne0.false)
    ]

pub returns : goal.returns
returns c = counting_done c.requires c.loop-i.invariant c.loop-i-test.false
