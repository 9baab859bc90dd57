-- `failed::same_start` meets its contract. Assumes nothing.
use Rattle.hidden.specs.Failed.{same_start}
use Rattle.failed.proofs.same_start.Goals as goal

pub returns : goal.returns
unfolding same_start
returns c times = rw (c.start_of.ensures, c.start_of-2.ensures, c.twin_of.ensures)
