-- What `copy_within` leaves from a table's front on is the table moved down. Assumes nothing.
use Rattle.window.specs.Window.{places}
use Rattle.window.proofs.Returning.{eldest_left_lem}
use Rattle.window.proofs.leave.Goals as goal

pub returns : goal.returns
returns c = eldest_left_lem (places c.args.sizes.now c.args.learnt.now c.args.window) c.copy_within.ensures.after c.copy_within-2.ensures.after
