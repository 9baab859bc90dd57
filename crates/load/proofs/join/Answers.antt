-- The call is a load of the join, with the window.
use Rattle.load.specs.Load.{join_call, join_with}
use Rattle.load.proofs.join.Goals as goal

pub returns : goal.returns
unfolding join_with join_call
returns c = c.load_with.ensures
