-- The call is a load of the text, with the window.
use Rattle.load.specs.Load.{load_call, load_with}
use Rattle.load.proofs.load.Goals as goal

pub returns : goal.returns
unfolding load_with load_call
returns c = c.load_with.ensures
