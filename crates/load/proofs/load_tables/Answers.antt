-- The call is a load of the text.
use Rattle.load.specs.Load.{load_call}
use Rattle.load.proofs.load_tables.Goals as goal

pub returns : goal.returns
unfolding load_call
returns c = c.load_formula.ensures
