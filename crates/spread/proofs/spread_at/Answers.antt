-- `spread::spread_at` meets its contract. Assumes nothing.
use Rattle.spread.proofs.Spreading.{known_classed}
use Rattle.spread.proofs.spread_at.Goals as goal

pub class_value-requires : goal.class_value-requires
class_value-requires c = known_classed c.requires
