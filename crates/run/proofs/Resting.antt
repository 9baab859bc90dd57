-- What each pass of a run leaves, whether the mark is set or not. Assumes nothing.
use mathlib.Core.Path.{◌≡◌}
use mathlib.Core.Bool.{false}
use Rattle.state.specs.declared.Pass.TheVariants.{Idle}
use Rattle.shape.specs.Shape.{Shape}
use Rattle.settle.specs.Settle.{Standing}
use Rattle.run.specs.Steps.{Runs}

-- the shape rule holds and no pass is open, whether the mark is set or not
pub record Rests (w : Standing) : Type 0 where
  pub shape : Shape w.tables w.state
  pub idle : w.state.pass ≡ Idle

pub rests_runs : {w : Standing} → Rests w → w.state.mark ≡ false → Runs w
rests_runs S m = record { shape = S.shape; idle = S.idle; unmarked = m }

pub runs_rests : {w : Standing} → Runs w → Rests w
runs_rests R = record { shape = R.shape; idle = R.idle }
