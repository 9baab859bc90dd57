-- The four codes stand in front, with 0 behind. Assumes nothing.
use Rattle.std.proofs.Common.{ℕ, List, ◌++◌, replicate, ap}
use Rattle.state.specs.Programmes.{constant_programme, programme_of}
use Rattle.state.proofs.Programme.constant.Goals as goal

pub returns : goal.returns
unfolding constant_programme programme_of
returns c = ap (λ (l : List ℕ). record { codes = l ++ replicate 28 0; length = 4 }) c.copy_from_slice.ensures.after
