-- The codes are those behind the eighth number. Assumes nothing.
use Rattle.std.proofs.Common.{ℕ, List, get_or, ap}
use Rattle.c_numbers.specs.StateNumbers.{programme_at}
use Rattle.c_numbers.proofs.programme_at.Goals as goal

pub returns : goal.returns
unfolding programme_at
returns c = ap (λ (l : List ℕ). record { codes = l; length = get_or c.args.state.now 7 0 }) c.copy_from_slice.ensures.after
