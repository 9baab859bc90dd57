-- The codes at the front of 32 places of 0, which are still 0 behind them. Assumes nothing.
use Rattle.std.proofs.Common.{ℕ, List, ◌++◌, length, ap₂}
use Rattle.std.proofs.lemmas.List.{drop-replicate}
use Rattle.state.specs.Programmes.{programme_of}
use Rattle.programmes.proofs.programme_of.Goals as goal

pub returns : goal.returns
unfolding programme_of
returns c =
    let codes = c.args.codes.now in
    ap₂ (λ (a b : List ℕ). record { codes = a ++ b; length = length codes }) c.copy_from_slice.ensures.after (drop-replicate (length codes) 32 0)
