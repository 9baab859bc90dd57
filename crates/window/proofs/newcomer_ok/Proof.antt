-- `window::newcomer_ok` meets its contract. Assumes nothing.
use native.Mathlib.Omega.{arith}
use mathlib.Core.Path.{refl}
use lib.ListN.{replicate}
use Rattle.window.proofs.Checking.{none_below}
use borrow.Author.Rules.{rules}
use Rattle.window.proofs.newcomer_ok.Statement.{statement}
use Rattle.window.proofs.newcomer_ok.Tie as tie

slice-aggregate-clause-ok : tie.Need-slice_bounds-clause_ok-end
slice-aggregate-clause-ok c = search rules

clause-ok-requires : tie.Need-clause_ok-requires
clause-ok-requires c κs = let n = none_below 1 (omega arith) (replicate 1024 0) refl in (λ few. omega arith, c.requires.0, c.requires.1, refl, n.1)

returns : tie.Need-returns
returns c = search rules

pub newcomer_ok_spec : {M : Type 1} → statement M
newcomer_ok_spec = tie.close (tie.spec
    slice-aggregate-clause-ok
    clause-ok-requires
    returns)
