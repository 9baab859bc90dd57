-- `c_numbers::window_at` meets its contract: the window of the first two numbers. Assumes nothing.
use mathlib.Core.Path.{refl}
use Rattle.c_numbers.specs.WindowCalls.{window_at}
use borrow.Author.Rules.{rules}
use Rattle.c_numbers.proofs.window_at.Statement.{statement}
use Rattle.c_numbers.proofs.window_at.Tie as tie

shared-slice-read-t3 : tie.Need-bounds-window-0
shared-slice-read-t3 c = search rules

shared-slice-read-t5 : tie.Need-bounds-window-1
shared-slice-read-t5 c = search rules

returns : tie.Need-returns
unfolding window_at
returns c = refl

pub window_at_spec : {M : Type 1} → statement M
window_at_spec = tie.close (tie.spec
    shared-slice-read-t3
    shared-slice-read-t5
    returns)
