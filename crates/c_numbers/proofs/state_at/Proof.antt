-- `c_numbers::state_at` meets its contract: the parts are those of the numbers. Assumes nothing.
use mathlib.Core.Path.{ap₂, ◌∙◌}
use lib.ListN.{get_or}
use lib.Dec.{eqb}
use Rattle.state.specs.States.{state}
use Rattle.state.specs.declared.Pass.{Pass}
use Rattle.state.specs.declared.Programme.{Programme}
use Rattle.c_numbers.specs.StateNumbers.{state_of}
use borrow.Author.Rules.{rules}
use Rattle.c_numbers.proofs.state_at.Statement.{statement}
use Rattle.c_numbers.proofs.state_at.Tie as tie

shared-slice-read-pass-of : tie.Need-bounds-state-2
shared-slice-read-pass-of c = search rules

shared-slice-read-pass-of-2 : tie.Need-bounds-state-3
shared-slice-read-pass-of-2 c = search rules

shared-slice-read-pass-of-3 : tie.Need-bounds-state-4
shared-slice-read-pass-of-3 c = search rules

pass-of-requires : tie.Need-pass_of-pass-requires
pass-of-requires c κs = search rules

programme-at-requires : tie.Need-programme_at-programme-requires
programme-at-requires c κs = search rules

shared-slice-read-of : tie.Need-bounds-state-0
shared-slice-read-of c = search rules

shared-slice-read-of-2 : tie.Need-bounds-state-1
shared-slice-read-of-2 c = search rules

shared-slice-read-of-3 : tie.Need-bounds-state-5
shared-slice-read-of-3 c = search rules

shared-slice-read-of-4 : tie.Need-bounds-state-6
shared-slice-read-of-4 c = search rules

of-requires : tie.Need-of-requires
of-requires c κs = search rules

returns : tie.Need-returns
unfolding state_of
returns c = let s = c.args.state.now in
    c.of.ensures ∙ ap₂ (λ (p : Pass) (q : Programme). state (get_or s 0 0) (get_or s 1 0) p (eqb (get_or s 5 0) 1) (eqb (get_or s 6 0) 1) q) c.pass_of-pass.ensures c.programme_at-programme.ensures

pub state_at_spec : {M : Type 1} → statement M
state_at_spec =
    tie.close
    (tie.spec
    shared-slice-read-pass-of
    shared-slice-read-pass-of-2
    shared-slice-read-pass-of-3
    pass-of-requires
    programme-at-requires
    shared-slice-read-of
    shared-slice-read-of-2
    shared-slice-read-of-3
    shared-slice-read-of-4
    of-requires
    returns)
