-- `state::State::empty` meets its contract. Assumes nothing.
use mathlib.Core.Path.{ap, ◌∙◌}
use mathlib.Core.Bool.{false}
use Rattle.state.specs.States.{state}
use Rattle.state.specs.declared.Pass.TheVariants.{Idle}
use Rattle.state.specs.declared.Programme.{Programme}
use borrow.Author.Rules.{rules}
use Rattle.state.proofs.State.empty.Statement.{statement}
use Rattle.state.proofs.State.empty.Tie as tie

constant-requires : tie.Need-constant-requires
constant-requires c κs = search rules

of-requires : tie.Need-of-requires
of-requires c κs = search rules

returns : tie.Need-returns
returns c = c.of.ensures ∙ ap (λ (p : Programme). state 0 0 Idle false false p) c.constant.ensures

pub empty_spec : {M : Type 1} → statement M
empty_spec = tie.close (tie.spec
    constant-requires
    of-requires
    returns)
