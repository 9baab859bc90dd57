-- `state::State::loaded` meets its contract. Assumes nothing.
use mathlib.Core.Path.{ap, ◌∙◌}
use mathlib.Core.Bool.{false}
use Rattle.state.specs.States.{state}
use Rattle.state.specs.declared.Pass.TheVariants.{Idle}
use Rattle.state.specs.declared.Programme.{Programme}
use borrow.Author.Rules.{rules}
use Rattle.state.proofs.State.loaded.Statement.{statement}
use Rattle.state.proofs.State.loaded.Tie as tie

constant-requires : tie.Need-constant-programme-requires
constant-requires c κs = search rules

of-requires : tie.Need-of-requires
of-requires c κs = search rules

returns : tie.Need-returns
returns c = c.of.ensures ∙ ap (λ (p : Programme). state c.args.v c.args.n Idle false c.args.mark p) c.constant-programme.ensures

pub loaded_spec : {M : Type 1} → statement M
loaded_spec = tie.close (tie.spec
    constant-requires
    of-requires
    returns)
