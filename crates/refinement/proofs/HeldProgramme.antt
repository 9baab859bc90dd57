-- Setting a programme keeps what demand 3 rests on: it changes no table, and of the state nothing that this speaks of. Assumes nothing.
use Prim.Native.Nat.{ℕ}
use mathlib.Core.Path.{sym, subst}
use mathlib.Core.List.{List}
use Rattle.state.specs.States.{programmed}
use Rattle.state.specs.declared.State.{State}
use Rattle.state.specs.declared.Programme.{Programme}
use Rattle.tables.specs.Tables.{Tables}
use Rattle.shape.specs.Shape.{Shape}
use Rattle.set_programme.specs.SetProgramme.{set_call}
use Rattle.set_programme.proofs.Setting.{set_tables, set_state, set_shaped}
use Rattle.moves.specs.Core.{Core}
use Rattle.moves.specs.Moves.{Freshness}
use Rattle.refinement.proofs.Held.{StampsOf, stale, from, HeldBy}

stamps_programmed : (p : Programme) {t : Tables} {st : State} {w : Freshness} → StampsOf t st w → StampsOf t (programmed p st) w
stamps_programmed p (stale e) = stale e
stamps_programmed p (from σ c A at) = from σ c A at

held_programmed : {P : ℕ → Core → Freshness → Type 0} (p : Programme) {t : Tables} {st : State} → HeldBy P t st → Shape t (programmed p st) → HeldBy P t (programmed p st)
held_programmed p H S = record { core = H.core; stamped = H.stamped; so = H.so; shape = S; tied = H.tied; stamps = stamps_programmed p H.stamps }

pub programme_held : {P : ℕ → Core → Freshness → Type 0} (codes : List ℕ) (t : Tables) (st : State) → HeldBy P t st → HeldBy P (set_call codes t st).tables (set_call codes t st).state
programme_held {P} codes t st H =
    let p = (set_call codes t st).state.programme in
    let S : Shape t (set_call codes t st).state = subst (λ (u : Tables). Shape u (set_call codes t st).state) (set_tables codes t st) (set_shaped codes t st H.shape) in
    subst (λ (u : Tables). HeldBy P u (set_call codes t st).state) (sym (set_tables codes t st))
    (subst (HeldBy P t) (sym (set_state codes t st)) (held_programmed p H (subst (Shape t) (set_state codes t st) S)))
