-- The ways of the call, and what it leaves: an accepted one these codes, and the shape rule kept; a refused one everything. Assumes nothing.
use Prim.Native.Nat.{ℕ}
use mathlib.Core.Path.{◌≡◌, refl, sym, ap, subst, ◌∙◌}
use mathlib.Core.Bool.{Bool, true, false}
use mathlib.Core.List.{List}
use Rattle.std.specs.Prelude.{Result, Ok, Err}
use Rattle.state.specs.Answers.{reply_of}
use Rattle.state.specs.Programmes.{codes_of, programme_of}
use Rattle.state.specs.States.{programmed}
use Rattle.state.specs.declared.State.{State}
use Rattle.state.specs.declared.Answer.TheVariants.{Set}
use Rattle.state.specs.declared.Refusal.TheVariants as refusal
use Rattle.programmes.specs.Rules.{Rules}
use Rattle.programmes.specs.Judging.{judge}
use Rattle.programmes.proofs.Judging.{judge_exact}
use Rattle.programmes.proofs.Programmes.{made_codes, made_passes}
use Rattle.tables.specs.Tables.{Tables}
use Rattle.tables.specs.Calls.{After, answered, refuse}
use Rattle.shape.specs.Shape.{Shape}
use Rattle.shape.specs.Decision.{shape_ok, shape_exact}
use Rattle.set_programme.specs.SetProgramme.{set_by, set_call}

module _ (codes : List ℕ) (t : Tables) (st : State) where
  abbrev by_shape : Bool → After
  by_shape ok = elim ok [ true ↦ set_by (judge codes) codes t st | false ↦ refuse refusal.Shape st t ]

  pub set_misshapen : shape_ok t st ≡ false → refuse refusal.Shape st t ≡ set_call codes t st
  unfolding set_call
  set_misshapen e = ap by_shape (sym e)

  module _ (shaped : shape_ok t st ≡ true) where
    judged : set_by (judge codes) codes t st ≡ set_call codes t st
    unfolding set_call
    judged = ap by_shape (sym shaped)

    pub set_refused : (index : ℕ) → judge codes ≡ Err index → refuse (refusal.Codes index) st t ≡ set_call codes t st
    set_refused index e = ap (λ (j : Result (Unit {0}) ℕ). set_by j codes t st) (sym e) ∙ judged

    pub set_made : judge codes ≡ Ok tt → answered Set (programmed (programme_of codes) st) t ≡ set_call codes t st
    set_made e = ap (λ (j : Result (Unit {0}) ℕ). set_by j codes t st) (sym e) ∙ judged

  -- ---- what it leaves

  -- what holds of the refusals and of an accepted call holds of the call
  pub set_cases : (P : After → Type 0) → (shape_ok t st ≡ false → P (refuse refusal.Shape st t)) → ((index : ℕ) → judge codes ≡ Err index → P (refuse (refusal.Codes index) st t))
      → (shape_ok t st ≡ true → judge codes ≡ Ok tt → P (answered Set (programmed (programme_of codes) st) t)) → P (set_call codes t st)
  set_cases P misshapen offends passes = by (shape_ok t st) refl (judge codes) refl
    where
      by : (b : Bool) → shape_ok t st ≡ b → (j : Result (Unit {0}) ℕ) → judge codes ≡ j → P (set_call codes t st)
      by false e j q = subst P (set_misshapen e) (misshapen e)
      by true e (Err index) q = subst P (set_refused e index q) (offends index q)
      by true e (Ok u) q = subst P (set_made e q) (passes e q)

  -- THE LAW: no table changes
  pub set_tables : (set_call codes t st).tables ≡ t
  set_tables = set_cases (λ a. a.tables ≡ t) (λ e. refl) (λ index q. refl) (λ e q. refl)

  -- and of the state nothing but the programme
  pub set_state : (set_call codes t st).state ≡ programmed (set_call codes t st).state.programme st
  set_state = set_cases (λ a. a.state ≡ programmed a.state.programme st) (λ e. refl) (λ index q. refl) (λ e q. refl)

  -- THE LAW: the shape rule is kept, a refused call too
  pub set_shaped : Shape t st → Shape (set_call codes t st).tables (set_call codes t st).state
  set_shaped S = set_cases (λ a. Shape a.tables a.state) (λ e. S) (λ index q. S)
      (λ e q. record { long = S.long; v_limit = S.v_limit; n_limit = S.n_limit; clauses = S.clauses; variables = S.variables; values = S.values; cursor = S.cursor; stamps = S.stamps; programme = made_passes codes ((judge_exact codes).0 q) })

  -- THE LAW: codes that keep the rules are set where the shape rule holds, and Run will follow just these
  pub set_taken : Shape t st → Rules codes → ((set_call codes t st).reply ≡ reply_of (Ok Set)) × (codes_of (set_call codes t st).state.programme ≡ codes)
  set_taken S R = by (shape_ok t st) refl
    where
      by : (b : Bool) → shape_ok t st ≡ b → ((set_call codes t st).reply ≡ reply_of (Ok Set)) × (codes_of (set_call codes t st).state.programme ≡ codes)
      by true e = subst (λ (a : After). (a.reply ≡ reply_of (Ok Set)) × (codes_of a.state.programme ≡ codes)) (set_made e ((judge_exact codes).1 R)) (refl, made_codes codes)
      by false e = absurd ((shape_exact t st).fails e S)
