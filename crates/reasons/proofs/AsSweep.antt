-- Document 02, CR 7: "Refusals 1, 4, 5 and 9 apply as for a Sweep that opens. It refuses with 13 a number outside 1 to N or a dropped clause, after 9, and last with 10."
--     explain_as_sweep    where no Sweep is open, that is what explain is refused with, any Sweep call on the same tables with the same state to compare with
--     explain_open        where one is open, it is refused with 4 or with 1
--     explain_refused     a refused call leaves the output as it is
-- Assumes nothing.
use Prim.Native.Nat.{ℕ, ◌-◌, ◌≤◌, ◌<◌}
use native.Mathlib.Omega.{arith}
use mathlib.Core.Path.{◌≡◌, refl, sym, ap, subst, ◌∙◌}
use mathlib.Core.Bool.{Bool, true, false}
use mathlib.Core.Logic.{◌⊎◌, inl, inr, ⊎_elim}
use mathlib.Core.List.{List}
use lib.ListN.{length}
use Rattle.std.specs.Prelude.{Result, Ok, Err}
use Rattle.base.specs.Decide.{zero_or, same_or, le_or}
use Rattle.state.specs.Answers.{refusal_number}
use Rattle.state.specs.declared.State.{State}
use Rattle.state.specs.declared.Refusal.{Refusal}
use Rattle.state.specs.declared.Refusal.TheVariants.{Shape}
use Rattle.state.specs.declared.Pass.{Pass}
use Rattle.state.specs.declared.Pass.TheVariants.{Idle, Propagate, Merge, Sweep}
use Rattle.state.proofs.Numbers.{number_bounds}
use Rattle.tables.specs.Tables.{Tables}
use Rattle.shape.specs.Decision.{shape_ok}
use Rattle.entry.specs.Entry.{opening_by, opening_of, entry_by, entry_of}
use Rattle.entry.specs.declared.Entry.{Entry}
use Rattle.entry.specs.declared.PassName.TheVariants as own
use Rattle.visits.proofs.Forming.{shape_formed, stands_one}
use Rattle.sweep.specs.Sweep.{sweep_unless_stale, sweep_by, sweep_call}
use Rattle.write.specs.Write.{AfterWrite}
use Rattle.explain.specs.Explain.{explain_opening, explain_call}
use Rattle.newcomers.proofs.AsSweep.{NoSweep, sweep_number}
use Rattle.paper.specs.Clauses.{flag_at}
use Rattle.reasons.specs.Explained.{Named}
use Rattle.reasons.specs.Refused.{text_at, NoneNamed, RefusedAs}
use Rattle.reasons.proofs.Cases.{Asked, explain_cases}

-- ---- a Sweep that opens

-- the number of the refusal of a call that opens its pass and needs fresh stamps
abbrev opening_number : Result (Unit {0}) Refusal → Bool → ℕ
opening_number (Err r) fresh = refusal_number r
opening_number (Ok _) true = 0
opening_number (Ok _) false = 9

sweep_opens : (steps : ℕ) (t : Tables) (st : State) → NoSweep st.pass → (sweep_call steps t st).reply.number ≡ opening_number (opening_of t st) st.fresh
unfolding sweep_call entry_of opening_of
sweep_opens steps t st n = by (shape_ok t st)
  where
    stale : (fresh : Bool) → (sweep_unless_stale fresh steps 0 t st).reply.number ≡ opening_number (Ok tt) fresh
    stale true = sweep_number steps t st
    stale false = refl

    opens : (p : Pass) (mark : Bool) → NoSweep p → (sweep_by (entry_by own.Sweep p mark) steps t st).reply.number ≡ opening_number (opening_by p mark) st.fresh
    opens (Sweep _) mark d = elim d [ ]
    opens Idle true d = refl
    opens Idle false d = stale st.fresh
    opens (Propagate cursor changed) mark d = refl
    opens (Merge cursor) mark d = refl

    by : (b : Bool) → (sweep_by (elim b as (λ x. Result Entry Refusal) [ true ↦ entry_by own.Sweep st.pass st.mark | false ↦ Err Shape ]) steps t st).reply.number
        ≡ opening_number (elim b as (λ x. Result (Unit {0}) Refusal) [ true ↦ opening_by st.pass st.mark | false ↦ Err Shape ]) st.fresh
    by true = opens st.pass st.mark n
    by false = refl

-- ---- a clause of that number

-- the clause is one that stands, or there is none
named_not : (number : ℕ) (t : Tables) (st : State) → Named number t st → NoneNamed number t st → ⊥
named_not number t st N (inl z) = omega (arith, z, N.numbered)
named_not number t st N (inr (inl above)) = omega (arith, above, N.numbered, N.within)
named_not number t st N (inr (inr gone)) =
    let at : number - 1 ≡ N.at = omega (arith, N.numbered) in
    omega (arith, N.stands, sym (ap (flag_at t) at) ∙ gone)

not_named : (number : ℕ) (t : Tables) (st : State) → Asked t st → (Named number t st → ⊥) → NoneNamed number t st
not_named number t st A none =
    ⊎_elim
    (λ (z : number ≡ 0). inl z)
    (λ (above : 0 < number).
    inr (⊎_elim
    (λ (le : number ≤ st.n).
    inr (⊎_elim
    (λ (gone : flag_at t (number - 1) ≡ 0). gone)
    (λ (d : flag_at t (number - 1) ≡ 0 → ⊥). let lt : number - 1 < st.n = omega (arith, above, le) in absurd (none (record { at = number - 1; numbered = omega (arith, above); within = lt; stands = stands_one (shape_formed A.entered.shape) (number - 1) lt d })))
    (same_or (flag_at t (number - 1)) 0)))
    (λ (gt : st.n < number). inl gt)
    (le_or number st.n)))
    (zero_or number)

-- two names of one clause
same_place : {number : ℕ} {t : Tables} {st : State} (N M : Named number t st) → N.at ≡ M.at
same_place N M = omega (arith, N.numbered, M.numbered)

-- ---- the theorems

module _ (number : ℕ) (t : Tables) (st : State) (out : List ℕ) where
  abbrev As : ℕ → ℕ → Type 0
  As = RefusedAs number t st out

  refused_first : (k : ℕ) → 0 < k → As k k
  refused_first k above = record {
    as_sweep = λ h. refl;
    no_clause = λ z. absurd (omega (arith, above, z));
    short = λ z. absurd (omega (arith, above, z));
    accepted = λ z. absurd (omega (arith, above, z));
    others = λ z. absurd (omega (arith, above, z));
  }

  refused_number : Asked t st → (Named number t st → ⊥) → As 0 13
  refused_number A none = record {
    as_sweep = λ h. absurd (omega arith);
    no_clause = λ z. (λ e. not_named number t st A none, λ o. refl);
    short = λ z. (λ e. absurd (omega arith), λ N. absurd (none N.0));
    accepted = λ z. (λ e. absurd (omega arith), λ N. absurd (none N.0));
    others = λ z. inr (inr refl);
  }

  -- the same text, by another name of the clause
  longer : (N M : Named number t st) → length (text_at t N.at) ≡ length (text_at t M.at)
  longer N M = ap (λ (i : ℕ). length (text_at t i)) (same_place N M)

  refused_short : (N : Named number t st) → length out < length (text_at t N.at) → As 0 10
  refused_short N less = record {
    as_sweep = λ h. absurd (omega arith);
    no_clause = λ z. (λ e. absurd (omega arith), λ o. absurd (named_not number t st N o));
    short = λ z. (λ e. (N, less), λ M. refl);
    accepted = λ z. (λ e. absurd (omega arith), λ M. absurd (omega (arith, less, M.1, longer N M.0)));
    others = λ z. inr (inl refl);
  }

  taken : (N : Named number t st) → length (text_at t N.at) ≤ length out → As 0 0
  taken N fits = record {
    as_sweep = λ h. refl;
    no_clause = λ z. (λ e. absurd (omega arith), λ o. absurd (named_not number t st N o));
    short = λ z. (λ e. absurd (omega arith), λ M. absurd (omega (arith, fits, M.1, longer N M.0)));
    accepted = λ z. (λ e. (N, fits), λ M. refl);
    others = λ z. inl refl;
  }

  -- by the opening and the stamps
  explain_by : RefusedAs number t st out (opening_number (opening_of t st) st.fresh) (explain_call number t st out).reply.number
  explain_by =
      explain_cases number t st out (λ (a : AfterWrite). As (opening_number (opening_of t st) st.fresh) a.reply.number)
      (λ r e. subst (λ (k : ℕ). As k (refusal_number r)) (sym (ap (λ (x : Result (Unit {0}) Refusal). opening_number x st.fresh) e)) (refused_first (refusal_number r) (number_bounds r).0))
      (λ g e. subst (λ (k : ℕ). As k 9) (sym (opened g e)) (refused_first 9 (omega arith)))
      (λ A none. subst (λ (k : ℕ). As k 13) (sym (fresh_opened A)) (refused_number A none))
      (λ A N less. subst (λ (k : ℕ). As k 10) (sym (fresh_opened A)) (refused_short N less))
      (λ A N fits. subst (λ (k : ℕ). As k 0) (sym (fresh_opened A)) (taken N fits))
    where
      opened : {b : Bool} → opening_of t st ≡ Ok tt → st.fresh ≡ b → opening_number (opening_of t st) st.fresh ≡ opening_number (Ok tt) b
      opened g e = λ i. opening_number (g i) (e i)

      fresh_opened : Asked t st → opening_number (opening_of t st) st.fresh ≡ 0
      fresh_opened A = opened A.granted A.fresh

  pub explain_as_sweep : (steps : ℕ) → NoSweep st.pass → RefusedAs number t st out (sweep_call steps t st).reply.number (explain_call number t st out).reply.number
  explain_as_sweep steps n = subst (λ (k : ℕ). As k (explain_call number t st out).reply.number) (sym (sweep_opens steps t st n)) explain_by

  -- an open Sweep is not resumed
  pub explain_open : (cursor : ℕ) → st.pass ≡ Sweep cursor → ((explain_call number t st out).reply.number ≡ 1) ⊎ ((explain_call number t st out).reply.number ≡ 4)
  unfolding explain_call opening_of
  explain_open cursor e = by (shape_ok t st)
    where
      By : Result (Unit {0}) Refusal → Type 0
      By x = ((explain_opening x number t st out).reply.number ≡ 1) ⊎ ((explain_opening x number t st out).reply.number ≡ 4)

      by : (b : Bool) → By (elim b as (λ x. Result (Unit {0}) Refusal) [ true ↦ opening_by st.pass st.mark | false ↦ Err Shape ])
      by true = subst (λ (p : Pass). By (opening_by p st.mark)) (sym e) (inr refl)
      by false = inl refl

  pub explain_refused : 0 < (explain_call number t st out).reply.number → (explain_call number t st out).out ≡ out
  explain_refused =
      explain_cases number t st out (λ (a : AfterWrite). 0 < a.reply.number → a.out ≡ out)
      (λ r e h. refl)
      (λ g e h. refl)
      (λ A none h. refl)
      (λ A N less h. refl)
      (λ A N fits h. absurd (omega arith))
