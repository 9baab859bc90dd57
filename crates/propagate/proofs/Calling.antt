-- The call: with no clause it is done at once, and each way of its entry is a way of `propagate_call`. Assumes nothing.
use Prim.Native.Nat.{ℕ, zero, suc, ◌<◌}
use mathlib.Core.Path.{◌≡◌, refl, sym, ap, ◌∙◌}
use mathlib.Core.Bool.{Bool, false}
use Rattle.std.specs.Prelude.{Result, Ok, Err}
use Rattle.state.specs.declared.State.{State}
use Rattle.state.specs.declared.Counts.{Counts}
use Rattle.state.specs.declared.Refusal.{Refusal}
use Rattle.tables.specs.Tables.{Tables}
use Rattle.tables.specs.Calls.{refuse}
use Rattle.entry.specs.Entry.{entry_of}
use Rattle.entry.specs.declared.PassName.TheVariants as own
use Rattle.entry.specs.declared.Entry.{Entry}
use Rattle.entry.specs.declared.Entry.TheVariants.{Opens, Resumes}
use Rattle.entry.proofs.Entering.{opens_entered, resumes_entered}
use Rattle.visits.specs.Formed.{Formed}
use Rattle.visits.proofs.Counting.{none_gone}
use Rattle.visits.proofs.Entered.{entered_formed, entered_cursor}
use Rattle.spread.specs.Spread.{spread_behind}
use Rattle.propagate.specs.Propagate.{replied, propagate_from, propagate_by, propagate_call}
use Rattle.propagate_visits.specs.Visits.{Progress, going, settled, begin, Reached, propagate_visits}
use Rattle.propagate.specs.Steps.{replied_with}
use Rattle.propagate_visits.specs.declared.Stand.TheVariants.{Settled}

-- ---- with no clause

settled_visits : (n m : ℕ) (t : Tables) → propagate_visits n m 0 (settled t) ≡ record { visits = 0; progress = settled t }
unfolding propagate_visits
settled_visits n zero t = refl
settled_visits n (suc m) t = refl

pub none_replied : (steps : ℕ) (st : State) (t : Tables) → st.n ≡ 0 → spread_behind st.v (replied_with false (record { visits = 0; clauses = 0; literals = 0 }) st Settled t) ≡ propagate_from false steps (begin st.n t) t st
unfolding propagate_from
none_replied steps st t e =
    ap (spread_behind st.v)
    (ap (λ (c : Counts). replied_with false c st Settled t) (none_gone st.n t.clauses)
    ∙ ap (λ (r : Reached). replied false t.clauses st r.visits r.progress) (sym (settled_visits st.n steps t))
    ∙ ap (λ (p : Progress). replied false t.clauses st (propagate_visits st.n steps 0 p).visits (propagate_visits st.n steps 0 p).progress) (sym (ap (λ (k : ℕ). begin k t) e)))

pub begin_some : (n : ℕ) (t : Tables) → (n ≡ 0 → ⊥) → going 0 false t ≡ begin n t
begin_some zero t d = absurd (d refl)
begin_some (suc n) t d = refl

-- ---- the three ways of the call

module _ (steps : ℕ) (t : Tables) (st : State) where
  pub call_refused : (r : Refusal) → entry_of own.Propagate t st ≡ Err r → refuse r st t ≡ propagate_call steps t st
  unfolding propagate_call
  call_refused r e = ap (λ (x : Result Entry Refusal). propagate_by x steps t st) (sym e)

  pub call_opens : entry_of own.Propagate t st ≡ Ok Opens → propagate_from false steps (begin st.n t) t st ≡ propagate_call steps t st
  unfolding propagate_call
  call_opens e = ap (λ (x : Result Entry Refusal). propagate_by x steps t st) (sym e)

  pub call_resumes : (k : ℕ) (changed : Bool) → entry_of own.Propagate t st ≡ Ok (Resumes k changed) → propagate_from st.fresh steps (going k changed t) t st ≡ propagate_call steps t st
  unfolding propagate_call
  call_resumes k changed e = ap (λ (x : Result Entry Refusal). propagate_by x steps t st) (sym e)

  pub opens_formed : entry_of own.Propagate t st ≡ Ok Opens → Formed st.v st.n st.n false t.clauses t.literals t.variables
  opens_formed e = entered_formed (opens_entered own.Propagate t st e) tt

  pub resumes_before : (k : ℕ) (changed : Bool) → entry_of own.Propagate t st ≡ Ok (Resumes k changed) → Formed st.v st.n st.n false t.clauses t.literals t.variables × (k < st.n)
  resumes_before k changed e = let E = resumes_entered own.Propagate t st k changed e in (entered_formed E tt, (entered_cursor E).0)
