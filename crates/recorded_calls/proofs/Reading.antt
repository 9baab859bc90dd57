-- Propagate, Merge, Failed and Sweep leave the stamps, and so does a load. Assumes nothing.
use Prim.Native.Nat.{ℕ, ◌-◌, min}
use mathlib.Core.Path.{◌≡◌, refl, sym, subst}
use mathlib.Core.Bool.{Bool, true, false}
use mathlib.Core.List.{List}
use lib.IntN.{ℤ}
use Rattle.std.specs.Prelude.{Result, Ok, Err}
use Rattle.state.specs.declared.State.{State}
use Rattle.state.specs.declared.Refusal.{Refusal}
use Rattle.state.specs.declared.Refusal.TheVariants.{Shape}
use Rattle.state.specs.declared.Pass.{Pass}
use Rattle.state.specs.declared.Pass.TheVariants.{Merge, Sweep}
use Rattle.stamp_columns.specs.Columns.{columns}
use Rattle.tables.specs.Tables.{Tables}
use Rattle.tables.specs.Fates.{Fate}
use Rattle.tables.specs.Passes.{advance}
use Rattle.tables.specs.Long.{long_ok}
use Rattle.tables.specs.Calls.{After, refuse}
use Rattle.entry.specs.Entry.{entry_of, opening_of}
use Rattle.entry.specs.declared.PassName.TheVariants as own
use Rattle.entry.specs.declared.Entry.{Entry}
use Rattle.entry.specs.declared.Entry.TheVariants.{Opens, Resumes}
use Rattle.entry.proofs.Entering.{opens_entered, resumes_entered}
use Rattle.visits.proofs.Entered.{entered_formed, entered_cursor}
use Rattle.visits.proofs.Advancing.{advance_cases}
use Rattle.visits.proofs.Visiting.{SameStamps, stamps_same, Shrinks, visits_beside}
use Rattle.dimacs.specs.Text.{judge_text, text_clauses}
use Rattle.load.specs.Load.{laid, load_by, load_call, join_call}
use Rattle.join.specs.Join.{join_clauses, judge_join}
use Rattle.call_lists.specs.Starts.{Start, load, join, start_on}
use Rattle.propagate.specs.Propagate.{propagate_from, propagate_by, propagate_call}
use Rattle.propagate_visits.specs.Visits.{Progress, going, begin, propagate_visits}
use Rattle.propagate_visits.proofs.Stepping.{Good}
use Rattle.propagate.proofs.Shaped.{tables_at, begin_tables, begin_good, replied_tables, visits_stamps}
use Rattle.merge.specs.Merge.{merged_classes, merge_open, merge_by, merge_call}
use Rattle.merge_visits.specs.Clause.{merge_clause}
use Rattle.merge_visits.proofs.Visiting.{merge_shrinks}
use Rattle.merge.proofs.Calling.{open_cases, settled_cases}
use Rattle.failed.specs.Failed.{failed_fresh, failed_by, failed_call}
use Rattle.failed.specs.Failed as failing
use Rattle.sweep.specs.Sweep.{sweep_by, sweep_call}
use Rattle.sweep_visits.specs.Clause.{sweep_clause}
use Rattle.sweep.specs.Sweep as sweeping
use Rattle.set_programme.specs.SetProgramme.{set_call}
use Rattle.set_programme.proofs.Setting.{set_tables}
use Rattle.sweep_visits.proofs.Visiting.{sweep_shrinks}
use Rattle.std.specs.Prelude.{Result, Ok, Err}
use Rattle.dimacs.specs.declared.Header.{Header}
use Rattle.state.specs.declared.Refusal.{Refusal}

abbrev pub Reads : Tables → After → Type 0
Reads t a = SameStamps t a.tables

advance_reads : (pass : ℕ → Pass) (a b : Bool) (rule : List ℤ → Fate) → ((C : List ℤ) → Shrinks (rule C)) → (steps k : ℕ) (t : Tables) (st : State) → Reads t (advance rule pass a b steps k t st)
advance_reads pass a b rule shrinks steps k t st =
    let S = (visits_beside rule shrinks (min steps (st.n - k)) k t).stamps in
    advance_cases pass a b rule steps k t st (Reads t) (λ counts lt. S) (λ counts done. S)

by_reads : (b : Bool) (x : Result Header Refusal) (cs : List (List ℤ)) (t : Tables) (st : State) → Reads t (elim b as (λ y. After) [ true ↦ load_by x cs t st | false ↦ refuse Shape st t ])
unfolding laid
by_reads true (Err r) cs t st = stamps_same t
by_reads true (Ok h) cs t st = record { times = refl; links = refl }
by_reads false x cs t st = stamps_same t

pub start_reads : (s : Start) (t : Tables) (st : State) → Reads t (start_on s t st)
unfolding load_call join_call
start_reads (load text) t st = by_reads (long_ok t) (judge_text text) (text_clauses text) t st
start_reads (join left right links) t st = by_reads (long_ok t) (judge_join left right links) (join_clauses left right links) t st

pub propagate_reads : (steps : ℕ) (t : Tables) (st : State) → Reads t (propagate_call steps t st)
unfolding propagate_call propagate_from
propagate_reads steps t st = by (entry_of own.Propagate t st) refl
  where
    from : (fresh : Bool) (p : Progress) → Good st.v st.n p → tables_at p ≡ t → Reads t (propagate_from fresh steps p t st)
    from fresh p G e =
        let q = propagate_visits st.n steps 0 p in
        let S = subst (SameStamps t) (sym (replied_tables fresh t.clauses st q.visits q.progress)) (subst (λ (x : Tables). SameStamps x (tables_at q.progress)) e (visits_stamps st.v st.n steps 0 p G)) in
        record { times = S.times; links = S.links }

    by : (e : Result Entry Refusal) → entry_of own.Propagate t st ≡ e → Reads t (propagate_by e steps t st)
    by (Err r) q = stamps_same t
    by (Ok Opens) q = from false (begin st.n t) (begin_good st.v st.n t (entered_formed (opens_entered own.Propagate t st q) tt)) (begin_tables st.n t)
    by (Ok (Resumes k changed)) q = let E = resumes_entered own.Propagate t st k changed q in from st.fresh (going k changed t) (entered_formed E tt, (entered_cursor E).0) refl

pub merge_reads : (steps : ℕ) (t : Tables) (st : State) → Reads t (merge_call steps t st)
unfolding merge_call merged_classes
merge_reads steps t st = by (entry_of own.Merge t st)
  where
    opened : Reads t (merge_open steps t st)
    opened =
        open_cases steps st t (Reads t) (λ e. stamps_same t)
        (λ e. let u = merged_classes st.v st.n t in let S = advance_reads Merge false false (merge_clause u.variables) (merge_shrinks u.variables) steps 0 u st in record { times = S.times; links = S.links })

    by : (e : Result Entry Refusal) → Reads t (merge_by e steps t st)
    by (Err r) = stamps_same t
    by (Ok Opens) = settled_cases steps st t (Reads t) (stamps_same t) (λ e. opened)
    by (Ok (Resumes k changed)) = advance_reads Merge st.fresh st.fresh (merge_clause t.variables) (merge_shrinks t.variables) steps k t st

pub failed_reads : (t : Tables) (st : State) → Reads t (failed_call t st)
unfolding failed_call failed_fresh
failed_reads t st = by (opening_of t st)
  where
    unless : (b : Bool) → Reads t (failing.failed_unless_stale b t st)
    unless true = record { times = refl; links = refl }
    unless false = stamps_same t

    by : (o : Result (Unit {0}) Refusal) → Reads t (failed_by o t st)
    by (Err r) = stamps_same t
    by (Ok _) = unless st.fresh

pub sweep_reads : (steps : ℕ) (t : Tables) (st : State) → Reads t (sweep_call steps t st)
unfolding sweep_call
sweep_reads steps t st = by (entry_of own.Sweep t st)
  where
    unless : (b : Bool) (k : ℕ) → Reads t (sweeping.sweep_unless_stale b steps k t st)
    unless true k = let σ = columns t.times t.links in advance_reads Sweep true false (sweep_clause σ) (sweep_shrinks σ) steps k t st
    unless false k = stamps_same t

    by : (e : Result Entry Refusal) → Reads t (sweep_by e steps t st)
    by (Err r) = stamps_same t
    by (Ok Opens) = unless st.fresh 0
    by (Ok (Resumes k changed)) = unless st.fresh k

pub set_reads : (codes : List ℕ) (t : Tables) (st : State) → Reads t (set_call codes t st)
set_reads codes t st = subst (SameStamps t) (sym (set_tables codes t st)) (stamps_same t)
