-- A refused call for C leaves the state and the tables as they are: its result is 0, or nothing changed but the first number of the answer. The calls that take the window are in RefusedWith. Assumes nothing.
use Prim.Native.Nat.{ℕ, zero, suc, ◌-◌}
use native.Mathlib.Omega.{arith}
use mathlib.Core.Bool.{Bool, true, false}
use mathlib.Core.Path.{◌≡◌, refl, ap, ◌∙◌}
use mathlib.Core.Logic.{◌⊎◌, inl, inr}
use mathlib.Core.List.{List}
use lib.ListN.{length, drop, replicate, length-append, length-replicate}
use lib.IntN.{ℤ, pos}
use Rattle.state.specs.Answers.{result_by}
use Rattle.state.specs.Programmes.{programme_of, constant_programme}
use Rattle.state.specs.declared.State.{State}
use Rattle.state.specs.declared.Programme.{Programme}
use Rattle.state.specs.declared.Refusal.TheVariants.{Shape}
use Rattle.programmes.proofs.Judging.{judge_exact}
use Rattle.tables.specs.Tables.{Tables}
use Rattle.tables.specs.Long.{long_ok}
use Rattle.tables.specs.Calls.{After, refuse}
use Rattle.dimacs.specs.Text.{judge_text, text_clauses}
use Rattle.join.specs.Join.{judge_join, join_clauses}
use Rattle.load.specs.Load.{load_by, load_formula, load_call, join_call}
use Rattle.propagate.specs.Propagate.{propagate_call}
use Rattle.merge.specs.Merge.{merge_call}
use Rattle.stamp.specs.Stamp.{stamp_call}
use Rattle.failed.specs.Failed.{failed_call}
use Rattle.sweep.specs.Sweep.{sweep_call}
use Rattle.run.specs.Run.{run_call}
use Rattle.run.proofs.Ways.{Way, propagate_way, merge_way, stamp_way, failed_way, sweep_way, run_way}
use Rattle.set_programme.specs.SetProgramme.{set_call}
use Rattle.set_programme.proofs.Setting.{set_cases}
use Rattle.c_numbers.specs.StateNumbers.{state_of}
use Rattle.c_numbers.specs.CCalls.{ready, put_answer_by, put_answer, refuse_unread, AfterC, after_c, put_state_by, told, call_c}
use Rattle.c_numbers.proofs.Answered.{unread_behind}
use Rattle.c_numbers.proofs.StateBack.{Placed}
use Rattle.std.specs.Prelude.{Result, Ok, Err}
use Rattle.dimacs.specs.declared.Header.{Header}
use Rattle.state.specs.declared.Refusal.{Refusal}

-- the call was made, and the programme has its places if it had them, or the state and the tables are as they were
abbrev pub Kept : Tables → State → After → Type 0
Kept t st a = ((a.reply.number ≡ 0) × (Placed st → Placed a.state)) ⊎ ((a.state ≡ st) × (a.tables ≡ t))

-- so it is of a call on any tables and state
abbrev pub Keeps : (Tables → State → After) → Type 0
Keeps call = (t : Tables) (st : State) → Kept t st (call t st)

-- ---- the calls

-- a call of a pass or of Run leaves the programme as it was
way_keeps : (t : Tables) (st : State) (a : After) → Way t st a → Kept t st a
way_keeps t st a (inl made) = inl (made.0, λ placed. ap (λ (p : Programme). length p.codes) made.1.programme ∙ placed)
way_keeps t st a (inr kept) = inr kept

-- a formula by its verdict, into the tables alone: a load or a join
formula_keeps : (verdict : Result Header Refusal) (cs : List (List ℤ)) → Keeps (load_formula verdict cs)
unfolding constant_programme programme_of
formula_keeps verdict cs t st = by (long_ok t)
  where
    judged : (v : Result Header Refusal) → Kept t st (load_by v cs t st)
    judged (Err r) = inr (refl, refl)
    judged (Ok h) = inl (refl, λ placed. refl)

    by : (b : Bool) → Kept t st (elim b as (λ x. After) [ true ↦ load_by verdict cs t st | false ↦ refuse Shape st t ])
    by true = judged verdict
    by false = inr (refl, refl)

pub load_keeps : (text : List ℕ) → Keeps (load_call text)
unfolding load_call
load_keeps text = formula_keeps (judge_text text) (text_clauses text)

pub join_keeps : (left right links : List ℕ) → Keeps (join_call left right links)
unfolding join_call
join_keeps left right links = formula_keeps (judge_join left right links) (join_clauses left right links)

set_keeps : (codes : List ℕ) → Keeps (set_call codes)
unfolding programme_of
set_keeps codes t st = set_cases codes t st (Kept t st) (λ e. inr (refl, refl)) (λ index q. inr (refl, refl))
    (λ e q. let few = ((judge_exact codes).0 q).few in inl (refl, λ placed. length-append codes (replicate (32 - length codes) 0) ∙ omega (arith, few, length-replicate {A = ℕ} (32 - length codes) 0)))

-- all that do not take the window
pub calls_keep : (codes : List ℕ) (order : List ℤ) (n : ℕ) → Keeps (propagate_call n) × Keeps (merge_call n) × Keeps (stamp_call order) × Keeps failed_call × Keeps (sweep_call n) × Keeps (run_call n) × Keeps (set_call codes)
calls_keep codes order n = (
  λ t st. way_keeps t st (propagate_call n t st) (propagate_way n t st),
  λ t st. way_keeps t st (merge_call n t st) (merge_way n t st),
  λ t st. way_keeps t st (stamp_call order t st) (stamp_way order t st),
  λ t st. way_keeps t st (failed_call t st) (failed_way t st),
  λ t st. way_keeps t st (sweep_call n t st) (sweep_way n t st),
  λ t st. way_keeps t st (run_call n t st) (run_way n t st),
  set_keeps codes,
)

-- ---- for C

-- the result is 0, or the numbers of the answer behind the first, the state and the tables are as they were
abbrev pub LeftBy : Tables → List ℕ → List ℕ → AfterC → Type 0
LeftBy t s a x = (x.result ≡ pos 0) ⊎ ((drop 1 x.answer ≡ drop 1 a) × (x.state ≡ s) × (x.tables ≡ t))

told_leaves : (m : After) (t : Tables) (st : State) (s a : List ℕ) → Kept t st m → LeftBy t s a (told m s a)
unfolding told put_answer
told_leaves m t st s a (inl made) = inl (ap (λ (n : ℕ). result_by n 0) made.0)
told_leaves m t st s a (inr kept) = numbered m.reply.number
  where
    numbered : (n : ℕ) → (result_by n 0 ≡ pos 0) ⊎ ((drop 1 (put_answer_by n m.reply a) ≡ drop 1 a) × (put_state_by n m.state s ≡ s) × (m.tables ≡ t))
    numbered zero = inl refl
    numbered (suc n) = inr (refl, refl, kept.1)

-- THE LAW, with `calls_keep` for each call
pub refused_leaves : (call : Tables → State → After) → Keeps call → (t : Tables) (s a : List ℕ) → LeftBy t s a (call_c call t s a)
unfolding call_c
refused_leaves call keeps t s a = reading (ready s a)
  where
    reading : (b : Bool) → LeftBy t s a (elim b as (λ _. AfterC) [ true ↦ told (call t (state_of s)) s a | false ↦ after_c (result_by 1 0) (refuse_unread a) s t ])
    reading true = told_leaves (call t (state_of s)) t (state_of s) s a (keeps t (state_of s))
    reading false = inr (unread_behind a, refl, refl)
