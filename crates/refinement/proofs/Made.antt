-- What lists of calls on whole tables make of what stands, each call with at most 65,535 steps and none of them refused: nothing, one call, one list after another. Assumes nothing.
use Prim.Native.Nat.{◌≤◌}
use mathlib.Core.Path.{◌≡◌, refl, sym, ap, subst, ◌∙◌}
use mathlib.Core.List.{List, [], ◌∷◌, ◌++◌, append-nil}
use lib.ListN.{length, drop}
use lib.Seq.{take-length, drop-length}
use Rattle.state.specs.Answers.{Reply}
use Rattle.state.specs.declared.State.{State}
use Rattle.tables.specs.Tables.{Tables, tables}
use Rattle.tables.specs.Calls.{After}
use Rattle.settle.specs.Settle.{Standing, between}
use Rattle.settle.specs.Steps.{standing_in}
use Rattle.call_lists.specs.Lists.{Call, propagate, merge, stamp, failed, sweep, programme, Lent, lend, give_back, with_back, call_on, Step, step_on, Trail, steps_on}

-- ---- whole tables lent

abbrev wholly : Tables → Lent
wholly t = record { clauses = length t.clauses; literals = length t.literals; variables = length t.variables; times = length t.times; links = length t.links }

lend_wholly : (t : Tables) → lend (wholly t) t ≡ t
lend_wholly t = λ i. tables (take-length t.clauses i) (take-length t.literals i) (take-length t.variables i) (take-length t.times i) (take-length t.links i)

behind : {A : Type 0} (l m : List A) → m ++ drop (length l) l ≡ m
behind l m = ap (λ x. m ++ x) (drop-length l) ∙ append-nil m

back_wholly : (t u : Tables) → give_back (wholly t) t u ≡ u
back_wholly t u =
    λ i. tables (behind t.clauses u.clauses i) (behind t.literals u.literals i) (behind t.variables u.variables i) (behind t.times u.times i) (behind t.links u.links i)

-- a call on whole tables
abbrev whole_step : Call → Tables → Step
whole_step c t = record { call = c; lent = wholly t }

step_wholly : (c : Call) (t : Tables) (st : State) → step_on (whole_step c t) t st ≡ call_on c t st
unfolding step_on
step_wholly c t st =
    ap (λ (x : Tables). with_back (wholly t) t (call_on c x st)) (lend_wholly t)
    ∙ ap (λ (x : Tables). record { reply = (call_on c t st).reply; state = (call_on c t st).state; tables = x }) (back_wholly t (call_on c t st).tables)

-- ---- lists of calls

-- "n (0 to 65,535)"
abbrev pub Few : Call → Type 0
Few (propagate steps) = steps ≤ 65535
Few (merge steps) = steps ≤ 65535
Few (sweep steps) = steps ≤ 65535
Few (stamp order) = Unit {0}
Few failed = Unit {0}
Few (programme codes) = Unit {0}

abbrev pub AllFew : List Step → Type 0
AllFew [] = Unit {0}
AllFew (s ∷ ss) = Few s.call × AllFew ss

-- none is refused
abbrev pub AllMade : List Reply → Type 0
AllMade [] = Unit {0}
AllMade (r ∷ rs) = (r.number ≡ 0) × AllMade rs

abbrev pub left : Trail → Standing
left r = standing_in r.tables r.state

-- w' is what a list of calls makes of w
pub record Made (w w' : Standing) : Type 0 where
  pub calls : List Step
  pub few : AllFew calls
  pub taken : AllMade (steps_on calls w.tables w.state).replies
  pub ends : left (steps_on calls w.tables w.state) ≡ w'

pub made_none : (w : Standing) → Made w w
unfolding steps_on
made_none w = record { calls = []; few = tt; taken = tt; ends = refl }

pub made_call : (c : Call) → Few c → (w : Standing) → (call_on c w.tables w.state).reply.number ≡ 0 → Made w (between (call_on c w.tables w.state))
unfolding steps_on
made_call c h w taken = record {
  calls = whole_step c w.tables ∷ [];
  few = (h, tt);
  taken = (ap (λ (a : After). a.reply.number) (step_wholly c w.tables w.state) ∙ taken, tt);
  ends = ap between (step_wholly c w.tables w.state);
}

pub joined : (ss ss' : List Step) (t : Tables) (st : State) → left (steps_on (ss ++ ss') t st) ≡ left (steps_on ss' (steps_on ss t st).tables (steps_on ss t st).state)
unfolding steps_on
joined [] ss' t st = refl
joined (s ∷ ss) ss' t st = joined ss ss' (step_on s t st).tables (step_on s t st).state

joined_few : (ss ss' : List Step) → AllFew ss → AllFew ss' → AllFew (ss ++ ss')
joined_few [] ss' a b = b
joined_few (s ∷ ss) ss' a b = (a.0, joined_few ss ss' a.1 b)

joined_taken : (ss ss' : List Step) (t : Tables) (st : State) → AllMade (steps_on ss t st).replies → AllMade (steps_on ss' (steps_on ss t st).tables (steps_on ss t st).state).replies → AllMade (steps_on (ss ++ ss') t st).replies
unfolding steps_on
joined_taken [] ss' t st a b = b
joined_taken (s ∷ ss) ss' t st a b = (a.0, joined_taken ss ss' (step_on s t st).tables (step_on s t st).state a.1 b)

pub made_then : {w x y : Standing} → Made w x → Made x y → Made w y
made_then {w} {x} {y} A B = record {
  calls = A.calls ++ B.calls;
  few = joined_few A.calls B.calls A.few B.few;
  taken = joined_taken A.calls B.calls w.tables w.state A.taken (subst (λ (z : Standing). AllMade (steps_on B.calls z.tables z.state).replies) (sym A.ends) B.taken);
  ends = joined A.calls B.calls w.tables w.state ∙ ap (λ (z : Standing). left (steps_on B.calls z.tables z.state)) A.ends ∙ B.ends;
}
