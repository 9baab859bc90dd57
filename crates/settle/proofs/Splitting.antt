-- A whole Propagate is a list of Propagate calls: visits can be divided among calls in any way, and each call goes on where the last one stopped. Assumes nothing.
use Prim.Native.Nat.{ℕ, zero, suc, ◌+◌, ◌≤◌}
use native.Mathlib.Omega.{arith}
use mathlib.Core.Path.{◌≡◌, refl, sym, ap, subst, ◌∙◌}
use mathlib.Core.Bool.{Bool, false}
use mathlib.Core.List.{List, []}
use Rattle.std.specs.Prelude.{Ok}
use Rattle.base.specs.Decide.{says_yes}
use Rattle.state.specs.States.{opened}
use Rattle.state.specs.declared.State.{State}
use Rattle.state.specs.declared.Pass.TheVariants.{Idle, Propagate}
use Rattle.tables.specs.Tables.{Tables}
use Rattle.tables.specs.Calls.{After}
use Rattle.shape.specs.Shape.{Shape}
use Rattle.shape.specs.Decision.{shape_agrees}
use Rattle.entry.specs.Entry.{entry_of}
use Rattle.entry.specs.declared.PassName.TheVariants as own
use Rattle.entry.specs.declared.Entry.TheVariants.{Opens, Resumes}
use Rattle.entry.proofs.Entering.{entry_shaped, entry_idle}
use Rattle.visits.specs.Formed.{Variables}
use Rattle.visits.proofs.StoreKeeps.{FormedIn}
use Rattle.visits.proofs.Entered.{entered_formed}
use Rattle.spread.specs.Spread.{spread_tables, spread_behind}
use Rattle.spread.proofs.Spreading.{spread_alike}
use Rattle.propagate.specs.Propagate.{replied, propagate_from, propagate_call}
use Rattle.propagate_visits.specs.Visits.{Progress, going, settled, contradicted, begin, propagate_visits, Reached}
use Rattle.propagate_visits.proofs.Splitting.{settled_stays, contradicted_stays, visits_split, made_free}
use Rattle.propagate.proofs.Calling.{call_opens, call_resumes}
use Rattle.propagate_visits.proofs.Stepping.{Good, visits_good}
use Rattle.propagate.proofs.Shaped.{tables_at, begin_good, propagate_shaped}
use Rattle.propagate.proofs.Unspread.{visits_resemble, resembling_replied}
use Rattle.settle.specs.Settle.{Standing, between, enough, propagated}

-- ---- where a call stops

-- the tables, their values spread, and the state, without the counts
abbrev pub stop : State → Progress → Standing
stop st q = between (spread_behind st.v (replied false [] st 0 q))

replied_stop : (before : List ℕ) (st st' : State) (m : ℕ) (q : Progress) → st'.v ≡ st.v → st'.n ≡ st.n → st'.programme ≡ st.programme → between (spread_behind st.v (replied false before st' m q)) ≡ stop st q
replied_stop before st st' m (going k changed t) e d f = cc
replied_stop before st st' m (settled t) e d f = cc
replied_stop before st st' m (contradicted t) e d f = cc

from_stop : (steps : ℕ) (p : Progress) (t : Tables) (st : State) → between (propagate_from false steps p t st) ≡ stop st (propagate_visits st.n steps 0 p).progress
unfolding propagate_from
from_stop steps p t st = replied_stop t.clauses st st (propagate_visits st.n steps 0 p).visits (propagate_visits st.n steps 0 p).progress refl refl refl

-- visits are no refusal
from_taken : (fresh : Bool) (steps : ℕ) (p : Progress) (t : Tables) (st : State) → (propagate_from fresh steps p t st).reply.number ≡ 0
unfolding propagate_from
from_taken fresh steps p t st = by (propagate_visits st.n steps 0 p).progress
  where
    by : (q : Progress) → (replied fresh t.clauses st (propagate_visits st.n steps 0 p).visits q).reply.number ≡ 0
    by (going k changed u) = refl
    by (settled u) = refl
    by (contradicted u) = refl

-- what calls of Propagate, of at most 65,535 steps each and none of them refused, make of w
pub data Calls (w : Standing) : Standing → Type 0 where
  none : Calls w w
  more : {x : Standing} → Calls w x → (steps : ℕ) → steps ≤ 65535 → (propagate_call steps x.tables x.state).reply.number ≡ 0 → Calls w (between (propagate_call steps x.tables x.state))

pub calls_shaped : {w x : Standing} → Calls w x → Shape w.tables w.state → Shape x.tables x.state
calls_shaped none S = S
calls_shaped (more {x} C steps h taken) S = propagate_shaped steps x.tables x.state (calls_shaped C S)

-- the variables' records where a pass stands
good_rows : (v n : ℕ) (q : Progress) → Good v n q → Variables v (tables_at q).variables
good_rows v n (going k changed t) G = G.0.vars
good_rows v n (settled t) G = G.vars
good_rows v n (contradicted t) G = G.vars

module _ (t : Tables) (st : State) (S : Shape t st) (idle : st.pass ≡ Idle) (unmarked : st.mark ≡ false) where
  F : FormedIn st.v st.n t
  F = entered_formed (record { shape = S; pass = idle; unmarked = unmarked }) tt

  -- after m visits
  abbrev after : ℕ → Progress
  after m = (propagate_visits st.n m 0 (begin st.n t)).progress

  opens : Calls (record { tables = t; state = st }) (stop st (after 0))
  opens = subst (Calls (record { tables = t; state = st })) (ap between (sym (call_opens 0 t st entry)) ∙ from_stop 0 (begin st.n t) t st)
      (more none 0 (omega arith) (sym (ap (λ (a : After). a.reply.number) (call_opens 0 t st entry)) ∙ from_taken false 0 (begin st.n t) t st))
    where
      entry : entry_of own.Propagate t st ≡ Ok Opens
      entry = entry_idle t st (sym (shape_agrees t st (says_yes S))) idle unmarked own.Propagate

  -- a call of b steps more: that it goes on from values that are spread makes no difference
  resumes : (b : ℕ) → b ≤ 65535 → (q : Progress) → Good st.v st.n q → Calls (record { tables = t; state = st }) (stop st q) → Calls (record { tables = t; state = st }) (stop st (propagate_visits st.n b 0 q).progress)
  resumes b h (going k changed u) G C =
      subst (Calls (record { tables = t; state = st }))
      (ap between (sym (call_resumes b x (opened (Propagate k changed) false st) k changed entry)) ∙ from_stop b (going k changed x) x (opened (Propagate k changed) false st)
      ∙ replied_stop [] st (opened (Propagate k changed) false st) 0 (propagate_visits st.n b 0 (going k changed x)).progress refl refl refl
      ∙ ap between (resembling_replied st.v false [] st 0 (propagate_visits st.n b 0 (going k changed u)).progress (propagate_visits st.n b 0 (going k changed x)).progress
      (good_rows st.v st.n (propagate_visits st.n b 0 (going k changed u)).progress (visits_good st.v st.n b 0 (going k changed u) G))
      (visits_resemble st.v st.n b 0 (going k changed u) (going k changed x) G (record { variables = x.variables; alike = spread_alike G.0.vars; is = refl }))))
      (more C b h (sym (ap (λ (a : After). a.reply.number) (call_resumes b x (opened (Propagate k changed) false st) k changed entry)) ∙ from_taken false b (going k changed x) x (opened (Propagate k changed) false st)))
    where
      x : Tables
      x = spread_tables st.v u

      entry : entry_of own.Propagate x (opened (Propagate k changed) false st) ≡ Ok (Resumes k changed)
      entry = entry_shaped own.Propagate x (opened (Propagate k changed) false st) (sym (shape_agrees x (opened (Propagate k changed) false st) (says_yes (calls_shaped C S))))
  resumes b h (settled u) G C = subst (λ (r : Reached). Calls (record { tables = t; state = st }) (stop st r.progress)) (sym (settled_stays st.n b 0 u)) C
  resumes b h (contradicted u) G C = subst (λ (r : Reached). Calls (record { tables = t; state = st }) (stop st r.progress)) (sym (contradicted_stays st.n b 0 u)) C

  -- in any division: from a visits to a + b by one call
  pub more_visits : (a b : ℕ) → b ≤ 65535 → Calls (record { tables = t; state = st }) (stop st (after a)) → Calls (record { tables = t; state = st }) (stop st (after (a + b)))
  more_visits a b h C =
      subst (λ (q : Progress). Calls (record { tables = t; state = st }) (stop st q))
      (made_free st.n b 0 (propagate_visits st.n a 0 (begin st.n t)).visits (after a) ∙ sym (ap (λ (r : Reached). r.progress) (visits_split st.n a b 0 (begin st.n t)))) (resumes b h (after a) (visits_good st.v st.n a 0 (begin st.n t) (begin_good st.v st.n t F)) C)

  -- any number of visits
  pub visits_calls : (m : ℕ) → Calls (record { tables = t; state = st }) (stop st (after m))
  visits_calls zero = opens
  visits_calls (suc m) =
      subst (λ (x : ℕ). Calls (record { tables = t; state = st }) (stop st (after x))) (let e : m + 1 ≡ suc m = omega arith in e) (more_visits m 1 (omega arith) (visits_calls m))

  -- THE THEOREM: a whole Propagate
  pub whole_calls : Calls (record { tables = t; state = st }) (propagated (record { tables = t; state = st }))
  whole_calls = subst (Calls (record { tables = t; state = st })) (sym (from_stop (enough t st) (begin st.n t) t st)) (visits_calls (enough t st))
