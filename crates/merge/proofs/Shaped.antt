-- THE LAW: at every stop of Merge, refused calls included, the tables and the state keep the shape rule. Assumes nothing.
use Prim.Native.Nat.{ℕ, ◌+◌, ◌-◌, ◌≤◌, min}
use native.Mathlib.Omega.{arith}
use native.Mathlib.Nat.{min-le_right}
use mathlib.Core.Path.{◌≡◌, refl, sym, subst}
use mathlib.Core.Bool.{Bool, true, false, false≢true}
use lib.ListN.{length}
use Rattle.std.specs.Prelude.{Result, Ok, Err}
use Rattle.stamps.specs.Fresh.{FreshStamps}
use Rattle.state.specs.States.{opened, closed, marked}
use Rattle.state.specs.declared.State.{State}
use Rattle.programmes.specs.Rules.{Passing}
use Rattle.state.specs.declared.Pass.TheVariants.{Merge}
use Rattle.state.specs.declared.Refusal.{Refusal}
use Rattle.tables.specs.Tables.{Tables}
use Rattle.tables.specs.Fates.{visits}
use Rattle.tables.specs.Passes.{first_unsettled}
use Rattle.tables.specs.Calls.{After}
use Rattle.shape.specs.Shape.{Spread, Shape}
use Rattle.entry.specs.Entry.{entry_of}
use Rattle.entry.specs.declared.PassName.TheVariants as own
use Rattle.entry.specs.declared.Entry.{Entry}
use Rattle.entry.specs.declared.Entry.TheVariants.{Opens, Resumes}
use Rattle.visits.proofs.Forming.{formed_marked, formed_shape}
use Rattle.visits.proofs.Visiting.{Beside, visits_beside}
use Rattle.visits.proofs.StoreKeeps.{FormedTo, formed_shape_as}
use Rattle.visits.proofs.Advancing.{advance_cases}
use Rattle.merge.specs.Merge.{merged_classes, merge_from, merge_open, merge_by, merge_call}
use Rattle.merge_visits.specs.Clause.{merge_clause}
use Rattle.merge.proofs.Merged.{classes_formed, classes_spread}
use Rattle.merge_visits.proofs.Visiting.{merge_shrinks}
use Rattle.merge_visits.proofs.VisitKeeps.{formed_visits}
use Rattle.merge.proofs.Calling.{open_cases, settled_cases, opens_formed, resumes_resumable}

abbrev pub Shaped : After → Type 0
Shaped a = Shape a.tables a.state

-- ---- visits from clause k on

module _ (fresh : Bool) (steps k : ℕ) (t : Tables) (st : State) (F : FormedTo st.v st.n k t) (le : k ≤ st.n) (times : 4096 ≤ length t.times) (links : 4096 ≤ length t.links)
    (values : Spread st.v t.variables) (stamps : fresh ≡ true → FreshStamps st.v t.times t.links) (programme : Passing st.programme) where
  abbrev m : ℕ
  m = min steps (st.n - k)

  abbrev t' : Tables
  t' = visits (merge_clause t.variables) m k t

  ends : k + m ≤ st.n
  ends = omega (arith, min-le_right steps (st.n - k), le)

  F' : FormedTo st.v st.n (k + m) t'
  F' = formed_visits st.v st.n m k (k + m) t.variables t refl refl ends F

  B : Beside t t'
  B = visits_beside (merge_clause t.variables) (merge_shrinks t.variables) m k t

  values' : Spread st.v t'.variables
  values' = subst (Spread st.v) (sym B.variables) values

  pub from_shaped : Shaped (merge_from fresh steps k t st)
  from_shaped =
      advance_cases Merge fresh fresh (merge_clause t.variables) steps k t st Shaped
      (λ counts lt. formed_shape_as t t' (opened (Merge (k + m)) fresh st) B.stamps times links stamps F' values' (lt, refl) programme)
      (λ counts done.
      formed_shape_as t t' (closed fresh st) B.stamps times links stamps
      (subst (λ (x : ℕ). FormedTo st.v st.n x t') (let q : k + m ≡ st.n = omega (arith, ends, done) in q) F') values' tt programme)

-- ---- the call

module _ (steps : ℕ) (t : Tables) (st : State) (S : Shape t st) where
  open_shaped : FormedTo st.v st.n st.n t → first_unsettled t st.n ≡ st.n → Shaped (merge_open steps t st)
  unfolding merged_classes
  open_shaped F settled =
      open_cases steps st t Shaped
      (λ e. formed_shape t (marked st) (formed_marked F) S.long.times S.long.links S.values tt (λ z. absurd (false≢true z)) S.programme)
      (λ e. from_shaped false steps 0 (merged_classes st.v st.n t) st (classes_formed t F e settled) (omega arith) S.long.times S.long.links (classes_spread t F e settled S.values) (λ z. absurd (false≢true z)) S.programme)

  -- THE LAW
  pub merge_shaped : Shaped (merge_call steps t st)
  unfolding merge_call
  merge_shaped = go (entry_of own.Merge t st) refl
    where
      go : (x : Result Entry Refusal) → entry_of own.Merge t st ≡ x → Shaped (merge_by x steps t st)
      go (Err r) e = S
      go (Ok Opens) e = settled_cases steps st t Shaped S (open_shaped (opens_formed steps t st e))
      go (Ok (Resumes k changed)) e = let R = resumes_resumable t st k changed e in from_shaped st.fresh steps k t st R.formed R.within S.long.times S.long.links S.values S.stamps S.programme
