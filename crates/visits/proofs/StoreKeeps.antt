-- Storing what a visit finds keeps the tables formed: a clause that is shortened, or dropped. And what then is asked for the shape rule. Assumes nothing.
use Prim.Native.Nat.{ℕ, ◌≤◌, ◌<◌}
use native.Mathlib.Omega.{arith}
use mathlib.Core.Path.{◌≡◌, refl, sym, ap, subst, subst₂, ◌∙◌}
use mathlib.Core.Bool.{Bool, true, false, false≢true}
use mathlib.Core.List.{List, []}
use lib.ListN.{length}
use lib.Dec.{ltb}
use lib.IntN.{ℤ}
use Rattle.stamps.specs.Fresh.{FreshStamps}
use Rattle.state.specs.declared.State.{State}
use Rattle.programmes.specs.Rules.{Passing}
use Rattle.tables.specs.Tables.{Tables, length_of, standing}
use Rattle.tables.specs.Clauses.{literals_of}
use Rattle.tables.specs.Fates.{Fate, kept, fate_at, shortened, dropped_at}
use Rattle.shape.specs.Shape.{Spread, settled_to, Cursor, Shape}
use Rattle.visits.specs.Formed.{Formed, FitClause}
use Rattle.visits.proofs.Stores.{recorded, stored_at, stored_formed}
use Rattle.visits.proofs.Fitting.{fit_none}
use Rattle.visits.proofs.Forming.{recorded_same, stands_one, formed_shape}
use Rattle.visits.proofs.Visiting.{fate_cases, SameStamps}

-- the tables of a state without the mark, whose first s clauses are settled
abbrev pub FormedTo : ℕ → ℕ → ℕ → Tables → Type 0
FormedTo v n s t = Formed v n s false t.clauses t.literals t.variables

-- and in which every clause is settled
abbrev pub FormedIn : ℕ → ℕ → Tables → Type 0
FormedIn v n t = FormedTo v n n t

-- clause k gets its fate; the first s' clauses are settled after it, which were before it, clause k apart
module _ {v n s : ℕ} (t : Tables) (F : FormedTo v n s t) (k : ℕ) (lt : k < n) (s' : ℕ) (sooner : (j : ℕ) → j < n → (j ≡ k → ⊥) → ltb j s' ≡ true → ltb j s ≡ true) where
  -- a clause that keeps a part of its literals: none of them only under the mark
  pub formed_shortened : (mark' : Bool) (C : List ℤ) → standing t.clauses k ≡ 1 → FitClause v t.variables (ltb k s') C → length C ≤ length_of t.clauses k → (length C ≡ 0 → mark' ≡ true)
      → Formed v n s' mark' (shortened k C t).clauses (shortened k C t).literals (shortened k C t).variables
  unfolding shortened
  formed_shortened mark' C stands fit short marked =
      subst (λ (x : List ℕ). Formed v n s' mark' x (stored_at t.clauses t.literals k C) t.variables) (ap (recorded t.clauses k (length C)) (sym stands) ∙ recorded_same t.clauses k (length C))
      (stored_formed F k lt C 1 short s' mark' (omega arith) (λ z. absurd (omega (arith, z))) fit (λ o z. marked z) (λ m. absurd (false≢true m)) sooner)

  -- a clause that is dropped
  pub formed_dropped : FormedTo v n s' (dropped_at k t.variables t)
  unfolding dropped_at
  formed_dropped = stored_formed F k lt [] 0 (omega arith) s' false (omega arith) (λ z. refl) fit_none (λ o z. absurd (omega (arith, o))) (λ m. m) sooner

-- the fate of a clause of formed tables, by its flag
pub formed_cases : {v n s : ℕ} {mark : Bool} (t : Tables) → Formed v n s mark t.clauses t.literals t.variables → (k : ℕ) → k < n → (rule : List ℤ → Fate) (P : Fate → Type 0) → (standing t.clauses k ≡ 0 → P kept)
    → (standing t.clauses k ≡ 1 → P (rule (literals_of t.clauses t.literals k))) → P (fate_at rule k t)
formed_cases t F k lt rule P none some = fate_cases rule k t P none (λ d. some (stands_one F k lt d))

-- tables that are formed, and whose stamp records are those of tables that have them long enough, and fresh if the state says so
pub formed_shape_as : (t u : Tables) (st : State) → SameStamps t u → 4096 ≤ length t.times → 4096 ≤ length t.links → (st.fresh ≡ true → FreshStamps st.v t.times t.links)
    → Formed st.v st.n (settled_to st.pass st.n) st.mark u.clauses u.literals u.variables → Spread st.v u.variables → Cursor st.pass st.n st.mark → Passing st.programme → Shape u st
formed_shape_as t u st S times links fresh F values cursor programme =
    formed_shape u st F (subst (λ (x : List ℕ). 4096 ≤ length x) (sym S.times) times) (subst (λ (x : List ℤ). 4096 ≤ length x) (sym S.links) links) values cursor
    (λ e. subst₂ (FreshStamps st.v) (sym S.times) (sym S.links) (fresh e)) programme
