-- A visit to a clause, by any rule that gives its fate: what it is to a dropped clause and to a standing one, and what it leaves beside the clauses. Assumes nothing.
use Prim.Native.Nat.{ℕ, zero, suc}
use mathlib.Core.Path.{◌≡◌, refl, sym, ap, subst, ◌∙◌}
use mathlib.Core.Logic.{⊎_elim}
use mathlib.Core.List.{List}
use lib.IntN.{ℤ}
use Rattle.base.specs.Decide.{same_or}
use Rattle.tables.specs.Tables.{Tables, standing}
use Rattle.tables.specs.Clauses.{literals_of}
use Rattle.tables.specs.Fates.{Fate, kept, left, dropped, unit, conflict, store, fate_at, visit, visits, shortened, dropped_at}

-- ---- a dropped clause, and a standing one

module _ (rule : List ℤ → Fate) (k : ℕ) (t : Tables) where
  pub fate_dropped : standing t.clauses k ≡ 0 → fate_at rule k t ≡ kept
  unfolding fate_at
  fate_dropped e = rw (e, fate_at)

  pub fate_standing : (standing t.clauses k ≡ 0 → ⊥) → fate_at rule k t ≡ rule (literals_of t.clauses t.literals k)
  unfolding fate_at
  fate_standing = by_flag (standing t.clauses k)
    where
      by_flag : (flag : ℕ) → (flag ≡ 0 → ⊥) → elim flag as (λ x. Fate) [ zero ↦ kept | suc _ ↦ rule (literals_of t.clauses t.literals k) ] ≡ rule (literals_of t.clauses t.literals k)
      by_flag zero d = absurd (d refl)
      by_flag (suc x) d = refl

  -- so what holds of both fates holds of the clause's
  pub fate_cases : (P : Fate → Type 0) → (standing t.clauses k ≡ 0 → P kept) → ((standing t.clauses k ≡ 0 → ⊥) → P (rule (literals_of t.clauses t.literals k))) → P (fate_at rule k t)
  fate_cases P none some =
      ⊎_elim (λ (e : standing t.clauses k ≡ 0). subst P (sym (fate_dropped e)) (none e)) (λ (d : standing t.clauses k ≡ 0 → ⊥). subst P (sym (fate_standing d)) (some d)) (same_or (standing t.clauses k) 0)

  pub visit_dropped : standing t.clauses k ≡ 0 → visit rule k t ≡ t
  visit_dropped e = ap (λ (f : Fate). store k f t) (fate_dropped e)

  pub visit_standing : (standing t.clauses k ≡ 0 → ⊥) → visit rule k t ≡ store k (rule (literals_of t.clauses t.literals k)) t
  visit_standing d = ap (λ (f : Fate). store k f t) (fate_standing d)

-- ---- the visits that are left

module _ (rule : List ℤ → Fate) where
  -- the next visit, and those after it
  pub visits_next : {m m' k k' : ℕ} (t : Tables) {t' : Tables} → m ≡ suc m' → k' ≡ suc k → t' ≡ visit rule k t → visits rule m' k' t' ≡ visits rule m k t
  unfolding visits
  visits_next {m' = m'} {k = k} t few next one = (λ i. visits rule m' (next i) (one i)) ∙ ap (λ (m : ℕ). visits rule m k t) (sym few)

  pub visits_none : {m : ℕ} (k : ℕ) → m ≡ 0 → (t : Tables) → t ≡ visits rule m k t
  unfolding visits
  visits_none k none t = ap (λ (m : ℕ). visits rule m k t) (sym none)

-- ---- what a visit leaves beside the clauses

-- the stamp records are as they were
pub record SameStamps (t u : Tables) : Type 0 where
  pub times : u.times ≡ t.times
  pub links : u.links ≡ t.links

pub stamps_same : (t : Tables) → SameStamps t t
stamps_same t = record { times = refl; links = refl }

pub stamps_join : {t u w : Tables} → SameStamps t u → SameStamps u w → SameStamps t w
stamps_join a b = record { times = b.times ∙ a.times; links = b.links ∙ a.links }

pub store_stamps : (k : ℕ) (f : Fate) (t : Tables) → SameStamps t (store k f t)
unfolding shortened dropped_at
store_stamps k kept t = record { times = refl; links = refl }
store_stamps k (left C) t = record { times = refl; links = refl }
store_stamps k dropped t = record { times = refl; links = refl }
store_stamps k (unit l) t = record { times = refl; links = refl }
store_stamps k conflict t = record { times = refl; links = refl }

-- a fate that only takes literals or the clause away: no value is set, and the clause is not found empty
pub data Shrinks : Fate → Type 0 where
  stays : Shrinks kept
  leaves : (C : List ℤ) → Shrinks (left C)
  drops : Shrinks dropped

-- the variables are as they were too
pub record Beside (t u : Tables) : Type 0 where
  pub variables : u.variables ≡ t.variables
  pub stamps : SameStamps t u

pub store_beside : (k : ℕ) (t : Tables) {f : Fate} → Shrinks f → Beside t (store k f t)
unfolding shortened dropped_at
store_beside k t stays = record { variables = refl; stamps = stamps_same t }
store_beside k t (leaves C) = record { variables = refl; stamps = record { times = refl; links = refl } }
store_beside k t drops = record { variables = refl; stamps = record { times = refl; links = refl } }

module _ (rule : List ℤ → Fate) (shrinks : (C : List ℤ) → Shrinks (rule C)) where
  pub visit_beside : (k : ℕ) (t : Tables) → Beside t (visit rule k t)
  visit_beside k t = store_beside k t (fate_cases rule k t Shrinks (λ e. stays) (λ d. shrinks (literals_of t.clauses t.literals k)))

  pub visits_beside : (m k : ℕ) (t : Tables) → Beside t (visits rule m k t)
  unfolding visits
  visits_beside zero k t = record { variables = refl; stamps = stamps_same t }
  visits_beside (suc m) k t =
      let one = visit_beside k t in
      let rest = visits_beside m (suc k) (visit rule k t) in
      record { variables = rest.variables ∙ one.variables; stamps = stamps_join one.stamps rest.stamps }
