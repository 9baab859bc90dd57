-- Any number of visits of Propagate, and the call, are lists of moves; and the moves say what the tables represent. So at every stopping point what stands has the same satisfying assignments. Assumes nothing.
use Prim.Native.Nat.{ℕ, zero, suc, ◌<◌}
use mathlib.Core.Path.{◌≡◌, refl, sym, subst}
use mathlib.Core.Bool.{Bool, true, false, ◌||◌}
use mathlib.Core.List.{List, [], ◌∷◌}
use lib.Dec.{ltb}
use lib.IntN.{ℤ}
use Rattle.base.specs.Lists.{any}
use Rattle.tables.specs.Tables.{Tables, length_of}
use Rattle.tables.specs.Tables as T
use Rattle.tables.specs.Values as values
use Rattle.tables.specs.Fates.{Fate, store, fate_at}
use Rattle.tables.specs.Fates as fates
use Rattle.propagate_visits.specs.Visits.{Progress, going, settled, contradicted, onward, changes, visited, not_false, remaining, propagate_clause, propagate_visit, propagate_visits}
use Rattle.propagate_visits.proofs.Parting.{fate_true, fate_left}
use Rattle.visits.proofs.StoreKeeps.{FormedIn, formed_cases}
use Rattle.propagate_visits.proofs.Stepping.{Good, visit_good}
use Rattle.moves.specs.Core as core
use Rattle.moves.specs.Moves.{Freshness, spent, Moves, stay, go}
use Rattle.refinement.specs.Represented.{Represented}
use Rattle.refinement.proofs.Propagated.{Simulated, literals_at, simulate_dropped, simulate_left, simulate_unit, simulate_conflict}

-- what the tables of a pass represent: under the mark where it has met the empty clause
abbrev pub Tied : ℕ → ℕ → Progress → core.Core → Type 0
Tied v n (going j changed t) k = Represented v n false t k
Tied v n (settled t) k = Represented v n false t k
Tied v n (contradicted t) k = Represented v n true t k

pub record Follows (v n : ℕ) (p : Progress) (k : core.Core) : Type 0 where
  pub to : core.Core
  pub moves : Moves v k spent to spent
  pub tied : Tied v n p to

onward_tied : (v n j : ℕ) (changed : Bool) (t : Tables) (k : core.Core) → Represented v n false t k → Tied v n (onward n j changed t) k
onward_tied v n j changed t k R = by (ltb j n) changed
  where
    by : (x y : Bool) → Tied v n (elim x as (λ z. Progress) [ true ↦ going j y t | false ↦ elim y as (λ z. Progress) [ true ↦ going 0 false t | false ↦ settled t ] ]) k
    by true y = R
    by false true = R
    by false false = R

-- the mark that a fate sets
abbrev sets : Fate → Bool
sets fates.kept = false
sets (fates.left D) = false
sets fates.dropped = false
sets (fates.unit l) = false
sets fates.conflict = true

fate_follows : (v n i : ℕ) (changed : Bool) (f : Fate) (t : Tables) (k : core.Core) → Simulated v n (sets f) (store i f t) k → Follows v n (visited n i changed f t) k
fate_follows v n i changed fates.kept t k S = record { to = S.to; moves = S.moves; tied = onward_tied v n (suc i) changed t S.to S.tied }
fate_follows v n i changed (fates.left D) t k S =
    record { to = S.to; moves = S.moves; tied = onward_tied v n (suc i) (changed || changes (length_of t.clauses i) (fates.left D)) (store i (fates.left D) t) S.to S.tied }
fate_follows v n i changed fates.dropped t k S = record { to = S.to; moves = S.moves; tied = onward_tied v n (suc i) true (store i fates.dropped t) S.to S.tied }
fate_follows v n i changed (fates.unit l) t k S = record { to = S.to; moves = S.moves; tied = onward_tied v n (suc i) true (store i (fates.unit l) t) S.to S.tied }
fate_follows v n i changed fates.conflict t k S = record { to = S.to; moves = S.moves; tied = S.tied }

module _ {v n : ℕ} {t : Tables} {k : core.Core} (F : FormedIn v n t) (R : Represented v n false t k) (i : ℕ) (lt : i < n) where
  by_remaining : T.standing t.clauses i ≡ 1 → (D : List ℤ) → not_false t.variables (literals_at t i) ≡ D → Simulated v n (sets (remaining D)) (store i (remaining D) t) k
  by_remaining e [] q = simulate_conflict F R i lt e q
  by_remaining e (x ∷ []) q = simulate_unit F R i lt e x q
  by_remaining e (x ∷ y ∷ D) q = subst (λ (C : List ℤ). Simulated v n false (store i (fates.left C) t) k) q (simulate_left F R i lt e)

  fate_simulated : Simulated v n (sets (fate_at (propagate_clause t.variables) i t)) (store i (fate_at (propagate_clause t.variables) i t) t) k
  fate_simulated =
      formed_cases t F i lt (propagate_clause t.variables) As (λ e. record { to = k; moves = stay; tied = R }) (by_test (any (values.is_true t.variables) (literals_at t i)) refl)
    where
      As : Fate → Type 0
      As f = Simulated v n (sets f) (store i f t) k

      by_test : (b : Bool) → any (values.is_true t.variables) (literals_at t i) ≡ b → T.standing t.clauses i ≡ 1 → As (propagate_clause t.variables (literals_at t i))
      by_test true h e = subst As (sym (fate_true t.variables (literals_at t i) h)) (simulate_dropped F R i lt e h)
      by_test false h e = subst As (sym (fate_left t.variables (literals_at t i) h)) (by_remaining e (not_false t.variables (literals_at t i)) refl)

  pub visit_follows : (changed : Bool) → Follows v n (propagate_visit n i changed t) k
  unfolding propagate_visit
  visit_follows changed = fate_follows v n i changed (fate_at (propagate_clause t.variables) i t) t k fate_simulated

-- moves after moves
pub moves_join : {v : ℕ} {a b : core.Core} {x y : Freshness} {c : core.Core} {z : Freshness} → Moves v a x b y → Moves v b y c z → Moves v a x c z
moves_join m stay = m
moves_join m (go n step) = go (moves_join m n) step

-- THE THEOREM: whatever number of visits a call makes, what it leaves is reached by moves
pub visits_follow : (v n m made : ℕ) (p : Progress) (k : core.Core) → Good v n p → Tied v n p k → Follows v n (propagate_visits n m made p).progress k
unfolding propagate_visits
visits_follow v n zero made p k G R = record { to = k; moves = stay; tied = R }
visits_follow v n (suc m) made (going i changed t) k G R =
    let one = visit_follows G.0 R i G.1 changed in
    let rest = visits_follow v n m (suc made) (propagate_visit n i changed t) one.to (visit_good v n i changed t G.0 G.1) one.tied in
    record { to = rest.to; moves = moves_join one.moves rest.moves; tied = rest.tied }
visits_follow v n (suc m) made (settled t) k G R = record { to = k; moves = stay; tied = R }
visits_follow v n (suc m) made (contradicted t) k G R = record { to = k; moves = stay; tied = R }
