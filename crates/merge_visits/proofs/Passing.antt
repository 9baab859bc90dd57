-- The loop over the clauses: the visits that are left, from here, give what all of them give. Assumes nothing.
use Prim.Native.Nat.{ℕ, suc, ◌+◌, ◌-◌, ◌≤◌, ◌<◌}
use native.Mathlib.Numerals.{add-one}
use native.Mathlib.Omega.{arith}
use mathlib.Core.Path.{◌≡◌, sym, subst, ◌∙◌}
use mathlib.Core.List.{List, []}
use lib.ListN.{length}
use lib.IntN.{ℤ}
use Rattle.tables.specs.Tables.{tables}
use Rattle.tables.specs.Fates.{visit, visits}
use Rattle.visits.specs.Visited.{Visitable}
use Rattle.visits.proofs.StoreKeeps.{FormedTo}
use Rattle.visits.proofs.Visiting.{visits_next, visits_none}
use Rattle.merge_visits.specs.Clause.{merge_clause}
use Rattle.merge_visits.specs.Visits.{Mergeable}
use Rattle.merge_visits.proofs.VisitKeeps.{formed_visit}

pub record Passing (k end i : ℕ) (w : List ℤ) (c₀ : List ℕ) (l₀ : List ℤ) (c : List ℕ) (l : List ℤ) : Type 0 where
  pub mergeable : Mergeable i end c l w
  pub sizes : (length c ≡ length c₀) × (length l ≡ length l₀)
  pub left : (times : List ℕ) (links : List ℤ) → visits (merge_clause w) (end - i) i (tables c l w times links) ≡ visits (merge_clause w) (end - k) k (tables c₀ l₀ w times links)

module _ {k end i : ℕ} {w : List ℤ} {c₀ : List ℕ} {l₀ : List ℤ} {c : List ℕ} {l : List ℤ} (P : Passing k end i w c₀ l₀ c l) (more : i < end) where
  pub passing_one : Visitable i c l w
  passing_one = record { vars = P.mergeable.vars; number = P.mergeable.number; settled = i; formed = P.mergeable.formed; below = omega (arith, P.mergeable.within) }

  pub passing_next : (c' : List ℕ) (l' : List ℤ) → ((times : List ℕ) (links : List ℤ) → tables c' l' w times links ≡ visit (merge_clause w) i (tables c l w times links))
      → length c' ≡ length c → length l' ≡ length l → Passing k end (i + 1) w c₀ l₀ c' l'
  passing_next c' l' one lc ll = record {
    mergeable = record {
      vars = P.mergeable.vars;
      number = P.mergeable.number;
      formed = subst (λ (x : ℕ). FormedTo P.mergeable.vars P.mergeable.number x (tables c' l' w [] [])) (sym (add-one i)) next;
      onward = omega arith;
      within = P.mergeable.within;
    };
    sizes = (lc ∙ P.sizes.0, ll ∙ P.sizes.1);
    left = λ times links. visits_next (merge_clause w) (tables c l w times links) (let e : end - i ≡ suc (end - (i + 1)) = omega arith in e) (add-one i) (one times links) ∙ P.left times links;
  }
    where
      next : FormedTo P.mergeable.vars P.mergeable.number (suc i) (tables c' l' w [] [])
      next = subst (FormedTo P.mergeable.vars P.mergeable.number (suc i)) (sym (one [] [])) (formed_visit P.mergeable.vars P.mergeable.number i (tables c l w [] []) P.mergeable.formed (omega (arith, P.mergeable.within)))

-- no visit is left
pub passing_done : {k end i : ℕ} {w : List ℤ} {c₀ : List ℕ} {l₀ : List ℤ} {c : List ℕ} {l : List ℤ} → Passing k end i w c₀ l₀ c l → end ≤ i → (times : List ℕ) (links : List ℤ)
    → tables c l w times links ≡ visits (merge_clause w) (end - k) k (tables c₀ l₀ w times links)
passing_done {end = end} {i} {w} {c = c} {l = l} P h times links = visits_none (merge_clause w) i (let e : end - i ≡ 0 = omega arith in e) (tables c l w times links) ∙ P.left times links
