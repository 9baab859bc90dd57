-- A visit keeps the tables formed and moves the bound of the settled clauses past the one that it visits. Assumes nothing.
use Prim.Native.Nat.{ℕ, zero, suc, ◌+◌, ◌≤◌, ◌<◌}
use native.Mathlib.Omega.{arith}
use mathlib.Core.Path.{◌≡◌, refl, sym, ap, subst, ◌∙◌}
use mathlib.Core.Bool.{Bool, true, false}
use mathlib.Core.Logic.{⊎_elim}
use mathlib.Core.List.{List, map}
use lib.ListN.{length, get_or, length-map}
use lib.Dec.{ltb}
use lib.IntN.{ℤ, pos}
use borrow.Author.Tests.{lt-ltb, ltb-true}
use Rattle.base.specs.Decide.{same_or}
use Rattle.literal.specs.Clauses.{tautology}
use Rattle.tables.specs.Tables.{Tables, length_of, standing}
use Rattle.tables.specs.Values.{class_literal}
use Rattle.tables.specs.Clauses.{literals_of}
use Rattle.tables.specs.Fates.{Fate, left, dropped, store, visit, visits}
use Rattle.visits.specs.Formed.{FitClause, Known}
use Rattle.visits.proofs.Forming.{clause_fits, part_length}
use Rattle.visits.proofs.StoreKeeps.{FormedTo, formed_shortened, formed_dropped, formed_cases}
use Rattle.visits.proofs.Visiting.{visit_beside}
use Rattle.visits.proofs.Known.{class_ranged, class_own}
use Rattle.merge_visits.specs.Clause.{merge_clause}
use Rattle.merge_visits.specs.Visits.{substituted}
use Rattle.repeats.proofs.Repeats.{distinct_short, distinct_none, distinct_all, distinct_once, all_map}
use Rattle.merge_visits.proofs.Repeats.{Own, once_fits}
use Rattle.merge_visits.proofs.Visiting.{merge_shrinks}

module _ (v n k : ℕ) (t : Tables) (F : FormedTo v n k t) (lt : k < n) where
  -- a clause other than k that is to be settled after the visit was settled before it
  sooner : (j : ℕ) → j < n → (j ≡ k → ⊥) → ltb j (suc k) ≡ true → ltb j k ≡ true
  sooner j lj d e = lt-ltb j k (let h : j < suc k = ltb-true j (suc k) e in omega arith)

  -- a dropped clause has no literals, so it is settled
  formed_kept : standing t.clauses k ≡ 0 → FormedTo v n (suc k) t
  formed_kept z = record {
    number = F.number;
    records = F.records;
    places = F.places;
    rule = record {
      parts = F.rule.parts;
      each = λ j lj. record {
        ranged = (F.rule.each j lj).ranged;
        once = (F.rule.each j lj).once;
        own = λ e i h.
            ⊎_elim
            (λ (s : j ≡ k). absurd (omega (arith, h, ap (length_of t.clauses) s, F.rule.parts.dropped k lt z)))
            (λ (d : j ≡ k → ⊥). (F.rule.each j lj).own (sooner j lj d e) i h)
            (same_or j k);
      };
      empty = F.rule.empty;
    };
    vars = F.vars;
  }

  abbrev C : List ℤ
  C = literals_of t.clauses t.literals k

  abbrev D : List ℤ
  D = substituted t.variables C

  pub mapped : length (map (class_literal t.variables) C) ≡ length_of t.clauses k
  mapped = length-map C (class_literal t.variables) ∙ part_length F k lt

  -- each class literal is a literal of the variables and its own class
  own_literal : (i : ℕ) → i < length C → Own v t.variables (class_literal t.variables (get_or C i (pos 0)))
  own_literal i h = record { ranged = class_ranged K; own = class_own K }
    where
      K : Known t.variables (get_or C i (pos 0))
      K = record { count = v; rows = F.vars; ranged = (clause_fits F k lt).ranged i h }

  fits : tautology D ≡ false → FitClause v t.variables (ltb k (suc k)) D
  fits e =
      once_fits v t.variables (ltb k (suc k)) D
      (distinct_all (Own v t.variables) (map (class_literal t.variables) C) (all_map (Own v t.variables) (class_literal t.variables) C own_literal))
      (distinct_once (map (class_literal t.variables) C))
      e

  -- no clause stands empty
  some_left : standing t.clauses k ≡ 1 → length D ≡ 0 → false ≡ true
  some_left stands z =
      F.rule.empty k lt stands (sym mapped ∙ distinct_none (map (class_literal t.variables) C) z)

  formed_standing : standing t.clauses k ≡ 1 → FormedTo v n (suc k) (store k (merge_clause t.variables C) t)
  unfolding merge_clause
  formed_standing stands = go (tautology D) refl
    where
      go : (b : Bool) → tautology D ≡ b → FormedTo v n (suc k) (store k (elim b as (λ x. Fate) [ true ↦ dropped | false ↦ left D ]) t)
      go true e = formed_dropped t F k lt (suc k) sooner
      go false e = formed_shortened t F k lt (suc k) sooner false D stands (fits e) (omega (arith, distinct_short (map (class_literal t.variables) C), mapped)) (some_left stands)

  -- THE LAW of a visit
  pub formed_visit : FormedTo v n (suc k) (visit (merge_clause t.variables) k t)
  formed_visit = formed_cases t F k lt (merge_clause t.variables) (λ (f : Fate). FormedTo v n (suc k) (store k f t)) formed_kept formed_standing

-- so visits keep the tables formed
pub formed_visits : (v n m k end : ℕ) (w : List ℤ) (t : Tables) → t.variables ≡ w → end ≡ k + m → end ≤ n → FormedTo v n k t → FormedTo v n end (visits (merge_clause w) m k t)
unfolding visits
formed_visits v n zero k end w t same e le F = subst (λ (x : ℕ). FormedTo v n x t) (let q : k ≡ end = omega (arith, e) in q) F
formed_visits v n (suc m) k end w t same e le F =
    formed_visits v n m (suc k) end w (visit (merge_clause w) k t) ((visit_beside (merge_clause w) (merge_shrinks w) k t).variables ∙ same) (omega (arith, e)) le
    (subst (λ (x : List ℤ). FormedTo v n (suc k) (visit (merge_clause x) k t)) same (formed_visit v n k t F (omega (arith, e, le))))
