-- Some visits made: the visits that are left after them give what all of them give; and a pass in two parts. Assumes nothing.
use Prim.Native.Nat.{ℕ, suc, ◌+◌, ◌-◌, ◌≤◌, ◌<◌}
use native.Mathlib.Numerals.{add-one}
use native.Mathlib.Omega.{arith}
use mathlib.Core.Path.{◌≡◌, refl, sym, ap, subst, ◌∙◌}
use mathlib.Core.Bool.{Bool}
use mathlib.Core.List.{List, []}
use lib.ListN.{length}
use lib.IntN.{ℤ}
use Rattle.tables.specs.Tables.{Tables, tables, length_of}
use Rattle.visits.proofs.StoreKeeps.{FormedIn}
use Rattle.propagate_visits.specs.Visits.{propagate_clause, going, contradicted, propagate_visit, propagate_visits, Reached, reached}
use Rattle.visits.specs.Visited.{visit_of, visit_at}
use Rattle.propagate_visits.specs.Steps.{progress_of, reached_as, stand_after, StandsBefore, Advanced}
use Rattle.visits.specs.declared.Visited.{Visited}
use Rattle.propagate_visits.specs.declared.Reach.{Reach}
use Rattle.propagate_visits.specs.declared.Stand.{Stand}
use Rattle.propagate_visits.specs.declared.Stand.TheVariants.{Going, Settled, Contradicted}
use Rattle.propagate_visits.proofs.Stepping.{Good, visits_good, visit_stands, Making}
use Rattle.propagate_visits.proofs.Splitting.{Ended, ended_stays, visits_split, made_shift, made_few}

-- ---- one visit

pub contradicted_stand : (s : Stand) (t : Tables) → progress_of s t ≡ contradicted t → s ≡ Contradicted
contradicted_stand (Going k b) t e = absurd (let q : ◌≡◌ {A = ℕ} 0 1 = cc in omega arith)
contradicted_stand Settled t e = absurd (let q : ◌≡◌ {A = ℕ} 0 1 = cc in omega arith)
contradicted_stand Contradicted t e = refl

module _ {n room k : ℕ} {c : List ℕ} {l w : List ℤ} (changed : Bool) (R : StandsBefore n k c l w) where
  -- by one visit
  pub advanced_one : 0 < room → (s : Stand) (c' : List ℕ) (l' w' : List ℤ) → ((times : List ℕ) (links : List ℤ) → progress_of s (tables c' l' w' times links) ≡ propagate_visit n k changed (tables c l w times links))
      → Advanced n room k changed (record { visits = 1; stand = s }) c l w c' l' w'
  unfolding propagate_visits
  advanced_one some s c' l' w' is = record {
    made = (omega arith, some);
    left = λ times links m before.
        ap (λ (x : ℕ). propagate_visits n x before (going k changed (tables c l w times links))) (let z : 1 + m ≡ suc m = omega arith in z)
        ∙ ap (propagate_visits n m (suc before)) (sym (is times links))
        ∙ ap (λ (x : ℕ). propagate_visits n m x (progress_of s (tables c' l' w' times links))) (sym (add-one before));
  }

  pub advanced_visit : 0 < room → (s : Stand) (seen : Visited) (c' : List ℕ) (l' w' : List ℤ)
      → ((times : List ℕ) (links : List ℤ) → visit_of seen (tables c' l' w' times links) ≡ visit_at (propagate_clause w) k (tables c l w times links))
      → ((t : Tables) → progress_of s t ≡ stand_after n k changed (length_of c k) seen t) → Advanced n room k changed (record { visits = 1; stand = s }) c l w c' l' w'
  advanced_visit some s seen c' l' w' is e =
      advanced_one some s c' l' w' (λ times links. e (tables c' l' w' times links) ∙ visit_stands n k changed (tables c l w times links) seen (tables c' l' w' times links) (is times links))

-- ---- the loop

module _ {n steps made k : ℕ} {changed : Bool} {k₀ : ℕ} {changed₀ : Bool} {c₀ : List ℕ} {l₀ w₀ : List ℤ} {c : List ℕ} {l w : List ℤ}
    (M : Making n steps made k changed k₀ changed₀ c₀ l₀ w₀ c l w) (more : made < steps) (r : Reach) (c' : List ℕ) (l' w' : List ℤ) (J : Advanced n (steps - made) k changed r c l w c' l' w') where
  -- these visits off the number that is left
  advanced_off : (times : List ℕ) (links : List ℤ) → propagate_visits n (steps - (made + r.visits)) (made + r.visits) (progress_of r.stand (tables c' l' w' times links)) ≡ propagate_visits n steps 0 (going k₀ changed₀ (tables c₀ l₀ w₀ times links))
  advanced_off times links =
      sym (J.left times links (steps - (made + r.visits)) made)
      ∙ ap (λ (m : ℕ). propagate_visits n m made (going k changed (tables c l w times links))) (let e : r.visits + (steps - (made + r.visits)) ≡ steps - made = omega (arith, J.made.1, more) in e)
      ∙ M.left times links

  pub advanced_goes : (k' : ℕ) (changed' : Bool) → r.stand ≡ Going k' changed' → length c' ≡ length c → length l' ≡ length l → length w' ≡ length w → Making n steps (made + r.visits) k' changed' k₀ changed₀ c₀ l₀ w₀ c' l' w'
  unfolding propagate_visits
  advanced_goes k' changed' e lc ll lw = record {
    within = omega (arith, J.made.1, more);
    sizes = (lc ∙ M.sizes.0, (ll ∙ M.sizes.1.0, lw ∙ M.sizes.1.1));
    stands = record { vars = M.stands.vars; formed = next.0; below = next.1 };
    left = λ times links. ap (λ (x : Stand). propagate_visits n (steps - (made + r.visits)) (made + r.visits) (progress_of x (tables c' l' w' times links))) (sym e) ∙ advanced_off times links;
  }
    where
      next : FormedIn M.stands.vars n (tables c' l' w' [] []) × (k' < n)
      next =
          subst (Good M.stands.vars n) (ap (λ (x : Reached). x.progress) (J.left [] [] 0 0) ∙ ap (λ (x : Stand). progress_of x (tables c' l' w' [] [])) e)
          (visits_good M.stands.vars n (r.visits + 0) 0 (going k changed (tables c l w [] [])) (M.stands.formed, M.stands.below))

  pub advanced_ends : (x : Stand) → r.stand ≡ x → Ended x → (times : List ℕ) (links : List ℤ)
      → reached (made + r.visits) (progress_of x (tables c' l' w' times links)) ≡ propagate_visits n steps 0 (going k₀ changed₀ (tables c₀ l₀ w₀ times links))
  advanced_ends x e d times links =
      sym (ended_stays n (steps - (made + r.visits)) (made + r.visits) x (tables c' l' w' times links) d)
      ∙ ap (λ (y : Stand). propagate_visits n (steps - (made + r.visits)) (made + r.visits) (progress_of y (tables c' l' w' times links))) (sym e)
      ∙ advanced_off times links

-- ---- a pass in two parts

module _ {n k : ℕ} {c : List ℕ} {l w : List ℤ} (R : StandsBefore n k c l w) (changed : Bool) (steps first : ℕ) (h : first ≤ steps) (r : Reach) (c' : List ℕ) (l' w' : List ℤ)
    (part : (times : List ℕ) (links : List ℤ) → reached_as r (tables c' l' w' times links) ≡ propagate_visits n first 0 (going k changed (tables c l w times links))) where
  pub first_few : r.visits ≤ first
  first_few = omega (arith, ap (λ (x : Reached). x.visits) (part [] []), made_few n first 0 (going k changed (tables c l w [] [])))

  whole : (times : List ℕ) (links : List ℤ) → propagate_visits n (steps - first) r.visits (progress_of r.stand (tables c' l' w' times links)) ≡ propagate_visits n steps 0 (going k changed (tables c l w times links))
  whole times links =
      ap (λ (x : Reached). propagate_visits n (steps - first) x.visits x.progress) (part times links)
      ∙ sym (visits_split n first (steps - first) 0 (going k changed (tables c l w times links)))
      ∙ ap (λ (m : ℕ). propagate_visits n m 0 (going k changed (tables c l w times links))) (let e : first + (steps - first) ≡ steps = omega (arith, h) in e)

  -- the pass has ended in it
  pub first_ended : Ended r.stand → (times : List ℕ) (links : List ℤ) → reached_as r (tables c' l' w' times links) ≡ propagate_visits n steps 0 (going k changed (tables c l w times links))
  first_ended e times links = sym (ended_stays n (steps - first) r.visits r.stand (tables c' l' w' times links) e) ∙ whole times links

  -- it goes on
  module _ (k' : ℕ) (changed' : Bool) (goes : r.stand ≡ Going k' changed') where
    pub second_before : StandsBefore n k' c' l' w'
    second_before = record { vars = R.vars; formed = next.0; below = next.1 }
      where
        next : FormedIn R.vars n (tables c' l' w' [] []) × (k' < n)
        next =
            subst (Good R.vars n) (sym (ap (λ (x : Reached). x.progress) (part [] [])) ∙ ap (λ (x : Stand). progress_of x (tables c' l' w' [] [])) goes)
            (visits_good R.vars n first 0 (going k changed (tables c l w [] [])) (R.formed, R.below))

    module _ (q : Reach) (c'' : List ℕ) (l'' w'' : List ℤ) (then : (times : List ℕ) (links : List ℤ) → reached_as q (tables c'' l'' w'' times links) ≡ propagate_visits n (steps - first) 0 (going k' changed' (tables c' l' w' times links))) where
      pub second_few : q.visits ≤ steps - first
      second_few = omega (arith, ap (λ (x : Reached). x.visits) (then [] []), made_few n (steps - first) 0 (going k' changed' (tables c' l' w' [] [])))

      pub both_parts : (times : List ℕ) (links : List ℤ) → reached (r.visits + q.visits) (progress_of q.stand (tables c'' l'' w'' times links)) ≡ propagate_visits n steps 0 (going k changed (tables c l w times links))
      both_parts times links =
          ap (λ (x : Reached). reached (r.visits + x.visits) x.progress) (then times links)
          ∙ sym (made_shift n (steps - first) r.visits 0 (going k' changed' (tables c' l' w' times links)))
          ∙ ap (λ (m : ℕ). propagate_visits n (steps - first) m (going k' changed' (tables c' l' w' times links))) (let e : r.visits + 0 ≡ r.visits = omega arith in e)
          ∙ ap (λ (x : Stand). propagate_visits n (steps - first) r.visits (progress_of x (tables c' l' w' times links))) (sym goes)
          ∙ whole times links
