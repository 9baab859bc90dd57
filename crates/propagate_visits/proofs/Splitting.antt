-- Visits can be divided in any way, and the count goes on from where it stands. Assumes nothing.
use Prim.Native.Nat.{ℕ, zero, suc, ◌+◌, ◌≤◌}
use native.Mathlib.Omega.{arith}
use mathlib.Core.Path.{◌≡◌, refl, sym, ap, ◌∙◌}
use mathlib.Core.Bool.{Bool}
use Rattle.tables.specs.Tables.{Tables}
use Rattle.propagate_visits.specs.Visits.{Progress, going, settled, contradicted, propagate_visit, propagate_visits, reached}
use Rattle.propagate_visits.specs.Steps.{progress_of}
use Rattle.propagate_visits.specs.declared.Stand.{Stand}
use Rattle.propagate_visits.specs.declared.Stand.TheVariants.{Going, Settled, Contradicted}

pub settled_stays : (n m made : ℕ) (t : Tables) → propagate_visits n m made (settled t) ≡ reached made (settled t)
unfolding propagate_visits
settled_stays n zero made t = refl
settled_stays n (suc m) made t = refl

pub contradicted_stays : (n m made : ℕ) (t : Tables) → propagate_visits n m made (contradicted t) ≡ reached made (contradicted t)
unfolding propagate_visits
contradicted_stays n zero made t = refl
contradicted_stays n (suc m) made t = refl

-- a pass that has ended
abbrev pub Ended : Stand → Type 0
Ended (Going k changed) = ⊥
Ended Settled = Unit
Ended Contradicted = Unit

-- a pass that does not go on has ended
pub ended_unless : (s : Stand) → ((k : ℕ) (changed : Bool) → s ≡ Going k changed → ⊥) → Ended s
ended_unless (Going k changed) n = absurd (n k changed refl)
ended_unless Settled n = tt
ended_unless Contradicted n = tt

pub ended_stays : (n m made : ℕ) (s : Stand) (t : Tables) → Ended s → propagate_visits n m made (progress_of s t) ≡ reached made (progress_of s t)
ended_stays n m made (Going k changed) t e = absurd e
ended_stays n m made Settled t e = settled_stays n m made t
ended_stays n m made Contradicted t e = contradicted_stays n m made t

-- a visits and then b visits are a + b visits
pub visits_split : (n a b made : ℕ) (p : Progress) → propagate_visits n (a + b) made p ≡ propagate_visits n b (propagate_visits n a made p).visits (propagate_visits n a made p).progress
unfolding propagate_visits
visits_split n zero b made p = ap (λ (m : ℕ). propagate_visits n m made p) (let e : 0 + b ≡ b = omega arith in e)
visits_split n (suc a) b made (going k changed t) =
    ap (λ (m : ℕ). propagate_visits n m made (going k changed t)) (let e : suc a + b ≡ suc (a + b) = omega arith in e) ∙ visits_split n a b (suc made) (propagate_visit n k changed t)
visits_split n (suc a) b made (settled t) = settled_stays n (suc a + b) made t ∙ sym (settled_stays n b made t)
visits_split n (suc a) b made (contradicted t) = contradicted_stays n (suc a + b) made t ∙ sym (contradicted_stays n b made t)

-- where the pass stands does not depend on the visits made before
pub made_free : (n m made made' : ℕ) (p : Progress) → (propagate_visits n m made p).progress ≡ (propagate_visits n m made' p).progress
unfolding propagate_visits
made_free n zero made made' p = refl
made_free n (suc m) made made' (going k changed t) = made_free n m (suc made) (suc made') (propagate_visit n k changed t)
made_free n (suc m) made made' (settled t) = refl
made_free n (suc m) made made' (contradicted t) = refl

-- the visits made before are only added
pub made_shift : (n m a made : ℕ) (p : Progress) → propagate_visits n m (a + made) p ≡ reached (a + (propagate_visits n m made p).visits) (propagate_visits n m made p).progress
unfolding propagate_visits
made_shift n zero a made p = refl
made_shift n (suc m) a made (going k changed t) =
    ap (λ (x : ℕ). propagate_visits n m x (propagate_visit n k changed t)) (let e : suc (a + made) ≡ a + suc made = omega arith in e) ∙ made_shift n m a (suc made) (propagate_visit n k changed t)
made_shift n (suc m) a made (settled t) = refl
made_shift n (suc m) a made (contradicted t) = refl

-- no more visits are made than are asked for
pub made_few : (n m made : ℕ) (p : Progress) → (propagate_visits n m made p).visits ≤ made + m
unfolding propagate_visits
made_few n zero made p = omega arith
made_few n (suc m) made (going k changed t) = omega (arith, made_few n m (suc made) (propagate_visit n k changed t))
made_few n (suc m) made (settled t) = omega arith
made_few n (suc m) made (contradicted t) = omega arith
