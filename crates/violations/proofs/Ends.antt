-- The text's end: a clause has begun behind the words exactly if one is unfinished, and the judgement there answers the violation that wins. Assumes nothing.
use Prim.Native.Nat.{ℕ, zero, suc, ◌-◌, ◌<◌}
use native.Mathlib.Omega.{arith}
use mathlib.Core.Path.{◌≡◌, refl}
use mathlib.Core.Bool.{Bool, true, false}
use mathlib.Core.List.{List, [], ◌∷◌}
use mathlib.Core.Logic.{◌⊎◌, ⊎_elim, inl, inr}
use lib.ListN.{length, drop}
use Rattle.base.proofs.Booleans.{clash}
use Rattle.dimacs.specs.Words.{Word}
use Rattle.dimacs.specs.Tokens.{Meaning, bad, nought, literal, meaning}
use Rattle.dimacs.specs.Text.{judge_end}
use Rattle.state.specs.declared.Refusal.TheVariants.{Grammar, Limit}
use Rattle.violations.specs.Body.{noughts, word_at, Unfinished, EndViolation, unfinished, too_few}
use Rattle.violations.proofs.Words.{begun_after, past_words}
use Rattle.std.specs.Prelude.{Result, Err}
use Rattle.dimacs.specs.declared.Header.{Header}
use Rattle.state.specs.declared.Refusal.{Refusal}

-- ---- a clause that has begun behind the words
Begun : Bool → List Word → Type 0
Begun begun ws = ((begun ≡ true) × (noughts ws ≡ 0)) ⊎ Unfinished ws

unfinished_more : (w : Word) (ws : List Word) → Unfinished ws → Unfinished (w ∷ ws)
unfinished_more w ws u = record {
  index = suc u.index;
  inside = omega (arith, u.inside);
  negative = u.negative;
  magnitude = u.magnitude;
  means = u.means;
  unended = u.unended;
}

begun_means : (begun : Bool) (ws : List Word) → begun_after begun ws ≡ true → Begun begun ws
unfolding begun_after noughts Begun
begun_means begun [] e = inl (e, refl)
begun_means begun (w ∷ ws) e = go (meaning w.bytes) refl (λ b h. begun_means b ws h)
  where
    go : (m : Meaning) → meaning w.bytes ≡ m → ((b : Bool) → begun_after b ws ≡ true → Begun b ws) → Begun begun (w ∷ ws)
    go bad m ih =
        ⊎_elim (λ x. inl (x.0, (rw (m, noughts) x.1))) (λ u. inr (unfinished_more w ws u)) (ih begun (rw (m, begun_after) at e))
    go nought m ih =
        ⊎_elim (λ x. clash x.0 refl) (λ u. inr (unfinished_more w ws u)) (ih false (rw (m, begun_after) at e))
    go (literal c k) m ih =
        ⊎_elim
        (λ x. inr (record { index = 0; inside = omega arith; negative = c; magnitude = k; means = m; unended = rw (m, noughts) x.1 }))
        (λ u. inr (unfinished_more w ws u))
        (ih true (rw (m, begun_after) at e))

none_ended : (ws : List Word) → noughts ws ≡ 0 → begun_after true ws ≡ true
unfolding begun_after noughts
none_ended [] e = refl
none_ended (w ∷ ws) e = go (meaning w.bytes) refl (none_ended ws)
  where
    go : (m : Meaning) → meaning w.bytes ≡ m → (noughts ws ≡ 0 → begun_after true ws ≡ true) → begun_after true (w ∷ ws) ≡ true
    go bad m ih = rw (m, begun_after) (ih (rw (m, noughts) at e))
    go nought m ih = absurd (let z : suc (noughts ws) ≡ 0 = rw (m, noughts) at e in omega arith)
    go (literal c k) m ih = rw (m, begun_after) (ih (rw (m, noughts) at e))

unfinished_begun : (begun : Bool) (ws : List Word) (i : ℕ) (c : Bool) (k : ℕ) → i < length ws → meaning (word_at ws i).bytes ≡ literal c k → noughts (drop i ws) ≡ 0
    → begun_after begun ws ≡ true
unfolding begun_after noughts
unfinished_begun begun [] i c k h m e = absurd (omega arith)
unfinished_begun begun (w ∷ ws) zero c k h m e = rw (m, begun_after) (none_ended ws (rw (m, noughts) at e))
unfinished_begun begun (w ∷ ws) (suc i) c k h m e = go (meaning w.bytes) refl (λ b. unfinished_begun b ws i c k (omega arith) m e)
  where
    go : (x : Meaning) → meaning w.bytes ≡ x → ((b : Bool) → begun_after b ws ≡ true) → begun_after begun (w ∷ ws) ≡ true
    go bad x ih = rw (x, begun_after) (ih begun)
    go nought x ih = rw (x, begun_after) (ih false)
    go (literal _ _) x ih = rw (x, begun_after) (ih true)

-- ---- the judgement at the end, where no word is a violation
pub data Ended (n : ℕ) (ws : List Word) (end : ℕ) (ok x : Result Header Refusal) : Type 0 where
  fine : x ≡ ok → ((number : ℕ) → EndViolation n ws number → ⊥) → Ended n ws end ok x
  grammar : x ≡ Err (Grammar end) → EndViolation n ws 2 → Ended n ws end ok x
  limit : x ≡ Err (Limit end) → EndViolation n ws 3 → (EndViolation n ws 2 → ⊥) → Ended n ws end ok x

module _ (n : ℕ) (ws : List Word) (closed : begun_after false ws ≡ false) where
  not_unfinished : (number : ℕ) → EndViolation n ws number → number ≡ 3
  not_unfinished number (unfinished u) = clash (unfinished_begun false ws u.index u.negative u.magnitude u.inside u.means u.unended) closed
  not_unfinished number (too_few h) = refl

  enough : n - noughts ws ≡ 0 → (number : ℕ) → EndViolation n ws number → ⊥
  enough e number (unfinished u) = clash (unfinished_begun false ws u.index u.negative u.magnitude u.inside u.means u.unended) closed
  enough e number (too_few h) = omega arith

pub ended : (n most end : ℕ) (ws : List Word) (ok : Result Header Refusal) → Ended n ws end ok (past_words n most false ws end ok)
unfolding Begun
ended n most end ws ok = go (begun_after false ws) refl (n - noughts ws) refl
  where
    go : (b : Bool) → begun_after false ws ≡ b → (k : ℕ) → n - noughts ws ≡ k → Ended n ws end ok (past_words n most false ws end ok)
    go true e k d = grammar (rw (e, judge_end)) (unfinished (⊎_elim (λ x. clash x.0 refl) (λ u. u) (begun_means false ws e)))
    go false e zero d = fine (rw (e, judge_end, d)) (enough n ws e d)
    go false e (suc k) d = limit (rw (e, judge_end, d)) (too_few (omega (arith, d))) (λ x. let z : ◌≡◌ {A = ℕ} 2 3 = not_unfinished n ws e 2 x in omega arith)
