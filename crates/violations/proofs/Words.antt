-- The words of a text, judged one after the other: the judgement stops at the violation that wins, or passes them all if there is none. Assumes nothing.
use Prim.Native.Nat.{ℕ, zero, suc, ◌+◌, ◌-◌, ◌≤◌, ◌<◌}
use native.Mathlib.Omega.{arith}
use mathlib.Core.Path.{◌≡◌, refl, ◌∙◌}
use mathlib.Core.Bool.{Bool, true, false, ◌&&◌}
use mathlib.Core.List.{List, [], ◌∷◌}
use mathlib.Core.Logic.{◌⊎◌, ⊎_elim, inl, inr}
use lib.ListN.{take}
use lib.Dec.{leb, ltb}
use Rattle.base.proofs.Booleans.{and_left, and_right}
use borrow.Author.Tests.{lt-ltb, ltb-true, ltb-false, leb-true, leb-false}
use Rattle.dimacs.specs.Words.{Word}
use Rattle.dimacs.specs.Tokens.{Meaning, bad, nought, literal, meaning}
use Rattle.dimacs.specs.Text.{budget, judge, judge_end}
use Rattle.state.specs.Answers.{refusal_number, refusal_place}
use Rattle.state.specs.declared.Refusal.{Refusal}
use Rattle.state.specs.declared.Refusal.TheVariants.{Grammar, Limit}
use Rattle.violations.specs.Body.{noughts, literals, WordViolation, broken, beyond, too_many, after_last}
use Rattle.violations.specs.Violations.{Wins}
use Rattle.violations.proofs.Rising.{Rising, rising_above}
use Rattle.std.specs.Prelude.{Result, Err}
use Rattle.dimacs.specs.declared.Header.{Header}

-- ---- the counts with one word more in front
noughts_more : (w : Word) (ws : List Word) → noughts (w ∷ ws) ≡ noughts (w ∷ []) + noughts ws
unfolding noughts
noughts_more w ws = go (meaning w.bytes) refl
  where
    go : (m : Meaning) → meaning w.bytes ≡ m → noughts (w ∷ ws) ≡ noughts (w ∷ []) + noughts ws
    go bad e = rw (e, noughts) (omega arith)
    go nought e = rw (e, noughts) (omega arith)
    go (literal b n) e = rw (e, noughts) (omega arith)

literals_more : (w : Word) (ws : List Word) → literals (w ∷ ws) ≡ literals (w ∷ []) + literals ws
unfolding literals
literals_more w ws = go (meaning w.bytes) refl
  where
    go : (m : Meaning) → meaning w.bytes ≡ m → literals (w ∷ ws) ≡ literals (w ∷ []) + literals ws
    go bad e = rw (e, literals) (omega arith)
    go nought e = rw (e, literals) (omega arith)
    go (literal b n) e = rw (e, literals) (omega arith)

-- ---- violations of a word and the words behind it, of which n' clauses and most' literals are left
module _ (v n most n' most' : ℕ) (w : Word) (ws : List Word) (en : n ≡ noughts (w ∷ []) + n') (em : most ≡ literals (w ∷ []) + most') where
  pub one_more : (number offset : ℕ) → WordViolation v n' most' ws number offset → WordViolation v n most (w ∷ ws) number offset
  one_more number offset (broken i h e) = broken (suc i) (omega arith) e
  one_more number offset (beyond i c m h e lt) = beyond (suc i) c m (omega arith) e lt
  one_more number offset (too_many i c m h e le) = too_many (suc i) c m (omega arith) e (omega (arith, literals_more w (take i ws)))
  one_more number offset (after_last i h e le) = after_last (suc i) (omega arith) e (omega (arith, noughts_more w (take i ws)))

  -- the first word is no violation
  pub record Passed : Type 0 where
    pub token : meaning w.bytes ≡ bad → ⊥
    pub clause : 0 < n
    pub within : (c : Bool) (m : ℕ) → meaning w.bytes ≡ literal c m → m ≤ v
    pub room : (c : Bool) (m : ℕ) → meaning w.bytes ≡ literal c m → 0 < most

  pub one_less : Passed → (number offset : ℕ) → WordViolation v n most (w ∷ ws) number offset → WordViolation v n' most' ws number offset
  unfolding literals noughts
  one_less p number offset (broken zero h e) = absurd (p.token e)
  one_less p number offset (broken (suc i) h e) = broken i (omega arith) e
  one_less p number offset (beyond zero c m h e lt) = absurd (omega (arith, p.within c m e))
  one_less p number offset (beyond (suc i) c m h e lt) = beyond i c m (omega arith) e lt
  one_less p number offset (too_many zero c m h e le) = absurd (let z : most ≤ 0 = le in omega (arith, p.room c m e))
  one_less p number offset (too_many (suc i) c m h e le) = too_many i c m (omega arith) e (omega (arith, literals_more w (take i ws)))
  one_less p number offset (after_last zero h e le) = absurd (let z : n ≤ 0 = le in omega (arith, p.clause))
  one_less p number offset (after_last (suc i) h e le) = after_last i (omega arith) e (omega (arith, noughts_more w (take i ws)))

-- no word, no violation
no_violation : (v n most number offset : ℕ) → WordViolation v n most [] number offset → ⊥
no_violation v n most number offset (broken i h e) = omega arith
no_violation v n most number offset (beyond i c m h e lt) = omega arith
no_violation v n most number offset (too_many i c m h e le) = omega arith
no_violation v n most number offset (after_last i h e le) = omega arith

-- ---- the offsets of violations
module _ (v n most from end : ℕ) (ws : List Word) (r : Rising from end ws) where
  pub violation_inside : (number offset : ℕ) → WordViolation v n most ws number offset → (from ≤ offset) × (offset < end)
  violation_inside number offset (broken i h e) = rising_above from end ws r i h
  violation_inside number offset (beyond i c m h e lt) = rising_above from end ws r i h
  violation_inside number offset (too_many i c m h e le) = rising_above from end ws r i h
  violation_inside number offset (after_last i h e le) = rising_above from end ws r i h

-- a violation at the first word with number 2 is one of grammar
first_two : (v n most from end : ℕ) (w : Word) (ws : List Word) → Rising from end (w ∷ ws) → (number offset : ℕ) → WordViolation v n most (w ∷ ws) number offset
    → number ≡ 2 → offset ≡ w.at → meaning w.bytes ≡ bad
unfolding Rising
first_two v n most from end w ws r number offset (broken zero h e) two here = e
first_two v n most from end w ws r number offset (broken (suc i) h e) two here =
    absurd (omega (arith, here, (rising_above (suc w.at) end ws r.1.1 i (omega arith)).0))
first_two v n most from end w ws r number offset (beyond i c m h e lt) two here = absurd (omega (arith, two))
first_two v n most from end w ws r number offset (too_many i c m h e le) two here = absurd (omega (arith, two))
first_two v n most from end w ws r number offset (after_last i h e le) two here = absurd (omega (arith, two))

-- ---- the words' judgement, where it begins with `begun`: a clause has begun
-- whether a clause has begun behind the words
unfoldable pub begun_after : Bool → List Word → Bool
begun_after begun [] = begun
begun_after begun (w ∷ ws) = elim (meaning w.bytes) [ bad ↦ begun_after begun ws | nought ↦ begun_after false ws | literal _ _ ↦ begun_after true ws ]

-- the judgement of the words is x: it stops at the violation that wins, or passes all words and ends as `past` says
pub data Judged (Violated : ℕ → ℕ → Type 0) (past x : Result Header Refusal) : Type 0 where
  stops : (r : Refusal) → x ≡ Err r → Wins Violated (refusal_number r) (refusal_place r) → Judged Violated past x
  passes : x ≡ past → ((number offset : ℕ) → Violated number offset → ⊥) → Judged Violated past x

-- what the words ws leave of n clauses and `most` literals
abbrev pub past_words : ℕ → ℕ → Bool → List Word → ℕ → Result Header Refusal → Result Header Refusal
past_words n most begun ws end ok = judge_end (budget (n - noughts ws) (most - literals ws) (begun_after begun ws)) end ok

-- a word of grammar 2 wins over all that follows
module _ (v n most from end : ℕ) (w : Word) (ws : List Word) (rising : Rising from end (w ∷ ws)) where
  at_first : Rising w.at end (w ∷ ws)
  unfolding Rising
  at_first = (omega arith, rising.1)

  wins_bad : meaning w.bytes ≡ bad → Wins (WordViolation v n most (w ∷ ws)) 2 w.at
  wins_bad e = record {
    violated = broken 0 (omega arith) e;
    smallest = λ number offset x. (violation_inside v n most w.at end (w ∷ ws) at_first number offset x).0;
    two = λ _. refl;
  }

  wins_limit : (meaning w.bytes ≡ bad → ⊥) → WordViolation v n most (w ∷ ws) 3 w.at → Wins (WordViolation v n most (w ∷ ws)) 3 w.at
  wins_limit e here = record {
    violated = here;
    smallest = λ number offset x. (violation_inside v n most w.at end (w ∷ ws) at_first number offset x).0;
    two = λ x. absurd (e (first_two v n most from end w ws rising 2 w.at x refl refl));
  }

-- a word that is no violation: the words behind it are judged with what it leaves
module _ (v n most n' most' : ℕ) (w : Word) (ws : List Word) (en : n ≡ noughts (w ∷ []) + n') (em : most ≡ literals (w ∷ []) + most') (p : Passed v n most n' most' w ws en em) where
  wins_more : (number offset : ℕ) → Wins (WordViolation v n' most' ws) number offset → Wins (WordViolation v n most (w ∷ ws)) number offset
  wins_more number offset W = record {
    violated = one_more v n most n' most' w ws en em number offset W.violated;
    smallest = λ k at x. W.smallest k at (one_less v n most n' most' w ws en em p k at x);
    two = λ x. W.two (one_less v n most n' most' w ws en em p 2 offset x);
  }

  judged_more : (past past' x x' : Result Header Refusal) → x ≡ x' → past' ≡ past → Judged (WordViolation v n' most' ws) past' x' → Judged (WordViolation v n most (w ∷ ws)) past x
  judged_more past past' x x' ex ep (stops r e W) = stops r (ex ∙ e) (wins_more _ _ W)
  judged_more past past' x x' ex ep (passes e none) = passes (ex ∙ e ∙ ep) (λ k at y. none k at (one_less v n most n' most' w ws en em p k at y))

-- which test fails
unfit : (v clauses most m : ℕ) → (ltb 0 clauses && (leb m v && ltb 0 most)) ≡ false → (clauses ≡ 0) ⊎ ((v < m) ⊎ (most ≡ 0))
unfit v clauses most m e = go (ltb 0 clauses) refl (leb m v) refl (ltb 0 most) refl
  where
    go : (a : Bool) → ltb 0 clauses ≡ a → (b : Bool) → leb m v ≡ b → (c : Bool) → ltb 0 most ≡ c → (clauses ≡ 0) ⊎ ((v < m) ⊎ (most ≡ 0))
    go false ea b eb c ec = inl (omega (arith, ltb-false 0 clauses ea))
    go true ea false eb c ec = inr (inl (omega (arith, leb-false m v eb)))
    go true ea true eb false ec = inr (inr (omega (arith, ltb-false 0 most ec)))
    go true ea true eb true ec = absurd (let q : true ≡ false = rw (ea, eb, ec) at e in let z : ◌≡◌ {A = ℕ} 0 1 = cc in omega arith)

fit : (v clauses most m : ℕ) → (ltb 0 clauses && (leb m v && ltb 0 most)) ≡ true → (0 < clauses) × ((m ≤ v) × (0 < most))
fit v clauses most m e =
    let c = and_left (ltb 0 clauses) (leb m v && ltb 0 most) e in
    let q = and_right (ltb 0 clauses) (leb m v && ltb 0 most) e in
    (ltb-true 0 clauses c, (leb-true m v (and_left (leb m v) (ltb 0 most) q), ltb-true 0 most (and_right (leb m v) (ltb 0 most) q)))

-- a `0` that ends a clause
module _ (v n most end : ℕ) (begun : Bool) (w : Word) (ws : List Word) (ok : Result Header Refusal) (m : meaning w.bytes ≡ nought) (some : 0 < n) where
  passed_nought : (en : n ≡ noughts (w ∷ []) + (n - 1)) (em : most ≡ literals (w ∷ []) + most) → Passed v n most (n - 1) most w ws en em
  passed_nought en em = record {
    token = λ e. let z : ◌≡◌ {A = ℕ} 0 1 = cc in omega arith;
    clause = some;
    within = λ c k e. absurd (let z : ◌≡◌ {A = ℕ} 0 1 = cc in omega arith);
    room = λ c k e. absurd (let z : ◌≡◌ {A = ℕ} 0 1 = cc in omega arith);
  }

  past_nought : past_words (n - 1) most false ws end ok ≡ past_words n most begun (w ∷ ws) end ok
  unfolding noughts literals begun_after
  past_nought =
      let q : n - 1 - noughts ws ≡ n - suc (noughts ws) = omega arith in
      rw (m, noughts, literals, begun_after, q)

  judged_nought : Judged (WordViolation v (n - 1) most ws) (past_words (n - 1) most false ws end ok) (judge v (budget (n - 1) most false) ws end ok)
      → Judged (WordViolation v n most (w ∷ ws)) (past_words n most begun (w ∷ ws) end ok) (judge v (budget n most begun) (w ∷ ws) end ok)
  unfolding judge noughts literals
  judged_nought a =
      let c : noughts (w ∷ []) ≡ 1 = rw (m, noughts) in
      let l : literals (w ∷ []) ≡ 0 = rw (m, literals) in
      let en : n ≡ noughts (w ∷ []) + (n - 1) = omega arith in
      let em : most ≡ literals (w ∷ []) + most = omega arith in
      judged_more v n most (n - 1) most w ws en em (passed_nought en em) (past_words n most begun (w ∷ ws) end ok) (past_words (n - 1) most false ws end ok)
      (judge v (budget n most begun) (w ∷ ws) end ok) (judge v (budget (n - 1) most false) ws end ok) (rw (m, judge, lt-ltb 0 n some)) past_nought a

-- a literal that fits
module _ (v n most end : ℕ) (begun : Bool) (w : Word) (ws : List Word) (ok : Result Header Refusal) (c : Bool) (k : ℕ) (m : meaning w.bytes ≡ literal c k) where
  passed_literal : (0 < n) × ((k ≤ v) × (0 < most)) → (en : n ≡ noughts (w ∷ []) + n) (em : most ≡ literals (w ∷ []) + (most - 1)) → Passed v n most n (most - 1) w ws en em
  passed_literal f en em = record {
    token = λ e. let z : ◌≡◌ {A = ℕ} 0 1 = cc in omega arith;
    clause = f.0;
    within = λ b j e. let q : k ≡ j = cc in omega (arith, f.1.0);
    room = λ b j e. f.1.1;
  }

  past_literal : past_words n (most - 1) true ws end ok ≡ past_words n most begun (w ∷ ws) end ok
  unfolding noughts literals begun_after
  past_literal =
      let q : most - 1 - literals ws ≡ most - suc (literals ws) = omega arith in
      rw (m, noughts, literals, begun_after, q)

  judged_literal : (ltb 0 n && (leb k v && ltb 0 most)) ≡ true
      → Judged (WordViolation v n (most - 1) ws) (past_words n (most - 1) true ws end ok) (judge v (budget n (most - 1) true) ws end ok)
      → Judged (WordViolation v n most (w ∷ ws)) (past_words n most begun (w ∷ ws) end ok) (judge v (budget n most begun) (w ∷ ws) end ok)
  unfolding judge noughts literals
  judged_literal e b =
      let f : (0 < n) × ((k ≤ v) × (0 < most)) = fit v n most k e in
      let z : noughts (w ∷ []) ≡ 0 = rw (m, noughts) in
      let l : literals (w ∷ []) ≡ 1 = rw (m, literals) in
      let en : n ≡ noughts (w ∷ []) + n = omega arith in
      let em : most ≡ literals (w ∷ []) + (most - 1) = omega (arith, f.1.1) in
      judged_more v n most n (most - 1) w ws en em (passed_literal f en em) (past_words n most begun (w ∷ ws) end ok) (past_words n (most - 1) true ws end ok)
      (judge v (budget n most begun) (w ∷ ws) end ok) (judge v (budget n (most - 1) true) ws end ok) (rw (m, judge, e)) past_literal b

  -- one that does not
  over : (ltb 0 n && (leb k v && ltb 0 most)) ≡ false → WordViolation v n most (w ∷ ws) 3 w.at
  unfolding noughts literals
  over e = ⊎_elim
      (λ z. after_last 0 (omega arith) (λ b. let q : ◌≡◌ {A = ℕ} 0 1 = cc in omega arith) (omega (arith, z)))
      (⊎_elim (λ lt. beyond 0 c k (omega arith) m lt) (λ z. too_many 0 c k (omega arith) m (omega (arith, z))))
      (unfit v n most k e)

pub judged_words : (v n most from end : ℕ) (begun : Bool) (ws : List Word) (ok : Result Header Refusal) → Rising from end ws
    → Judged (WordViolation v n most ws) (past_words n most begun ws end ok) (judge v (budget n most begun) ws end ok)
unfolding judge noughts literals begun_after Rising
judged_words v n most from end begun [] ok r =
    let a : n - 0 ≡ n = omega arith in
    let b : most - 0 ≡ most = omega arith in
    passes (rw (a, b)) (no_violation v n most)
judged_words v n most from end begun (w ∷ ws) ok r = go (meaning w.bytes) refl (ltb 0 n) refl
    (judged_words v (n - 1) most (suc w.at) end false ws ok r.1.1) (judged_words v n (most - 1) (suc w.at) end true ws ok r.1.1)
  where
    go : (m : Meaning) → meaning w.bytes ≡ m → (t : Bool) → ltb 0 n ≡ t
        → Judged (WordViolation v (n - 1) most ws) (past_words (n - 1) most false ws end ok) (judge v (budget (n - 1) most false) ws end ok)
        → Judged (WordViolation v n (most - 1) ws) (past_words n (most - 1) true ws end ok) (judge v (budget n (most - 1) true) ws end ok)
        → Judged (WordViolation v n most (w ∷ ws)) (past_words n most begun (w ∷ ws) end ok) (judge v (budget n most begun) (w ∷ ws) end ok)
    go bad m t e a b = stops (Grammar w.at) (rw (m, judge)) (wins_bad v n most from end w ws r m)
    go nought m true e a b = judged_nought v n most end begun w ws ok m (ltb-true 0 n e) a
    go nought m false e a b =
        let token : meaning w.bytes ≡ bad → ⊥ = λ q. (let z : ◌≡◌ {A = ℕ} 0 1 = cc in omega arith) in
        stops (Limit w.at) (rw (m, judge, e)) (wins_limit v n most from end w ws r token (after_last 0 (omega arith) token (omega (arith, ltb-false 0 n e))))
    go (literal c k) m t e a b = lit (ltb 0 n && (leb k v && ltb 0 most)) refl
      where
        lit : (u : Bool) → (ltb 0 n && (leb k v && ltb 0 most)) ≡ u
            → Judged (WordViolation v n most (w ∷ ws)) (past_words n most begun (w ∷ ws) end ok) (judge v (budget n most begun) (w ∷ ws) end ok)
        lit true q = judged_literal v n most end begun w ws ok c k m q b
        lit false q = stops (Limit w.at) (rw (m, judge, q)) (wins_limit v n most from end w ws r (λ z. let y : ◌≡◌ {A = ℕ} 0 1 = cc in omega arith) (over v n most end begun w ws ok c k m q))
