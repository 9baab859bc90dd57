-- The offsets of a text's words rise strictly and stay below the text's length. Assumes nothing.
use Prim.Native.Nat.{ℕ, zero, suc, ◌+◌, ◌≤◌, ◌<◌}
use native.Mathlib.Omega.{arith}
use mathlib.Core.Path.{◌≡◌, refl}
use mathlib.Core.Bool.{Bool, true, false}
use mathlib.Core.List.{List, [], ◌∷◌}
use lib.ListN.{length, drop, length-drop, drop_of_length-le}
use lib.Dec.{eqb, leb}
use borrow.Author.Tests.{eqb-true, leb-true, leb-false}
use Rattle.dimacs.specs.Words.{is_sep, Word, join_word, words_at}
use Rattle.violations.specs.Body.{word_at}
use Rattle.violations.specs.Violations.{body_words}

-- each offset is above the one before it, the first is `from` or above, and all are below `end`
unfoldable pub Rising : ℕ → ℕ → List Word → Type 0
Rising from end [] = Unit
Rising from end (w ∷ ws) = (from ≤ w.at) × ((w.at < end) × Rising (suc w.at) end ws)

rising_less : (from less end : ℕ) (ws : List Word) → less ≤ from → Rising from end ws → Rising less end ws
unfolding Rising
rising_less from less end [] h r = tt
rising_less from less end (w ∷ ws) h r = (omega (arith, r.0), r.1)

join_rising : (b at end : ℕ) (ws : List Word) → at < end → Rising (suc at) end ws → Rising at end (join_word b at ws)
unfolding Rising
join_rising b at end [] h r = (omega arith, (h, tt))
join_rising b at end (w ∷ ws) h r = go (eqb w.at (suc at)) refl
  where
    go : (t : Bool) → eqb w.at (suc at) ≡ t → Rising at end (join_word b at (w ∷ ws))
    go true e = rw (e, join_word) (omega arith, (h, rising_less (suc w.at) (suc at) end ws (omega (arith, eqb-true w.at (suc at) e)) r.1.1))
    go false e = rw (e, join_word) (omega arith, (h, r))

words_rising : (s : List ℕ) (at end : ℕ) → at + length s ≤ end → Rising at end (words_at s at)
unfolding Rising words_at
words_rising [] at end h = tt
words_rising (b ∷ s) at end h = go (is_sep b) refl (words_rising s (suc at) end (omega arith))
  where
    go : (t : Bool) → is_sep b ≡ t → Rising (suc at) end (words_at s (suc at)) → Rising at end (words_at (b ∷ s) at)
    go true e ih = rw (e, words_at) (rising_less (suc at) at end (words_at s (suc at)) (omega arith) ih)
    go false e ih = rw (e, words_at) (join_rising b at end (words_at s (suc at)) (omega arith) ih)

pub body_rising : (text : List ℕ) (body : ℕ) → Rising body (length text) (body_words text body)
unfolding Rising words_at
body_rising text body = go (leb body (length text)) refl
  where
    go : (t : Bool) → leb body (length text) ≡ t → Rising body (length text) (body_words text body)
    go true e = words_rising (drop body text) body (length text) (omega (arith, length-drop body text, leb-true body (length text) e))
    go false e =
        let none : drop body text ≡ [] = drop_of_length-le text {i = body} (omega (arith, leb-false body (length text) e)) in
        rw none tt

-- ---- the same by indexes
pub rising_above : (from end : ℕ) (ws : List Word) → Rising from end ws → (i : ℕ) → i < length ws → (from ≤ (word_at ws i).at) × ((word_at ws i).at < end)
unfolding Rising
rising_above from end [] r i h = absurd (omega arith)
rising_above from end (w ∷ ws) r zero h = (r.0, r.1.0)
rising_above from end (w ∷ ws) r (suc i) h =
    let ih = rising_above (suc w.at) end ws r.1.1 i (omega arith) in
    (omega (arith, r.0, ih.0), ih.1)

rising_strict : (from end : ℕ) (ws : List Word) → Rising from end ws → (i j : ℕ) → i < j → j < length ws → (word_at ws i).at < (word_at ws j).at
unfolding Rising
rising_strict from end [] r i j lt h = absurd (omega arith)
rising_strict from end (w ∷ ws) r i zero lt h = absurd (omega arith)
rising_strict from end (w ∷ ws) r zero (suc j) lt h = (rising_above (suc w.at) end ws r.1.1 j (omega arith)).0
rising_strict from end (w ∷ ws) r (suc i) (suc j) lt h = rising_strict (suc w.at) end ws r.1.1 i j (omega arith) (omega arith)

module _ (text : List ℕ) (body : ℕ) where
  pub offsets_rise : (i j : ℕ) → i < j → j < length (body_words text body) → (word_at (body_words text body) i).at < (word_at (body_words text body) j).at
  offsets_rise i j lt h = rising_strict body (length text) (body_words text body) (body_rising text body) i j lt h

  pub offsets_inside : (i : ℕ) → i < length (body_words text body) → (word_at (body_words text body) i).at < length text
  offsets_inside i h = (rising_above body (length text) (body_words text body) (body_rising text body) i h).1
