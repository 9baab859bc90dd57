-- The violations behind the header, each by itself: a word is held to what it means and to how many `0` and literals stand before it, whether or not those break a rule themselves.
-- Quoted are the conditions of refusals 2 and 3 in document 01. Assumes nothing: these are definitions.
use Rattle.std.specs.Prelude.{ℕ, suc, ◌≤◌, ◌<◌, ◌≡◌, Bool, List, [], ◌∷◌, length, take, drop, get_or}
use Rattle.dimacs.specs.Words.{Word, word}
use Rattle.dimacs.specs.Tokens.{bad, nought, literal, meaning}

-- how many of the words are `0`
unfoldable pub noughts : List Word → ℕ
noughts [] = 0
noughts (w ∷ ws) = elim (meaning w.bytes) [ bad ↦ noughts ws | nought ↦ suc (noughts ws) | literal _ _ ↦ noughts ws ]

-- how many of the words are literals
unfoldable pub literals : List Word → ℕ
literals [] = 0
literals (w ∷ ws) = elim (meaning w.bytes) [ bad ↦ literals ws | nought ↦ literals ws | literal _ _ ↦ suc (literals ws) ]

-- the word with index i
abbrev pub word_at : List Word → ℕ → Word
word_at ws i = get_or ws i (word 0 [])

-- the violations at the words ws, by number and offset. v and n are the header's V and N, and `most` the number of literals that a text may have
pub data WordViolation (v n most : ℕ) (ws : List Word) : ℕ → ℕ → Type 0 where
  -- 2: "the text breaks the grammar: first byte of the token"
  broken : (i : ℕ) → i < length ws → meaning (word_at ws i).bytes ≡ bad → WordViolation v n most ws 2 (word_at ws i).at
  -- 3: "a literal beyond V or −V .. its token"
  beyond : (i : ℕ) (negative : Bool) (m : ℕ) → i < length ws → meaning (word_at ws i).bytes ≡ literal negative m → v < m → WordViolation v n most ws 3 (word_at ws i).at
  -- 3: "literal 16,385 .. its token": so many literals stand before it already
  too_many : (i : ℕ) (negative : Bool) (m : ℕ) → i < length ws → meaning (word_at ws i).bytes ≡ literal negative m → most ≤ literals (take i ws)
      → WordViolation v n most ws 3 (word_at ws i).at
  -- 3: "a token after clause N: its token": N clauses are ended before it
  after_last : (i : ℕ) → i < length ws → (meaning (word_at ws i).bytes ≡ bad → ⊥) → n ≤ noughts (take i ws) → WordViolation v n most ws 3 (word_at ws i).at

-- an unfinished clause: a literal with no `0` behind it
pub record Unfinished (ws : List Word) : Type 0 where
  pub index : ℕ
  pub inside : index < length ws
  pub negative : Bool
  pub magnitude : ℕ
  pub means : meaning (word_at ws index).bytes ≡ literal negative magnitude
  pub unended : noughts (drop index ws) ≡ 0

-- the violations at the text's length, by number
pub data EndViolation (n : ℕ) (ws : List Word) : ℕ → Type 0 where
  -- 2: "text length for an unfinished clause"
  unfinished : Unfinished ws → EndViolation n ws 2
  -- 3: "too few clauses: text length"
  too_few : noughts ws < n → EndViolation n ws 3
