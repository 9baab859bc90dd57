-- All violations of a text, and which of them a load answers. Document 01: "In a load the smallest offset wins, and at equal offsets 2." Assumes nothing: these are definitions.
use Rattle.std.specs.Prelude.{ℕ, ◌≤◌, ◌≡◌, List, length, drop}
use Rattle.dimacs.specs.Words.{Word, words_at}
use Rattle.violations.specs.Body.{WordViolation, EndViolation}
use Rattle.violations.specs.Grammar.{HeaderViolation, Headed}

-- the words behind the header, which ends at the offset `body`
abbrev pub body_words : List ℕ → ℕ → List Word
body_words text body = words_at (drop body text) body

-- the violations of a text, by number and offset: of its header, or, where the header is right, of what follows. A wrong header gives no V and N to hold the words to
pub data Violation (text : List ℕ) : ℕ → ℕ → Type 0 where
  in_header : (number offset : ℕ) → HeaderViolation text number offset → Violation text number offset
  at_word : (v n body number offset : ℕ) → Headed text v n body → WordViolation v n 16384 (body_words text body) number offset → Violation text number offset
  at_end : (v n body number : ℕ) → Headed text v n body → EndViolation n (body_words text body) number → Violation text number (length text)

-- of violations, given by number and offset, the one that wins
pub record Wins (Violated : ℕ → ℕ → Type 0) (number offset : ℕ) : Type 0 where
  pub violated : Violated number offset
  -- "the smallest offset wins"
  pub smallest : (other place : ℕ) → Violated other place → offset ≤ place
  -- "and at equal offsets 2"
  pub two : Violated 2 offset → number ≡ 2
