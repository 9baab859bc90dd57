-- What the C call on texts returns, and the line that the program prints for a refusal. Assumes nothing: these are definitions.
use Rattle.std.specs.Prelude.{ℕ, ◌≤◌, ◌<◌, ◌≡◌, List, ℤ, pos, negsuc}
use Rattle.printing.specs.Printing.{refused_line}

-- no text that is written is longer: the header has at most 16 bytes, the class clauses of each of 1,024 variables 28 (a variable with a unit, of 8, has none), 16,384 standing literals 6 each, and the ends of 4,096 standing clauses 2 each
abbrev pub longest : ℕ
longest = 135184

-- for an output of `room` bytes: the length written, or −2 or −3 where the text is refused, or −10 where the output is too short
pub data Returns (room : ℕ) : ℤ → Type 0 where
  wrote : (k : ℕ) → k ≤ room → k ≤ longest → Returns room (pos k)
  grammar : Returns room (negsuc 1)
  limit : Returns room (negsuc 2)
  short : room < longest → Returns room (negsuc 9)

-- a refusal's line, with its number and its place
pub record RefusalLine (text : List ℕ) : Type 0 where
  pub number : ℕ
  pub place : ℕ
  pub line : text ≡ refused_line number place
