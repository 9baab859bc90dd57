-- What the functions that store bytes promise: one function measures, on an empty output, and writes. Assumes nothing: these are definitions.
use Rattle.std.specs.Prelude.{ℕ, ◌+◌, ◌≡◌, List, length}
use Rattle.std.proofs.lemmas.List.Edits.{sets}
use Rattle.printing.specs.declared.Writer.{Writer}

-- the bytes are stored from `at` on, as far as the output reaches, and r is the place behind them
pub record Stored (bytes : List ℕ) (at : ℕ) (out out' : List ℕ) (r : ℕ) : Type 0 where
  pub next : r ≡ at + length bytes
  pub stored : out' ≡ sets out at bytes

-- a writer stored the bytes from its place on, went to the place behind them, and has the same output
pub record Wrote (bytes : List ℕ) (w w' : Writer) : Type 0 where
  pub bytes_stored : Stored bytes w.at w.out.now w'.out.now w'.at
  pub same_reference : w'.out.ghost_name ≡ w.out.ghost_name
