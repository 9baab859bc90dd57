-- Document 02, CR 5: "one of 1 to 32 codes, each 1 to 4 .. Each stamp directly follows a settle. Each failed and sweep has a stamp before it with no settle or sweep between."
-- Settle is 1, stamp 2, failed 3, sweep 4. Assumes nothing: these are definitions.
use Rattle.std.specs.Prelude.{ℕ, suc, ◌≤◌, ◌<◌, ◌≡◌, List, length, get_or}
use Rattle.state.specs.Programmes.{codes_of}
use Rattle.state.specs.declared.Programme.{Programme}

abbrev pub code_at : List ℕ → ℕ → ℕ
code_at codes i = get_or codes i 0

-- what stands at index i directly follows a settle
pub record Settled (codes : List ℕ) (i : ℕ) : Type 0 where
  pub place : ℕ
  pub directly : i ≡ suc place
  pub settle : code_at codes place ≡ 1

-- what stands at index i has a stamp before it with no settle or sweep between
pub record Stamped (codes : List ℕ) (i : ℕ) : Type 0 where
  pub place : ℕ
  pub before : place < i
  pub stamp : code_at codes place ≡ 2
  pub between : (k : ℕ) → place < k → k < i → (code_at codes k ≡ 1 → ⊥) × (code_at codes k ≡ 4 → ⊥)

-- the code at index i may stand there
pub record Fits (codes : List ℕ) (i : ℕ) : Type 0 where
  pub least : 1 ≤ code_at codes i
  pub most : code_at codes i ≤ 4
  pub stamp : code_at codes i ≡ 2 → Settled codes i
  pub failed : code_at codes i ≡ 3 → Stamped codes i
  pub sweep : code_at codes i ≡ 4 → Stamped codes i

-- the rules
pub record Rules (codes : List ℕ) : Type 0 where
  pub some : 1 ≤ length codes
  pub few : length codes ≤ 32
  pub each : (i : ℕ) → i < length codes → Fits codes i

-- of the programme in a state, whose length can be any number: what stands behind its length is not judged
pub record Passing (p : Programme) : Type 0 where
  pub within : p.length ≤ 32
  pub rules : Rules (codes_of p)
