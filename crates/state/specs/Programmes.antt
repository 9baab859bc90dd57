-- Document 01: "A round follows a constant programme of codes: settle (1), stamp (2), failed (3), sweep (4)." Document 02, CR 5: "The constant programme may be replaced by one of 1 to 32 codes".
-- A programme is 32 places and a length. Its rules are in crate programmes. Assumes nothing: these are definitions.
use Rattle.std.specs.Prelude.{ℕ, ◌-◌, List, [], ◌∷◌, ◌++◌, length, take, replicate}
use Rattle.state.specs.declared.Programme.{Programme}

-- the codes of a programme, as far as its length goes
abbrev pub codes_of : Programme → List ℕ
codes_of p = take p.length p.codes

-- the programme of these codes, of which there are at most 32: the places behind them hold 0
unfoldable pub programme_of : List ℕ → Programme
programme_of codes = record { codes = codes ++ replicate (32 - length codes) 0; length = length codes }

unfoldable pub constant_programme : Programme
constant_programme = programme_of (1 ∷ 2 ∷ 3 ∷ 4 ∷ [])
