-- Document 01: "a table is shorter than stated (extra places stay)". Assumes nothing: these are definitions.
use Rattle.std.specs.Prelude.{◌≤◌, Bool, length}
use Rattle.std.proofs.Math.Decide.{dec_le}
use Rattle.base.specs.Decide.{does, and?, so?}
use Rattle.tables.specs.Tables.{Tables}

-- no table is shorter than stated
pub record Long (t : Tables) : Type 0 where
  pub clauses : 12288 ≤ length t.clauses
  pub literals : 16384 ≤ length t.literals
  pub variables : 2048 ≤ length t.variables
  pub times : 4096 ≤ length t.times
  pub links : 4096 ≤ length t.links

unfoldable pub long? : (t : Tables) → Dec (Long t)
long? t =
    so?
    (λ h. record { clauses = h.0; literals = h.1.0; variables = h.1.1.0; times = h.1.1.1.0; links = h.1.1.1.1 })
    (λ (L : Long t). (L.clauses, (L.literals, (L.variables, (L.times, L.links)))))
    (and? (dec_le 12288 (length t.clauses))
    (and? (dec_le 16384 (length t.literals))
    (and? (dec_le 2048 (length t.variables))
    (and? (dec_le 4096 (length t.times)) (dec_le 4096 (length t.links))))))

-- the bool that calls branch on
unfoldable pub long_ok : Tables → Bool
long_ok t = does (long? t)
