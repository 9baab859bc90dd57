-- Change request 4: "The value of v is that of its class literal, sign included, after every accepted call."
-- A pass reads values through class literals and sets them there, so that while it works only variables that are their own class get one. Behind it the value of every variable becomes that of its class literal.
-- Assumes nothing: these are definitions.
use Rattle.std.specs.Prelude.{ℕ, zero, suc, ◌*◌, ◌-◌, List, set, ℤ}
use Rattle.tables.specs.Tables.{Tables, with_variables}
use Rattle.tables.specs.Values.{class_value}
use Rattle.tables.specs.Calls.{After}

-- variable w gets the value of its class literal
abbrev pub spread_at : ℕ → List ℤ → List ℤ
spread_at w variables = set variables (2 * w - 1) (class_value variables w)

-- m variables from w on
unfoldable pub spread_from : ℕ → ℕ → List ℤ → List ℤ
spread_from zero w variables = variables
spread_from (suc m) w variables = spread_from m (suc w) (spread_at w variables)

-- the variables 1 to v
unfoldable pub spread : ℕ → List ℤ → List ℤ
spread v variables = spread_from v 1 variables

abbrev pub spread_tables : ℕ → Tables → Tables
spread_tables v t = with_variables (spread v t.variables) t

-- what a call leaves, once the values are spread: its reply and its state stay
abbrev pub spread_behind : ℕ → After → After
spread_behind v a = record { reply = a.reply; state = a.state; tables = spread_tables v a.tables }
