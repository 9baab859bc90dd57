-- Document 01: "Failed is whole in one call. For each variable in rising order whose two literals have the same start: the literal whose interval holds both and which holds no other such literal has failed, and its complement's value is set.
-- The opposite value already there sets the mark and ends the call. It answers how many values it set." A value that is there already with the same sign is not counted.
-- Change request 4: "The value of v is that of its class literal, sign included, after every accepted call. .. Failed still counts, only for variables that are their own class": a value is set at a class literal, and counted there. Assumes nothing: these are definitions.
use Rattle.std.specs.Prelude.{ℕ, zero, suc, ◌*◌, Bool, true, false, List, ℤ, Result, Ok, Err}
use Rattle.literal.specs.Literals.{lit_at, twin}
use Rattle.walk.specs.Walk.{Stamps}
use Rattle.stamp_columns.specs.Columns.{columns}
use Rattle.hidden.specs.Failed.{same_start, failed_slot}
use Rattle.state.specs.States.{closed, marked}
use Rattle.state.specs.declared.State.{State}
use Rattle.state.specs.declared.Refusal.{Refusal}
use Rattle.state.specs.declared.Refusal.TheVariants.{Stale}
use Rattle.state.specs.declared.Answer.TheVariants.{Failed}
use Rattle.tables.specs.Tables.{Tables, with_variables}
use Rattle.tables.specs.Values.{is_true, is_false, set_true}
use Rattle.tables.specs.Calls.{After, answered, refuse}
use Rattle.spread.specs.Spread.{spread_behind}
use Rattle.entry.specs.Entry.{opening_of}

-- the variable table, how many values were set, and whether the opposite value was met
pub record Found : Type 0 where
  pub variables : List ℤ
  pub set : ℕ
  pub opposite : Bool

abbrev pub found : List ℤ → ℕ → Bool → Found
found variables set opposite = record { variables = variables; set = set; opposite = opposite }

-- the literal l is to be true: it is already; it is false; or its value is set
abbrev pub assert : ℤ → List ℤ → ℕ → Found
assert l variables n = elim (is_true variables l) [ true ↦ found variables n false | false ↦ elim (is_false variables l) [ true ↦ found variables n true | false ↦ found (set_true variables l) (suc n) false ] ]

-- variable w + 1, of slots 2w and 2w + 1
unfoldable pub failed_at : Stamps → ℕ → ℕ → List ℤ → ℕ → Found
failed_at σ size w variables n = elim (same_start σ (2 * w)) [ true ↦ assert (lit_at (twin (failed_slot σ size (2 * w)))) variables n | false ↦ found variables n false ]

-- m variables from w on; the opposite value ends it
unfoldable pub failed_from : Stamps → ℕ → ℕ → ℕ → Found → Found
failed_from σ size zero w f = f
failed_from σ size (suc m) w f = elim f.opposite [ true ↦ f | false ↦ failed_from σ size m (suc w) (failed_at σ size w f.variables f.set) ]

-- ---- the call

-- the opposite value sets the mark; otherwise the stamps stay fresh
abbrev pub state_after : Bool → State → State
state_after opposite st = elim opposite [ true ↦ marked st | false ↦ closed true st ]

abbrev pub failed_reply : Found → Tables → State → After
failed_reply f t st = answered (Failed f.set) (state_after f.opposite st) (with_variables f.variables t)

-- the literals that have failed, and behind them the values are spread
unfoldable pub failed_fresh : Tables → State → After
failed_fresh t st = spread_behind st.v (failed_reply (failed_from (columns t.times t.links) (2 * st.v) st.v 0 (found t.variables 0 false)) t st)

abbrev pub failed_unless_stale : Bool → Tables → State → After
failed_unless_stale true t st = failed_fresh t st
failed_unless_stale false t st = refuse Stale st t

abbrev pub failed_by : Result (Unit {0}) Refusal → Tables → State → After
failed_by (Err r) t st = refuse r st t
failed_by (Ok _) t st = failed_unless_stale st.fresh t st

unfoldable pub failed_call : Tables → State → After
failed_call t st = failed_by (opening_of t st) t st
