-- Document 01: "Run takes a round count (0 to 65,535). A round follows a constant programme of codes: settle (1), stamp (2), failed (3), sweep (4). ..
-- Round k, from 0, uses 1, −1, 2, −2, .. turned left by k mod 2V places (no turn for V = 0). Run stops at the mark, at the count or after a round that changed no clause, class or value, and answers the rounds made, the one in which the mark came included."
-- Document 02, CR 5: in place of the constant programme, "Run then follows it in every round, with the same stop": the state's codes, as far as its length goes. Assumes nothing: these are definitions.
use Rattle.std.specs.Prelude.{ℕ, zero, suc, ◌*◌, Bool, true, false, ◌&&◌, ◌||◌, List, [], ◌∷◌, take, eqb, Result, Ok, Err}
use Rattle.base.specs.Lists.{all_below, same_list}
use Rattle.literal.specs.Literals.{eq_z}
use Rattle.state.specs.Programmes.{codes_of}
use Rattle.state.specs.declared.State.{State}
use Rattle.state.specs.declared.Answer.TheVariants.{Ran}
use Rattle.state.specs.declared.Refusal.{Refusal}
use Rattle.tables.specs.Tables.{Tables}
use Rattle.tables.specs.Clauses.{literals_of}
use Rattle.tables.specs.Calls.{After, answered, refuse}
use Rattle.entry.specs.Entry.{opening_of}
use Rattle.entry.specs.declared.Entry.TheVariants.{Opens}
use Rattle.stamp.specs.Stamp.{stamp_by}
use Rattle.failed.specs.Failed.{failed_by}
use Rattle.sweep.specs.Sweep.{sweep_by}
use Rattle.round_order.specs.Order.{order_of}
use Rattle.settle.specs.Settle.{Standing, between, unmarked, settle}

-- ---- a round

-- what a code does in round k: settle, or the whole call, which needs no check of the shape
unfoldable pub follow : ℕ → ℕ → Standing → Standing
follow k code w =
    elim (eqb code 1) [
      | true ↦ settle w
      | false ↦ elim (eqb code 2) [
        | true ↦ between (stamp_by (Ok tt) (order_of w.state.v k) w.tables w.state)
        | false ↦ elim (eqb code 3) [
          | true ↦ between (failed_by (Ok tt) w.tables w.state)
          | false ↦ elim (eqb code 4) [ true ↦ between (sweep_by (Ok Opens) w.state.n w.tables w.state) | false ↦ w ]
        ]
      ]
    ]

-- the codes in order, up to the mark
unfoldable pub round : ℕ → List ℕ → Standing → Standing
round k [] w = w
round k (code ∷ codes) w = unmarked (follow k code w) (round k codes)

-- ---- rounds

-- no clause, class or value differs
unfoldable pub unchanged : Standing → Standing → Bool
unchanged w w' =
    same_list eqb (take (3 * w.state.n) w.tables.clauses) (take (3 * w.state.n) w'.tables.clauses)
    && (all_below w.state.n (λ i. same_list eq_z (literals_of w.tables.clauses w.tables.literals i) (literals_of w'.tables.clauses w'.tables.literals i))
    && same_list eq_z (take (2 * w.state.v) w.tables.variables) (take (2 * w.state.v) w'.tables.variables))

-- the rounds made, and what then stands
pub record Rounds : Type 0 where
  pub made : ℕ
  pub standing : Standing

abbrev pub rounds : ℕ → Standing → Rounds
rounds made standing = record { made = made; standing = standing }

-- after round k: the mark or a round without a change stops the run
abbrev pub stop_or : ℕ → Standing → Standing → (Standing → Rounds) → Rounds
stop_or k w w' next = elim (w'.state.mark || unchanged w w') [ true ↦ rounds (suc k) w' | false ↦ next w' ]

-- at most m rounds more, after k
unfoldable pub run_from : List ℕ → ℕ → ℕ → Standing → Rounds
run_from codes zero k w = rounds k w
run_from codes (suc m) k w = stop_or k w (round k codes w) (run_from codes m (suc k))

-- ---- the call

abbrev pub run_reply : Rounds → After
run_reply r = answered (Ran r.made) r.standing.state r.standing.tables

abbrev pub run_by : Result (Unit {0}) Refusal → ℕ → Tables → State → After
run_by (Err r) count t st = refuse r st t
run_by (Ok _) count t st = run_reply (run_from (codes_of st.programme) count 0 (record { tables = t; state = st }))

unfoldable pub run_call : ℕ → Tables → State → After
run_call count t st = run_by (opening_of t st) count t st
