-- The call of a learnt clause. Document 02, CR 1: "each newcomer is judged by Sweep's rules against fresh stamps and is dropped, or kept whole or shortened, and when a 65th is kept the eldest leaves. .. Refusals 1, 4, 5 and 9 apply as for a Sweep that opens. It refuses with 11 .. after 9."
-- It opens no pass and resumes none. No table changes, and the state does not. Assumes nothing: these are definitions.
use Rattle.std.specs.Prelude.{ℕ, Bool, true, false, List, [], length, eqb, ℤ, Result, Ok, Err}
use Rattle.stamp_columns.specs.Columns.{columns}
use Rattle.state.specs.declared.State.{State}
use Rattle.state.specs.declared.Answer.{Answer}
use Rattle.state.specs.declared.Answer.TheVariants.{KeptWhole, KeptShort, NotKept}
use Rattle.state.specs.declared.Refusal.{Refusal}
use Rattle.state.specs.declared.Refusal.TheVariants as refusal
use Rattle.tables.specs.Tables.{Tables}
use Rattle.tables.specs.Calls.{answered}
use Rattle.tables.specs.Fates.{Fate, kept, left, dropped, unit, conflict}
use Rattle.shape.specs.Decision.{shape_ok}
use Rattle.entry.specs.Entry.{opening_by}
use Rattle.sweep_visits.specs.Clause.{sweep_clause}
use Rattle.window.specs.Window.{Places, AfterWindow, after_window, refuse_with, keep}
use Rattle.window.specs.Rule.{learnable_ok, window_ok}

-- what is answered of a newcomer of so many literals of which so many are left
abbrev pub kept_as : ℕ → ℕ → Answer
kept_as before now = elim (eqb now before) [ true ↦ KeptWhole now | false ↦ KeptShort now ]

-- D is left of a newcomer of so many literals, and is kept
abbrev pub kept_with : ℕ → List ℤ → Tables → State → Places → AfterWindow
kept_with before D t st w = after_window (answered (kept_as before (length D)) st t) (keep D w)

-- by what Sweep's rule makes of the newcomer's literals. The last two cases are no fates of that rule (law `sweep-cases`)
abbrev pub learn_by : Fate → List ℤ → Tables → State → Places → AfterWindow
learn_by kept C t st w = kept_with (length C) C t st w
learn_by (left D) C t st w = kept_with (length C) D t st w
learn_by dropped C t st w = after_window (answered NotKept st t) w
learn_by (unit l) C t st w = after_window (answered NotKept st t) w
learn_by conflict C t st w = after_window (answered NotKept st t) w

-- what a fate leaves of a clause
abbrev pub remains : Fate → List ℤ → List ℤ
remains kept C = C
remains (left D) C = D
remains dropped C = []
remains (unit l) C = []
remains conflict C = []

-- 11, after 9
abbrev pub learn_if : Bool → List ℤ → Tables → State → Places → AfterWindow
learn_if true C t st w = learn_by (sweep_clause (columns t.times t.links) C) C t st w
learn_if false C t st w = refuse_with refusal.Newcomer t st w

abbrev pub learn_unless_stale : Bool → List ℤ → Tables → State → Places → AfterWindow
learn_unless_stale true C t st w = learn_if (learnable_ok st.v C) C t st w
learn_unless_stale false C t st w = refuse_with refusal.Stale t st w

-- 4 and 5
abbrev pub learn_opening : Result (Unit {0}) Refusal → List ℤ → Tables → State → Places → AfterWindow
learn_opening (Err r) C t st w = refuse_with r t st w
learn_opening (Ok _) C t st w = learn_unless_stale st.fresh C t st w

-- the window's rule belongs to 1, as the shape rule does
abbrev pub learn_ruled : Bool → List ℤ → Tables → State → Places → AfterWindow
learn_ruled true C t st w = learn_opening (opening_by st.pass st.mark) C t st w
learn_ruled false C t st w = refuse_with refusal.Shape t st w

unfoldable pub learn_call : List ℤ → Tables → State → Places → AfterWindow
learn_call C t st w = elim (shape_ok t st) [ true ↦ learn_ruled (window_ok st.v w) C t st w | false ↦ refuse_with refusal.Shape t st w ]
