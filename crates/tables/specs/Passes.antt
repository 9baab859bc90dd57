-- Document 01: "Propagate, Merge and Sweep take a step count n .. and visit clauses in rising number .. A call makes n visits, or as many as the pass has left. It answers Open exactly if visits are left, else Done;
-- with it come the visits made, the clauses gone and the literals gone". The passes that go through the clauses once: Merge and Sweep. And refusal 6, which Merge and Stamp share. Assumes nothing: these are definitions.
use Rattle.std.specs.Prelude.{ℕ, ◌+◌, ◌-◌, min, Bool, true, false, not, ◌&&◌, ◌||◌, List, ltb, eqb, ℤ, pos, nat_abs}
use Rattle.base.specs.Lists.{any, first}
use Rattle.literal.specs.Literals.{eq_z}
use Rattle.state.specs.States.{opened, closed}
use Rattle.state.specs.declared.State.{State}
use Rattle.state.specs.declared.Pass.{Pass}
use Rattle.state.specs.declared.Answer.TheVariants.{Open, Done}
use Rattle.tables.specs.Tables.{Tables, length_of, standing, value_of}
use Rattle.tables.specs.Clauses.{literals_of, gone}
use Rattle.tables.specs.Fates.{Fate, visits}
use Rattle.tables.specs.Calls.{After, answered}

-- the call that has made m visits and stands before clause k, of n: `pass` gives the pass with its cursor, and stamps stay fresh while it is open or when it is done as the two bools say
abbrev pub stopped_at : (ℕ → Pass) → Bool → Bool → ℕ → ℕ → List ℕ → Tables → State → After
stopped_at pass freshOpen freshDone m k before t st =
    elim (ltb k st.n) [
      | true ↦ answered (Open (gone m st.n before t.clauses)) (opened (pass k) freshOpen st) t
      | false ↦ answered (Done (gone m st.n before t.clauses)) (closed freshDone st) t
    ]

-- `steps` visits by a rule from clause k on, or as many as are left
unfoldable pub advance : (List ℤ → Fate) → (ℕ → Pass) → Bool → Bool → ℕ → ℕ → Tables → State → After
advance rule pass freshOpen freshDone steps k t st =
    stopped_at pass freshOpen freshDone (min steps (st.n - k)) (k + min steps (st.n - k)) t.clauses (visits rule (min steps (st.n - k)) k t) st

-- ---- refusal 6: "first standing clause of one literal, or with a valued variable"

abbrev pub valued : List ℤ → ℤ → Bool
valued variables l = not (eq_z (value_of variables (nat_abs l)) (pos 0))

abbrev pub unsettled : Tables → ℕ → Bool
unsettled t i = eqb (standing t.clauses i) 1 && (eqb (length_of t.clauses i) 1 || any (valued t.variables) (literals_of t.clauses t.literals i))

-- the first such clause, counted from 0; n if there is none
unfoldable pub first_unsettled : Tables → ℕ → ℕ
first_unsettled t n = first (unsettled t) n 0
