-- Document 01: "What stands: an assignment satisfies it if the mark is off, every standing clause has a true literal, every v equals its class literal, and each value 1 or −1 is the variable's truth or falsehood."
-- Assumes nothing: these are definitions.
use Rattle.std.specs.Prelude.{ℕ, ◌<◌, ◌+◌, ◌≡◌, true, false, pos, negsuc}
use Rattle.literal.specs.Assignments.{Assignment, true_under, some_true}
use Rattle.state.specs.declared.State.{State}
use Rattle.tables.specs.Tables.{Tables, standing, class_of, value_of}
use Rattle.tables.specs.Clauses.{literals_of}

-- variables are counted from 0 below: w stands for variable w + 1
pub record Stands (t : Tables) (st : State) (τ : Assignment) : Type 0 where
  pub unmarked : st.mark ≡ false
  pub clauses : (i : ℕ) → i < st.n → standing t.clauses i ≡ 1 → some_true τ (literals_of t.clauses t.literals i) ≡ true
  pub classes : (w : ℕ) → w < st.v → τ (w + 1) ≡ true_under τ (class_of t.variables (w + 1))
  pub truths : (w : ℕ) → w < st.v → value_of t.variables (w + 1) ≡ pos 1 → τ (w + 1) ≡ true
  pub falsehoods : (w : ℕ) → w < st.v → value_of t.variables (w + 1) ≡ negsuc 0 → τ (w + 1) ≡ false

-- the same, read with values at those variables alone that are their own class, as the base had them. Change request 4: "What stands" describes the same assignments (`by_own` of crate refinement)
pub record StandsByOwn (t : Tables) (st : State) (τ : Assignment) : Type 0 where
  pub unmarked : st.mark ≡ false
  pub clauses : (i : ℕ) → i < st.n → standing t.clauses i ≡ 1 → some_true τ (literals_of t.clauses t.literals i) ≡ true
  pub classes : (w : ℕ) → w < st.v → τ (w + 1) ≡ true_under τ (class_of t.variables (w + 1))
  pub truths : (w : ℕ) → w < st.v → class_of t.variables (w + 1) ≡ pos (w + 1) → value_of t.variables (w + 1) ≡ pos 1 → τ (w + 1) ≡ true
  pub falsehoods : (w : ℕ) → w < st.v → class_of t.variables (w + 1) ≡ pos (w + 1) → value_of t.variables (w + 1) ≡ negsuc 0 → τ (w + 1) ≡ false
