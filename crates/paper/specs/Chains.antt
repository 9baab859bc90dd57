-- Chains of edges beside a pair, and what is said of the pairs that a Sweep drops. Assumes nothing: these are definitions.
use Rattle.std.specs.Prelude.{ℕ, ◌<◌, ◌≡◌, [], ◌∷◌, ℤ, neg_ℤ}
use Rattle.state.specs.declared.State.{State}
use Rattle.tables.specs.Tables.{Tables}
use Rattle.paper.specs.Clauses.{clause_at, flag_at}
use Rattle.paper.specs.Edges.{EdgeOf, Edge}

-- from p over the edges of standing two-literal clauses, none of which is an edge of (a ∨ b), whichever clause gives it
pub data ChainBeside (t : Tables) (n : ℕ) (a b p : ℤ) : ℤ → Type 0 where
  here : ChainBeside t n a b p p
  on : {r q : ℤ} → ChainBeside t n a b p r → Edge t n r q → (EdgeOf a b r q → ⊥) → ChainBeside t n a b p q

-- each pair of t that is dropped in w follows both ways from other pairs of t
abbrev pub DroppedBeside : Tables → State → Tables → Type 0
DroppedBeside t st w = (i : ℕ) → i < st.n → (a b : ℤ) → clause_at t i ≡ a ∷ b ∷ [] → flag_at w i ≡ 0 → ChainBeside t st.n a b (neg_ℤ a) b × ChainBeside t st.n a b (neg_ℤ b) a
