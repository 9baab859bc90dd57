-- Document 02, CR 13, on the literals of the clauses in the tables: what can be reached, which clauses were shortened, and that reach is kept. Assumes nothing: these are definitions.
use Rattle.std.specs.Prelude.{ℕ, ◌*◌, ◌<◌, ◌≡◌, Bool, ◌↔◌, [], ◌∷◌, length, ℤ, neg_ℤ}
use Rattle.literal.specs.Literals.{slot_of}
use Rattle.scc.specs.Groups.{reaches}
use Rattle.state.specs.declared.State.{State}
use Rattle.tables.specs.Tables.{Tables}
use Rattle.paper.specs.Clauses.{clause_at, flag_at}
use Rattle.paper.specs.Edges.{Edge}
use Rattle.paper.specs.Stamping.{edges_from}

-- q can be reached from p over the two-literal clauses that stand among the first n: by no edge, one, or several
pub data Reached (t : Tables) (n : ℕ) (p : ℤ) : ℤ → Type 0 where
  self : Reached t n p p
  step : {r q : ℤ} → Reached t n p r → Edge t n r q → Reached t n p q

-- the same, decided: a walk from p alone enters q
unfoldable pub reached? : Tables → State → ℤ → ℤ → Bool
reached? t st p q = reaches (edges_from t st) (2 * st.v) (slot_of p) (slot_of q)

-- clause i was shortened between the tables t and the tables t': it stood and stands, and has fewer literals than it had
pub record Shortened (t t' : Tables) (i : ℕ) : Type 0 where
  pub stood : flag_at t i ≡ 1
  pub stands : flag_at t' i ≡ 1
  pub fewer : length (clause_at t' i) < length (clause_at t i)

-- "no two-literal clause was shortened", of n clauses
abbrev pub PairsWhole : ℕ → Tables → Tables → Type 0
PairsWhole n t t' = (i : ℕ) → i < n → length (clause_at t i) ≡ 2 → Shortened t t' i → ⊥

-- "no clause was shortened at all"
abbrev pub AllWhole : ℕ → Tables → Tables → Type 0
AllWhole n t t' = (i : ℕ) → i < n → Shortened t t' i → ⊥

-- t and st as Stamp left them, t' and st' as they are now
pub record ReachKept (t : Tables) (st : State) (t' : Tables) (st' : State) : Type 0 where
  -- "if q could be reached from p in the stamped graph, it can be reached over the two-literal clauses that now stand"
  pub kept : PairsWhole st.n t t' → (p q : ℤ) → Reached t st.n p q → Reached t' st'.n p q
  -- "If no clause was shortened at all, the reach is the same for every p and q."
  pub same : AllWhole st.n t t' → (p q : ℤ) → Reached t st.n p q ↔ Reached t' st'.n p q
  -- and when a pair is shortened: one literal is left, and it could be reached from its complement. Where none can, no arrow is missed
  pub fails : (i : ℕ) → i < st.n → length (clause_at t i) ≡ 2 → Shortened t t' i → (p : ℤ) × (clause_at t' i ≡ p ∷ []) × Reached t st.n (neg_ℤ p) p
