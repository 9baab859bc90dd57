-- Document 02, CR 11: "An assignment satisfies the join exactly when its left share satisfies the left formula and its right share, through the links, the right." Assumes nothing: these are definitions.
use Rattle.std.specs.Prelude.{ℕ, ◌≤◌, ◌<◌, ◌≡◌, ◌↔◌, List, ℤ}
use Rattle.literal.specs.Assignments.{Assignment, Satisfies}
use Rattle.join.specs.Links.{pair_count, left_of, right_of, right_number}

-- the left variables keep their numbers
abbrev pub left_share : Assignment → Assignment
left_share τ = τ

-- a right variable is what the variable of its number is: a linked one what its left variable is
abbrev pub right_share : ℕ → List ℕ → Assignment → Assignment
right_share v links τ x = τ (right_number v links x)

-- the variables 1 to v are the same under both
abbrev pub Same : ℕ → Assignment → Assignment → Type 0
Same v σ τ = (x : ℕ) → 0 < x → x ≤ v → σ x ≡ τ x

-- a left and a right assignment agree on every link
abbrev pub Agree : List ℕ → Assignment → Assignment → Type 0
Agree links σ ρ = (i : ℕ) → i < pair_count links → σ (left_of links i) ≡ ρ (right_of links i)

-- a join of the clauses left over v variables and right over w, which has the clauses both over u variables
pub record Shares (v w u : ℕ) (links : List ℕ) (left right both : List (List ℤ)) : Type 0 where
  -- the document's sentence
  pub satisfied : (τ : Assignment) → Satisfies τ both ↔ (Satisfies (left_share τ) left × Satisfies (right_share v links τ) right)
  -- the two shares of an assignment agree on the links
  pub agree : (τ : Assignment) → Agree links (left_share τ) (right_share v links τ)
  -- any two that agree on the links are the shares of one: no pair of assignments is lost
  pub united : (σ ρ : Assignment) → Agree links σ ρ → (τ : Assignment) × Same v (left_share τ) σ × Same w (right_share v links τ) ρ
  -- and of one alone: the shares determine the assignment
  pub determined : (σ τ : Assignment) → Same v (left_share σ) (left_share τ) → Same w (right_share v links σ) (right_share v links τ) → Same u σ τ
