-- What a sweep may do to a clause while the stamps are those of the graph: the syntactic invariant, clause by clause.
-- Assumes nothing: these are definitions.
use Rattle.std.specs.Prelude.{ℕ, ◌*◌, ◌<◌, ◌≡◌, length}
use mathlib.Core.List.{List, [], ◌∷◌, Memᴰ, Sublistᴰ}
use Rattle.literal.specs.Literals.{twin}
use Rattle.walk.specs.Forest.{Reach}
use Rattle.implications.specs.Clauses.{Once}
use Rattle.hidden.proofs.Pairs.{Reads}
use Rattle.sound.specs.Formula.{Clause, dropped, standing}

-- a path from p to q by way of a third literal: where no two literals reach each other, a path of at least two edges
abbrev pub Detour : (ℕ → List ℕ) → ℕ → ℕ → Type 0
Detour adj p q = (m : ℕ) × (m ≡ p → ⊥) × (m ≡ q → ⊥) × Reach adj p m × Reach adj m q

-- a path from p that takes neither edge of the pair (a ∨ b), whichever clause gives them
pub data ReachBeside (adj : ℕ → List ℕ) (a b p : ℕ) : ℕ → Type 0 where
  begin : ReachBeside adj a b p p
  step : {s t : ℕ} → ReachBeside adj a b p s → Memᴰ t (adj s) → (Reads a b s t → ⊥) → ReachBeside adj a b p t

-- a clause then, and now
pub data Kept (adj : ℕ → List ℕ) : Clause → Clause → Type 0 where
  -- as it was
  same : {c : Clause} → Kept adj c c
  -- some literals went, and each reaches one that stayed
  shorter : {C D : List ℕ} → Sublistᴰ D C → ((l : ℕ) → Memᴰ l C → (m : ℕ) × Memᴰ m D × Reach adj l m) → Kept adj (standing C) (standing D)
  -- a pair went, and each of its two edges has a way round
  round : {a b : ℕ} → Detour adj (twin a) b → Detour adj (twin b) a → Kept adj (standing (a ∷ b ∷ [])) dropped
  -- a longer clause went, and a literal's complement reaches one of its literals
  implied : {C : List ℕ} {l m : ℕ} → 2 < length C → Memᴰ l C → Memᴰ m C → Reach adj (twin l) m → Kept adj (standing C) dropped

-- a formula then, and now
pub data Since (adj : ℕ → List ℕ) : List Clause → List Clause → Type 0 where
  none : Since adj [] []
  each : {c d : Clause} {f g : List Clause} → Kept adj c d → Since adj f g → Since adj (c ∷ f) (d ∷ g)

-- a formula over so many variables, as the shape rule has it: literals in range, no variable twice in a clause
pub record Shaped (vars : ℕ) (f : List Clause) : Type 0 where
  pub below : (C : List ℕ) → Memᴰ (standing C) f → (l : ℕ) → Memᴰ l C → l < 2 * vars
  pub once : (C : List ℕ) → Memᴰ (standing C) f → Once C
