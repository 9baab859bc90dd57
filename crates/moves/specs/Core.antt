-- What stands, over slots: clauses, classes, values and the mark; which assignments satisfy it; and what it has to do with the loaded formula.
-- Assumes nothing: these are definitions.
use Rattle.std.specs.Prelude.{ℕ, ◌≡◌, Bool, true, false, ◌||◌, get_or, set, eqb}
use mathlib.Core.List.{List, map, Sublistᴰ}
use Rattle.literal.specs.Literals.{twin}
use Rattle.literal.specs.Assignments.{Assignment}
use Rattle.sound.specs.Formula.{Clause, dropped, standing, value, True, Models}

-- class: the class literal of each literal; facts: the literals whose value is true; mark: no assignment is left
pub record Core : Type 0 where
  pub clauses : List Clause
  pub class : ℕ → ℕ
  pub facts : ℕ → Bool
  pub mark : Bool

-- an assignment satisfies what stands
pub record ModelOf (k : Core) (τ : Assignment) : Type 0 where
  pub unmarked : k.mark ≡ false
  pub models : Models τ k.clauses
  pub classes : (s : ℕ) → value τ s ≡ value τ (k.class s)
  pub met : (s : ℕ) → k.facts s ≡ true → True τ s

-- after a load, each class is the literal itself, and there are no values
abbrev pub load : List Clause → Core
load f = record { clauses = f; class = λ s. s; facts = λ s. false; mark = false }

-- the clause with record i
abbrev pub core_clause : Core → ℕ → Clause
core_clause k i = get_or k.clauses i dropped

abbrev pub with_clauses : List Clause → Core → Core
with_clauses f k = record { clauses = f; class = k.class; facts = k.facts; mark = k.mark }

-- clause i becomes c
abbrev pub put : ℕ → Clause → Core → Core
put i c k = with_clauses (set k.clauses i c) k

-- class literal t gets the value true, and so does every literal of which it is the class literal
abbrev pub learn : ℕ → Core → Core
learn t k = record { clauses = k.clauses; class = k.class; facts = λ s. eqb (k.class s) t || k.facts s; mark = k.mark }

abbrev pub marked_core : Core → Core
marked_core k = record { clauses = k.clauses; class = k.class; facts = k.facts; mark = true }

-- older classes pass through the new
abbrev pub regroup : (ℕ → ℕ) → Core → Core
regroup ρ k = record { clauses = k.clauses; class = λ s. ρ (k.class s); facts = k.facts; mark = k.mark }

-- a literal is true or false as the value of its class literal says
abbrev pub core_true : Core → ℕ → Bool
core_true k l = k.facts (k.class l)

abbrev pub core_false : Core → ℕ → Bool
core_false k l = k.facts (twin (k.class l))

-- every standing clause is the loaded one of its number with literals left out and the others in their order, once class literals are put in on both sides; and a class literal is its own class
pub record Traced (f : List Clause) (k : Core) : Type 0 where
  pub part : (i : ℕ) (D : List ℕ) → core_clause k i ≡ standing D → (C : List ℕ) × (get_or f i dropped ≡ standing C) × Sublistᴰ (map k.class D) (map k.class C)
  pub once : (s : ℕ) → k.class (k.class s) ≡ k.class s
