-- A formula in DIMACS text that another simplifies: the same variables and the same satisfying assignments. Assumes nothing: these are definitions.
use Rattle.std.specs.Prelude.{ℕ, ◌≡◌, ◌↔◌, List, ℤ}
use Rattle.literal.specs.Assignments.{Assignment, Satisfies}
use Rattle.dimacs.specs.Text.{judge_text, text_clauses}
use Rattle.printing.specs.Printing.{text_of}
use Rattle.literal.specs.Ranged.{InClauses}
use Rattle.dimacs.specs.Header.{fitting}

-- the input is accepted with V variables; the text is `p cnf V N` and N clauses of literals 1 to V and complements, and an assignment satisfies the input's clauses exactly if it satisfies these
pub record Equivalent (input text : List ℕ) : Type 0 where
  pub variables : ℕ
  pub number : ℕ
  pub body : ℕ
  pub accepted : judge_text input ≡ fitting variables number body
  pub clauses : List (List ℤ)
  pub spelt : text ≡ text_of variables clauses
  pub ranged : InClauses variables clauses
  pub same : (τ : Assignment) → Satisfies τ (text_clauses input) ↔ Satisfies τ clauses

-- a text that a load accepts with v variables, whose clauses the same assignments satisfy as cs
pub record TextFor (v : ℕ) (cs : List (List ℤ)) (text : List ℕ) : Type 0 where
  pub number : ℕ
  pub body : ℕ
  pub accepted : judge_text text ≡ fitting v number body
  pub same : (τ : Assignment) → Satisfies τ (text_clauses text) ↔ Satisfies τ cs
