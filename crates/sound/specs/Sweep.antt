-- Sweep on clauses of slots: a visit, a sweep that stops after k visits, and a pass that is resumed. The rules for one clause are those of crate hidden, applied as crate sweep applies them to literals.
-- Assumes nothing: these are definitions.
use Rattle.std.specs.Prelude.{ℕ, zero, suc, true, false, List, [], ◌∷◌}
use Rattle.walk.specs.Walk.{Stamps}
use Rattle.hidden.specs.Hidden.{hidden_tautology, shorten}
use Rattle.sound.specs.Formula.{Clause, dropped, standing}

-- a clause of 0 or 1 literals is left; a hidden tautology goes, and any other clause is shortened
unfoldable pub sweep_slots : Stamps → List ℕ → Clause
sweep_slots σ [] = standing []
sweep_slots σ (a ∷ []) = standing (a ∷ [])
sweep_slots σ (a ∷ b ∷ ls) = elim (hidden_tautology σ (a ∷ b ∷ ls)) [ true ↦ dropped | false ↦ standing (shorten (λ s. s) σ (a ∷ b ∷ ls)) ]

-- a dropped clause stays dropped
unfoldable pub on_standing : (List ℕ → Clause) → Clause → Clause
on_standing v dropped = dropped
on_standing v (standing C) = v C

abbrev pub sweep_visit : Stamps → Clause → Clause
sweep_visit σ c = on_standing (sweep_slots σ) c

-- the first k clauses visited, in rising number
unfoldable pub visit_first : (Clause → Clause) → ℕ → List Clause → List Clause
visit_first v zero f = f
visit_first v (suc k) [] = []
visit_first v (suc k) (c ∷ f) = v c ∷ visit_first v k f

-- n visits from clause c on: a pass that is resumed
unfoldable pub visit_from : (Clause → Clause) → ℕ → ℕ → List Clause → List Clause
visit_from v zero n f = visit_first v n f
visit_from v (suc c) n [] = []
visit_from v (suc c) n (x ∷ f) = x ∷ visit_from v c n f

abbrev pub sweep_first : ℕ → Stamps → List Clause → List Clause
sweep_first k σ f = visit_first (sweep_visit σ) k f
