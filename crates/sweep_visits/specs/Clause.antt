-- What Sweep makes of a clause, by its literals and the stamps. Document 01: "Sweep (000, figures 5 and 6). Clauses of 0 or 1 literals are left. The figure 6 scan goes first .. a yes drops the clause. .. Otherwise figure 5 shortens"; for two literals document 02, CR 2, gives the yes.
-- Assumes nothing: these are definitions.
use Rattle.std.specs.Prelude.{true, false, List, [], ◌∷◌, map, ℤ}
use Rattle.literal.specs.Literals.{slot_of}
use Rattle.walk.specs.Walk.{Stamps}
use Rattle.hidden.specs.Hidden.{hidden_tautology, shorten}
use Rattle.tables.specs.Fates.{Fate, kept, left, dropped}

unfoldable pub sweep_clause : Stamps → List ℤ → Fate
sweep_clause σ [] = kept
sweep_clause σ (a ∷ []) = kept
sweep_clause σ (a ∷ b ∷ ls) = elim (hidden_tautology σ (map slot_of (a ∷ b ∷ ls))) [ true ↦ dropped | false ↦ left (shorten slot_of σ (a ∷ b ∷ ls)) ]
