-- Document 02, CR 7: "For a drop and for each literal taken out, show the chain of literals. .. the ends are the two literals the rule names .. and the chain follows the parents. .. each chain is written as a DIMACS clause line".
-- A chain begins at the literal whose interval holds the other's and goes down to that other: each of its literals but the first has the one before it as parent.
-- Assumes nothing: these are definitions.
use Rattle.std.specs.Prelude.{ℕ, zero, suc, ◌+◌, ◌*◌, true, false, List, [], ◌∷◌, map, get_or, ℤ, pos}
use Rattle.literal.specs.Literals.{slot_of, eq_z}
use Rattle.stamps.specs.Fresh.{parent_in}
use Rattle.chains.specs.declared.Ends.{Ends}

-- the two ends of a chain
abbrev pub ends : ℤ → ℤ → Ends
ends top bottom = record { top = top; bottom = bottom }

-- from l up along the parents to `top`, in at most so many steps, with what was passed behind it
unfoldable pub climb : List ℤ → ℕ → ℤ → ℤ → List ℤ → List ℤ
climb links zero top l below = l ∷ below
climb links (suc steps) top l below = elim (eq_z l top) [ true ↦ l ∷ below | false ↦ climb links steps top (parent_in links (slot_of l)) (l ∷ below) ]

-- the chain between two ends. There are at most 2,048 literals, and under fresh stamps a climb to a literal that holds the other ends within 2,047 steps (law `chain_descends`)
unfoldable pub chain_of : List ℤ → Ends → List ℤ
chain_of links e = climb links 2047 e.top e.bottom []

abbrev pub chains_of : List ℤ → List Ends → List (List ℤ)
chains_of links es = map (chain_of links) es

-- ---- ends in a slice: top, bottom, top, bottom, ..

abbrev pub flat : List Ends → List ℤ
flat [] = []
flat (e ∷ es) = e.top ∷ e.bottom ∷ flat es

-- the k-th of them
abbrev pub ends_at : List ℤ → ℕ → Ends
ends_at xs k = ends (get_or xs (2 * k) (pos 0)) (get_or xs (2 * k + 1) (pos 0))

-- as clauses of one record
abbrev pub chain_at : List ℤ → List ℤ → ℕ → List (List ℤ)
chain_at links xs k = chain_of links (ends_at xs k) ∷ []
