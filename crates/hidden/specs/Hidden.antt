-- Document 01, Sweep: "The figure 6 scan goes first and .. a yes drops the clause. .. Otherwise figure 5 shortens: first, each literal that holds another literal of the clause goes; then, of the rest, each whose complement is held by another's complement."
-- "Interval p holds interval q when it begins no later and ends no earlier."
-- Document 02, CR 2: "For two literals the rule becomes: drop if, for one of its two edges p → q, p holds q and p is not q's parent."
-- The rules for one clause, on the slots of its literals, as functions of the stamps. Assumes nothing: these are definitions.
use Rattle.std.specs.Prelude.{ℕ, Bool, true, false, not, ◌&&◌, ◌||◌, List, [], ◌∷◌, map, reverse, leb, ltb, eqb}
use Rattle.base.specs.Lists.{any, filter}
use Rattle.literal.specs.Literals.{twin}
use Rattle.walk.specs.Walk.{Stamps}
use Rattle.walk.specs.Forest.{discovery_at, finish_at, parent_at}

-- interval a holds interval b: it begins no later and ends no earlier
unfoldable pub holds : Stamps → ℕ → ℕ → Bool
holds σ a b = leb (discovery_at σ a) (discovery_at σ b) && leb (finish_at σ b) (finish_at σ a)

unfoldable pub insert : Stamps → ℕ → List ℕ → List ℕ
insert σ x [] = x ∷ []
insert σ x (y ∷ ys) = elim (leb (discovery_at σ x) (discovery_at σ y)) [ true ↦ x ∷ y ∷ ys | false ↦ y ∷ insert σ x ys ]

-- a list sorted by discovery
unfoldable pub by_discovery : Stamps → List ℕ → List ℕ
by_discovery σ [] = []
by_discovery σ (x ∷ xs) = insert σ x (by_discovery σ xs)

-- ---- three and more literals: figure 6

-- lines 4 to 10 at one pos: on to the next pos, on to the next neg, or yes
unfoldable pub scan_at : Stamps → (List ℕ → Bool) → ℕ → List ℕ → Bool
scan_at σ next pos [] = false
scan_at σ next pos (neg ∷ negs) =
    elim (ltb (discovery_at σ pos) (discovery_at σ neg)) [
      | true ↦ next (neg ∷ negs)
      | false ↦ elim (ltb (finish_at σ neg) (finish_at σ pos)) [ true ↦ scan_at σ next pos negs | false ↦ true ]
    ]

-- the loop, over the sorted literals and the sorted complements
unfoldable pub scan : Stamps → List ℕ → List ℕ → Bool
scan σ [] negs = false
scan σ (pos ∷ poss) negs = scan_at σ (scan σ poss) pos negs

unfoldable pub figure6 : Stamps → List ℕ → Bool
figure6 σ C = scan σ (by_discovery σ C) (by_discovery σ (map twin C))

-- ---- two literals

-- the stamps show that the edge p → q is transitive: p holds q and p is not q's parent
unfoldable pub transitive : Stamps → ℕ → ℕ → Bool
transitive σ p q = holds σ p q && not (eqb (parent_at σ q) p)

-- (a ∨ b) has the edges −a → b and −b → a
unfoldable pub hidden_pair : Stamps → ℕ → ℕ → Bool
hidden_pair σ a b = transitive σ (twin a) b || transitive σ (twin b) a

-- ---- is the clause a hidden tautology?

unfoldable pub hidden_tautology : Stamps → List ℕ → Bool
hidden_tautology σ [] = false
hidden_tautology σ (a ∷ []) = false
hidden_tautology σ (a ∷ b ∷ []) = hidden_pair σ a b
hidden_tautology σ (a ∷ b ∷ c ∷ ls) = figure6 σ (a ∷ b ∷ c ∷ ls)

-- ---- figure 5: which literals are hidden?

-- the literals of C, with a slot each, that imply no other literal of C
unfoldable pub unhidden : {A : Type 0} → (A → ℕ) → (ℕ → ℕ → Bool) → List A → List A
unhidden slot implies C = filter (λ l. not (any (λ m. not (eqb m (slot l)) && implies (slot l) m) (map slot C))) C

-- "first, each literal that holds another literal of the clause goes; then, of the rest, each whose complement is held by another's complement"
unfoldable pub shorten : {A : Type 0} → (A → ℕ) → Stamps → List A → List A
shorten slot σ C = unhidden slot (λ l m. holds σ (twin m) (twin l)) (unhidden slot (holds σ) C)

-- ---- figure 5 as printed

-- C \ {l}
unfoldable pub without : ℕ → List ℕ → List ℕ
without l C = filter (λ m. not (eqb m l)) C

-- lines 2 to 4 and 6 to 8: an element that ends the wrong side of `finished` goes, with its literal; else `finished` becomes its finish
unfoldable pub loop : (ℕ → ℕ → Bool) → (ℕ → ℕ) → Stamps → ℕ → List ℕ → List ℕ → List ℕ
loop goes literal σ finished [] C = C
loop goes literal σ finished (x ∷ xs) C =
    elim (goes finished (finish_at σ x)) [
      | true ↦ loop goes literal σ finished xs (without (literal x) C)
      | false ↦ loop goes literal σ (finish_at σ x) xs C
    ]

-- lines 1 and 5: the first element gives `finished`, and the loop starts at the second
unfoldable pub loop_from : (ℕ → ℕ → Bool) → (ℕ → ℕ) → Stamps → List ℕ → List ℕ → List ℕ
loop_from goes literal σ [] C = C
loop_from goes literal σ (x ∷ xs) C = loop goes literal σ (finish_at σ x) xs C

-- over the literals by falling discovery: l goes if fin l > finished
unfoldable pub lines_pos : Stamps → List ℕ → List ℕ
lines_pos σ C = loop_from (λ finished f. ltb finished f) (λ l. l) σ (reverse (by_discovery σ C)) C

-- over the complements by rising discovery: l goes if fin (twin l) < finished
unfoldable pub lines_neg : Stamps → List ℕ → List ℕ
lines_neg σ C = loop_from (λ finished f. ltb f finished) twin σ (by_discovery σ (map twin C)) C

unfoldable pub figure5 : Stamps → List ℕ → List ℕ
figure5 σ C = lines_neg σ (lines_pos σ C)
