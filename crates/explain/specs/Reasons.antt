-- Why Sweep's rule drops a clause or takes literals out of it. Document 02, CR 7: "the ends are the two literals the rule names (of several, the earliest in the clause, first end first)"; "literals taken out in clause order".
-- A chain from p to q shows that p implies q. So the ends are, for a dropped clause, −a and b of two literals a and b of the clause; for a literal l that is taken out, l and another literal of the clause, or −m and −l for another literal m of it.
-- Assumes nothing: these are definitions.
use Rattle.std.specs.Prelude.{ℕ, Bool, true, false, not, ◌&&◌, List, [], ◌∷◌, map, length, drop, eqb, ℤ, pos, neg_ℤ, Option, Some, None, unwrap_or}
use Rattle.std.specs.List.{find}
use Rattle.literal.specs.Literals.{slot_of, eq_z}
use Rattle.walk.specs.Walk.{Stamps}
use Rattle.hidden.specs.Hidden.{holds, transitive, unhidden}
use Rattle.state.specs.declared.Verdict.{Verdict}
use Rattle.state.specs.declared.Verdict.TheVariants.{Nothing, Drop, Shorten}
use Rattle.tables.specs.Fates.{Fate, kept, left, dropped, unit, conflict}
use Rattle.sweep_visits.specs.Clause.{sweep_clause}
use Rattle.chains.specs.declared.Ends.{Ends}
use Rattle.chains.specs.Chains.{ends}

-- ---- the earliest literal

-- the interval of l holds that of m, another literal
unfoldable pub holds_other : Stamps → ℤ → ℤ → Bool
holds_other σ l m = not (eqb (slot_of m) (slot_of l)) && holds σ (slot_of l) (slot_of m)

-- the first literal of C, other than l, that l holds
abbrev pub first_held : Stamps → List ℤ → ℤ → Option ℤ
first_held σ C l = find (holds_other σ l) C

-- the first literal of C, other than l, whose complement holds that of l
abbrev pub first_holder : Stamps → List ℤ → ℤ → Option ℤ
first_holder σ C l = find (λ m. holds_other σ (neg_ℤ m) (neg_ℤ l)) C

-- ---- a dropped clause

-- of the two edges of (a ∨ b) the first that is the reason
abbrev pub pair_ends : Stamps → ℤ → ℤ → Ends
pair_ends σ a b = elim (transitive σ (slot_of (neg_ℤ a)) (slot_of b)) [ true ↦ ends (neg_ℤ a) b | false ↦ ends (neg_ℤ b) a ]

-- the first a of a list whose complement holds a literal of C, and the first such literal. A clause without v and −v has no complement of its literals, so "another" leaves none out here
unfoldable pub long_ends : Stamps → List ℤ → List ℤ → Option Ends
long_ends σ C [] = None
long_ends σ C (a ∷ more) = elim (first_held σ C (neg_ℤ a)) [ Some b ↦ Some (ends (neg_ℤ a) b) | None ↦ long_ends σ C more ]

-- what stands for ends, or for a literal, that are not there: a clause that Sweep's rule drops or shortens has them (laws `long_named`, `literal_named`)
abbrev pub no_ends : Ends
no_ends = ends (pos 0) (pos 0)

unfoldable pub drop_ends : Stamps → List ℤ → Ends
drop_ends σ [] = unwrap_or (long_ends σ [] []) no_ends
drop_ends σ (a ∷ []) = unwrap_or (long_ends σ (a ∷ []) (a ∷ [])) no_ends
drop_ends σ (a ∷ b ∷ []) = pair_ends σ a b
drop_ends σ (a ∷ b ∷ c ∷ ls) = unwrap_or (long_ends σ (a ∷ b ∷ c ∷ ls) (a ∷ b ∷ c ∷ ls)) no_ends

-- ---- a literal that is taken out

-- by the first rule of figure 5 if l holds another literal of C, else by the second, among `rest`
abbrev pub ends_in : Stamps → List ℤ → List ℤ → ℤ → Ends
ends_in σ C rest l = elim (first_held σ C l) [ Some m ↦ ends l m | None ↦ ends (neg_ℤ (unwrap_or (first_holder σ rest l) (pos 0))) (neg_ℤ l) ]

-- the rest is what the first rule leaves of C
unfoldable pub literal_ends : Stamps → List ℤ → ℤ → Ends
literal_ends σ C l = ends_in σ C (unhidden slot_of (holds σ) C) l

-- ---- the clause

-- whether a list begins with l
abbrev pub begins : ℤ → List ℤ → Bool
begins l [] = false
begins l (d ∷ D) = eq_z d l

-- the literals of C that are not in D, where D is C with literals left out
unfoldable pub left_out : List ℤ → List ℤ → List ℤ
left_out [] D = []
left_out (l ∷ C) D = elim (begins l D) [ true ↦ left_out C (drop 1 D) | false ↦ l ∷ left_out C D ]

-- the verdict, how many literals are taken out, and the ends of the chains that show it
pub record Reasons : Type 0 where
  pub verdict : Verdict
  pub out : ℕ
  pub shown : List Ends

abbrev pub reasons : Verdict → ℕ → List Ends → Reasons
reasons verdict out shown = record { verdict = verdict; out = out; shown = shown }

-- these literals are taken out of C
abbrev pub taken_out : Stamps → List ℤ → List ℤ → Reasons
taken_out σ C [] = reasons Nothing 0 []
taken_out σ C (l ∷ ls) = reasons Shorten (length (l ∷ ls)) (map (literal_ends σ C) (l ∷ ls))

-- by what Sweep's rule makes of the clause. The last two cases are no fates of that rule (law `sweep-cases`)
abbrev pub reasons_by : Fate → Stamps → List ℤ → Reasons
reasons_by kept σ C = reasons Nothing 0 []
reasons_by (left D) σ C = taken_out σ C (left_out C D)
reasons_by dropped σ C = reasons Drop 0 (drop_ends σ C ∷ [])
reasons_by (unit l) σ C = reasons Drop 0 (drop_ends σ C ∷ [])
reasons_by conflict σ C = reasons Drop 0 (drop_ends σ C ∷ [])

-- the verdict and the literals are those of a Sweep's visit: `sweep_clause` is its rule
abbrev pub reasons_of : Stamps → List ℤ → Reasons
reasons_of σ C = reasons_by (sweep_clause σ C) σ C
