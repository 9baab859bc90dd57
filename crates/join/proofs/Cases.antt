-- Worked cases of a join, computed on the definition, as one lemma over a list of cases. Assumes nothing.
use mathlib.Core.Path.{◌≡◌, refl}
use mathlib.Core.List.{List, [], ◌∷◌}
use Prim.Native.Nat.{ℕ}
use Prim.Native.String.{String}
use lib.ListN.{length}
use lib.IntN.{ℤ, pos, negsuc}
use Rattle.base.specs.Bytes.{bytes}
use Rattle.base.specs.Lists.{first, any_below}
use Rattle.literal.specs.Ranged.{total}
use Rattle.state.specs.Answers.{refusal_number, refusal_place}
use Rattle.dimacs.specs.Words.{words_at}
use Rattle.dimacs.specs.Header.{header, header_rest, fitting}
use Rattle.dimacs.specs.Text.{judge, judge_text, clauses_of}
use Rattle.join.specs.Links.{first_bad, link_in, unlinked, right_number, renumbered}
use Rattle.join.specs.Join.{join_clauses, judge_join}
use Rattle.std.specs.Prelude.{Result, Ok, Err}
use Rattle.dimacs.specs.declared.Header.{Header}
use Rattle.state.specs.declared.Refusal.{Refusal}

pub data Case : Type 0 where
  -- the texts, the links, V and the clauses
  joins : String → String → List ℕ → ℕ → List (List ℤ) → Case
  -- the texts, the links, a refusal's number and place
  refuses : String → String → List ℕ → ℕ → ℕ → Case

-- the number and the place of a refusal, or nothing
abbrev refused_by : Result Header Refusal → List ℕ
refused_by (Err r) = refusal_number r ∷ refusal_place r ∷ []
refused_by (Ok h) = []

abbrev pub Holds : Case → Type 0
Holds (joins left right links v cs) = (judge_join (bytes left) (bytes right) links ≡ fitting v (length cs) 0) × (join_clauses (bytes left) (bytes right) links ≡ cs)
Holds (refuses left right links number place) = refused_by (judge_join (bytes left) (bytes right) links) ≡ number ∷ place ∷ []

abbrev pub All : List Case → Type 0
All [] = Unit
All (k ∷ ks) = Holds k × All ks

abbrev pub cases : List Case
cases =
    -- no link: the right variables follow the left ones
    joins "p cnf 2 1\n1 -2 0\n" "p cnf 2 1\n-1 2 0\n" [] 4 ((pos 1 ∷ negsuc 1 ∷ []) ∷ (negsuc 2 ∷ pos 4 ∷ []) ∷ [])
    -- crossed links
    ∷ joins "p cnf 2 1\n1 -2 0\n" "p cnf 2 1\n-1 2 0\n" (1 ∷ 2 ∷ 2 ∷ 1 ∷ []) 2 ((pos 1 ∷ negsuc 1 ∷ []) ∷ (negsuc 1 ∷ pos 1 ∷ []) ∷ [])
    -- the right variable 2 is the left 1; 1 and 3 follow, in their order
    ∷ joins "p cnf 2 0\n" "p cnf 3 2\n-1 2 3 0 3 0\n" (1 ∷ 2 ∷ []) 4 ((negsuc 2 ∷ pos 1 ∷ pos 4 ∷ []) ∷ (pos 4 ∷ []) ∷ [])
    -- the empty clause on the right sets the mark, as on the left
    ∷ joins "p cnf 1 1\n1 0\n" "p cnf 1 1\n0\n" [] 2 ((pos 1 ∷ []) ∷ [] ∷ [])
    ∷ joins "p cnf 1 1\n0\n" "p cnf 1 1\n-1 0\n" (1 ∷ 1 ∷ []) 1 ([] ∷ (negsuc 0 ∷ []) ∷ [])
    -- a variable used twice: the left one, the right one
    ∷ refuses "p cnf 2 1\n1 -2 0\n" "p cnf 2 1\n-1 2 0\n" (1 ∷ 2 ∷ 1 ∷ 1 ∷ []) 15 1
    ∷ refuses "p cnf 2 1\n1 -2 0\n" "p cnf 2 1\n-1 2 0\n" (1 ∷ 2 ∷ 2 ∷ 2 ∷ []) 15 1
    -- out of range on the left, on the right, 0 on each side; a number left over
    ∷ refuses "p cnf 2 0\n" "p cnf 3 0\n" (3 ∷ 1 ∷ []) 15 0
    ∷ refuses "p cnf 3 0\n" "p cnf 2 0\n" (1 ∷ 3 ∷ []) 15 0
    ∷ refuses "p cnf 2 0\n" "p cnf 2 0\n" (1 ∷ 1 ∷ 0 ∷ 2 ∷ []) 15 1
    ∷ refuses "p cnf 2 0\n" "p cnf 2 0\n" (1 ∷ 0 ∷ []) 15 0
    ∷ refuses "p cnf 2 0\n" "p cnf 2 0\n" (1 ∷ 1 ∷ 2 ∷ []) 15 1
    -- the left text comes first, then the right one, then the links, then the limits
    ∷ refuses "p cnf 2 0\nx" "y" (7 ∷ []) 2 10
    ∷ refuses "p cnf 2 0\n" "y" (7 ∷ []) 2 0
    ∷ refuses "p cnf 1024 0\n" "p cnf 1 0\n" (1 ∷ 2 ∷ []) 15 0
    ∷ refuses "p cnf 1024 0\n" "p cnf 1 0\n" [] 3 0
    ∷ joins "p cnf 1024 0\n" "p cnf 1 0\n" (7 ∷ 1 ∷ []) 1024 []
    ∷ []

pub hold : All cases
unfolding header header_rest judge_text judge words_at clauses_of first any_below total first_bad link_in unlinked right_number renumbered join_clauses judge_join
hold = ((refl, refl), ((refl, refl), ((refl, refl), ((refl, refl), ((refl, refl), (refl, (refl, (refl, (refl, (refl, (refl, (refl, (refl, (refl, (refl, (refl, ((refl, refl), tt)))))))))))))))))
