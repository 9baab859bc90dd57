-- Document 02, CR 11: "Join two departments' formulas .. by a link table .. Left clauses come first. .. Both come as texts and the left is read first, with refusals 2 and 3 as in a load ..
-- After both are read, it refuses with 15 the first link with a variable out of range or used before on its side, with the pair's index, and last with 3 at place 0 a join above the limits." Assumes nothing: these are definitions.
use Rattle.std.specs.Prelude.{ℕ, ◌+◌, Bool, true, false, ◌&&◌, List, ◌++◌, leb, ltb, ℤ, Result, Ok, Err}
use Rattle.literal.specs.Ranged.{total}
use Rattle.state.specs.declared.Refusal.{Refusal}
use Rattle.state.specs.declared.Refusal.TheVariants.{Limit, Link}
use Rattle.dimacs.specs.Text.{judge_text, text_clauses}
use Rattle.dimacs.specs.Header.{fitting}
use Rattle.dimacs.specs.declared.Header.{Header}
use Rattle.join.specs.Links.{pair_count, first_bad, joined_variables, renumbered_clauses}

-- ---- the clauses

abbrev pub variables_by : Result Header Refusal → ℕ
variables_by (Err r) = 0
variables_by (Ok h) = h.v

-- the left clauses as written, then the right ones renumbered
unfoldable pub join_clauses : List ℕ → List ℕ → List ℕ → List (List ℤ)
join_clauses left right links = text_clauses left ++ renumbered_clauses (variables_by (judge_text left)) links (text_clauses right)

-- ---- the verdict

-- the limits: variables, clauses, literals as written
abbrev pub within_limits : ℕ → ℕ → List (List ℤ) → Bool
within_limits v n cs = leb v 1024 && (leb n 4096 && leb (total cs) 16384)

-- two texts that fit: v variables and n clauses, w and m; their clauses are cs. A join has no body of its own: the verdict says 0
abbrev pub judge_linked : ℕ → ℕ → ℕ → ℕ → List ℕ → List (List ℤ) → Result Header Refusal
judge_linked v n w m links cs =
    elim (ltb (first_bad v w links) (pair_count links)) [
      | true ↦ Err (Link (first_bad v w links))
      | false ↦ elim (within_limits (joined_variables v w links) (n + m) cs) [ true ↦ fitting (joined_variables v w links) (n + m) 0 | false ↦ Err (Limit 0) ]
    ]

-- by the verdicts on the two texts, the left one first
abbrev pub judge_both : Result Header Refusal → Result Header Refusal → List ℕ → List (List ℤ) → Result Header Refusal
judge_both (Err r) right links cs = Err r
judge_both (Ok h) (Err r) links cs = Err r
judge_both (Ok h) (Ok g) links cs = judge_linked h.v h.n g.v g.n links cs

unfoldable pub judge_join : List ℕ → List ℕ → List ℕ → Result Header Refusal
judge_join left right links = judge_both (judge_text left) (judge_text right) links (join_clauses left right links)
