-- Document 02, CR 11: "Both come as texts and the left is read first, with refusals 2 and 3 as in a load; in all else too the call counts as one .. After both are read, it refuses with 15 the first link with a variable out of range or used before on its side,
-- with the pair's index, and last with 3 at place 0 a join above the limits." Assumes nothing: these are definitions.
use Rattle.std.specs.Prelude.{ℕ, ◌+◌, ◌≤◌, ◌<◌, ◌≡◌, ◌⊎◌, List}
use Rattle.literal.specs.Ranged.{total}
use Rattle.state.specs.declared.State.{State}
use Rattle.state.specs.declared.Refusal.{Refusal}
use Rattle.state.specs.declared.Refusal.TheVariants.{Shape, Limit, Link}
use Rattle.tables.specs.Tables.{Tables}
use Rattle.tables.specs.Long.{Long}
use Rattle.tables.specs.Calls.{refuse}
use Rattle.dimacs.specs.Text.{judge_text, text_clauses}
use Rattle.load.specs.Load.{accept, join_call}
use Rattle.join.specs.Links.{pair_count, left_of, right_of, joined_variables}
use Rattle.join.specs.Join.{join_clauses}
use Rattle.std.specs.Prelude.{Err}
use Rattle.dimacs.specs.Header.{fitting}

-- ---- the links

-- the variable of pair i on one side is none of 1 to v, or that of an earlier pair
pub data BadSide (v : ℕ) (side : ℕ → ℕ) (i : ℕ) : Type 0 where
  none : side i ≡ 0 → BadSide v side i
  over : v < side i → BadSide v side i
  used : (j : ℕ) → j < i → side j ≡ side i → BadSide v side i

-- with v variables on the left and w on the right
abbrev pub BadLink : ℕ → ℕ → List ℕ → ℕ → Type 0
BadLink v w links i = BadSide v (left_of links) i ⊎ BadSide w (right_of links) i

-- pair i is the first bad one
pub record FirstBad (v w : ℕ) (links : List ℕ) (i : ℕ) : Type 0 where
  pub within : i < pair_count links
  pub bad : BadLink v w links i
  pub earlier : (j : ℕ) → j < i → BadLink v w links j → ⊥

-- ---- two texts that fit, v variables and n clauses, w and m

pub record Reads (left right : List ℕ) (v n w m : ℕ) : Type 0 where
  pub left_body : ℕ
  pub right_body : ℕ
  pub left_fits : judge_text left ≡ fitting v n left_body
  pub right_fits : judge_text right ≡ fitting w m right_body

-- how many literals both have as written
abbrev pub literals_in : List ℕ → List ℕ → ℕ
literals_in left right = total (text_clauses left) + total (text_clauses right)

-- ---- the call, by the first of these that holds

pub record JoinAnswers (left right links : List ℕ) (t : Tables) (st : State) : Type 0 where
  -- a table is shorter than stated
  pub short : (Long t → ⊥) → join_call left right links t st ≡ refuse Shape st t
  -- the left text is refused, as in a load
  pub left_text : Long t → (r : Refusal) → judge_text left ≡ Err r → join_call left right links t st ≡ refuse r st t
  -- the right text is
  pub right_text : Long t → (v n body : ℕ) → judge_text left ≡ fitting v n body → (r : Refusal) → judge_text right ≡ Err r → join_call left right links t st ≡ refuse r st t
  -- a link is bad
  pub link : Long t → (v n w m : ℕ) → Reads left right v n w m → (i : ℕ) → FirstBad v w links i → join_call left right links t st ≡ refuse (Link i) st t
  -- no link is bad, and the join is above a limit
  pub limit : Long t → (v n w m : ℕ) → Reads left right v n w m → ((i : ℕ) → i < pair_count links → BadLink v w links i → ⊥)
      → (1024 < joined_variables v w links) ⊎ ((4096 < n + m) ⊎ (16384 < literals_in left right)) → join_call left right links t st ≡ refuse (Limit 0) st t
  -- none of these
  pub accepted : Long t → (v n w m : ℕ) → Reads left right v n w m → ((i : ℕ) → i < pair_count links → BadLink v w links i → ⊥)
      → joined_variables v w links ≤ 1024 → n + m ≤ 4096 → literals_in left right ≤ 16384 → join_call left right links t st ≡ accept (joined_variables v w links) (n + m) (join_clauses left right links) t
