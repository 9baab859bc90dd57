-- What an accepted call of explain says. Document 02, CR 7: "For a clause number, give what Sweep will do: drop it, take out these literals, or nothing. For a drop and for each literal taken out, show the chain of literals. ..
-- The verdict, with the number of literals taken out (0 on a drop), is the result; each chain is written as a DIMACS clause line, literals taken out in clause order. A drop or a literal is shown exactly if a Sweep's visit to that clause under these stamps drops it or takes it out."
-- The tables and the state are of any origin. Assumes nothing: these are definitions.
use Rattle.std.specs.Prelude.{ℕ, suc, ◌≤◌, ◌<◌, ◌≡◌, ◌↔◌, length, drop, ℤ, Ok}
use mathlib.Core.List.{List, [], ◌∷◌, ◌++◌, Memᴰ}
use Rattle.state.specs.Answers.{reply_of}
use Rattle.state.specs.declared.State.{State}
use Rattle.state.specs.declared.Verdict.{Verdict}
use Rattle.state.specs.declared.Verdict.TheVariants.{Nothing, Drop, Shorten}
use Rattle.state.specs.declared.Answer.TheVariants.{Explained}
use Rattle.tables.specs.Tables.{Tables}
use Rattle.printing.specs.Printing.{clauses_text}
use Rattle.write.specs.Write.{AfterWrite}
use Rattle.chains.specs.declared.Ends.{Ends}
use Rattle.chains.specs.Descending.{Descends}
use Rattle.paper.specs.Clauses.{clause_at, flag_at}
use Rattle.paper.specs.Sweeping.{Filtered, swept_at}
use Rattle.reasons.specs.Reasons.{DropReason, LiteralReason}

-- ---- the clause that is asked for

-- "a number outside 1 to N or a dropped clause" is none of a clause that stands
pub record Named (number : ℕ) (t : Tables) (st : State) : Type 0 where
  -- its record
  pub at : ℕ
  pub numbered : number ≡ suc at
  pub within : at < st.n
  pub stands : flag_at t at ≡ 1

-- ---- the chains

-- "the chain follows the parents", from the one end to the other
abbrev pub Between : Tables → Ends → List ℤ → Type 0
Between t e c = Descends t.links e.bottom e.top c

-- the chain of a dropped clause
pub record DropShown (t : Tables) (C : List ℤ) (chains : List (List ℤ)) : Type 0 where
  pub ends : Ends
  pub reason : DropReason t C ends
  pub chain : List ℤ
  pub follows : Between t ends chain
  pub only : chains ≡ chain ∷ []

-- a chain for each literal of a list, in its order
pub data LiteralsShown (t : Tables) (C : List ℤ) : List ℤ → List (List ℤ) → Type 0 where
  none : LiteralsShown t C [] []
  more : {l : ℤ} {ls c : List ℤ} {cs : List (List ℤ)} (e : Ends) → LiteralReason t C l e → Between t e c → LiteralsShown t C ls cs → LiteralsShown t C (l ∷ ls) (c ∷ cs)

-- the literals of C that are not in D, in clause order, with a chain each
pub record TakenShown (t : Tables) (C D : List ℤ) (count : ℕ) (chains : List (List ℤ)) : Type 0 where
  pub taken : List ℤ
  pub missing : Filtered (λ l. Memᴰ l D → ⊥) C taken
  pub number : count ≡ length taken
  pub shown : LiteralsShown t C taken chains

-- ---- the verdict

-- it says what a visit does to a clause with the literals C, which then has this flag and the literals D
pub record Judges (verdict : Verdict) (C : List ℤ) (flag : ℕ) (D : List ℤ) : Type 0 where
  pub drops : (verdict ≡ Drop) ↔ (flag ≡ 0)
  pub shortens : (verdict ≡ Shorten) ↔ ((flag ≡ 1) × (length D < length C))
  pub leaves : (verdict ≡ Nothing) ↔ ((flag ≡ 1) × (D ≡ C))

-- ---- the call

pub record ExplainedAs (number : ℕ) (t : Tables) (st : State) (out : List ℕ) (a : AfterWrite) : Type 0 where
  pub named : Named number t st
  pub verdict : Verdict
  pub count : ℕ
  pub chains : List (List ℤ)
  -- the answer, with the length written; "each chain is written as a DIMACS clause line"; later bytes stay
  pub reply : a.reply ≡ reply_of (Ok (Explained verdict count (length (clauses_text chains))))
  pub fits : length (clauses_text chains) ≤ length out
  pub written : a.out ≡ clauses_text chains ++ drop (length (clauses_text chains)) out
  -- the verdict is what a Sweep's visit to the clause does
  pub judges : Judges verdict (clause_at t named.at) (flag_at (swept_at t named.at) named.at) (clause_at (swept_at t named.at) named.at)
  -- "(0 on a drop)", and what is shown
  pub drop_shown : verdict ≡ Drop → (count ≡ 0) × DropShown t (clause_at t named.at) chains
  pub taken_shown : verdict ≡ Shorten → TakenShown t (clause_at t named.at) (clause_at (swept_at t named.at) named.at) count chains
  pub nothing_shown : verdict ≡ Nothing → (count ≡ 0) × (chains ≡ [])
