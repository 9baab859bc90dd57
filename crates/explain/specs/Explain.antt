-- The call. Document 02, CR 7: "For a clause number, give what Sweep will do: drop it, take out these literals, or nothing. .. The verdict, with the number of literals taken out (0 on a drop), is the result; each chain is written as a DIMACS clause line ..
-- Refusals 1, 4, 5 and 9 apply as for a Sweep that opens. It refuses with 13 a number outside 1 to N or a dropped clause, after 9, and last with 10." The tables and the state are only read. Assumes nothing: these are definitions.
use Rattle.std.specs.Prelude.{ℕ, zero, suc, ◌-◌, Bool, true, false, List, leb, ℤ, Result, Ok, Err}
use Rattle.stamp_columns.specs.Columns.{columns}
use Rattle.state.specs.declared.State.{State}
use Rattle.state.specs.declared.Answer.TheVariants.{Explained}
use Rattle.state.specs.declared.Refusal.{Refusal}
use Rattle.state.specs.declared.Refusal.TheVariants.{Stale, NoClause}
use Rattle.tables.specs.Tables.{Tables, standing}
use Rattle.tables.specs.Clauses.{literals_of}
use Rattle.entry.specs.Entry.{opening_of}
use Rattle.printing.specs.Printing.{clauses_text}
use Rattle.write.specs.Write.{AfterWrite, after_write, text_into}
use Rattle.chains.specs.Chains.{chains_of}
use Rattle.explain.specs.Reasons.{Reasons, reasons_of}

-- the lines of the chains
abbrev pub chains_text : List ℤ → Reasons → List ℕ
chains_text links r = clauses_text (chains_of links r.shown)

-- 10 comes last
abbrev pub explain_into : List ℤ → Reasons → List ℕ → AfterWrite
explain_into links r out = text_into (Explained r.verdict r.out) (chains_text links r) out

-- why of a clause with these literals, under these stamps
abbrev pub explain_literals : List ℕ → List ℤ → List ℤ → List ℕ → AfterWrite
explain_literals times links C out = explain_into links (reasons_of (columns times links) C) out

-- whether a clause of this number stands: by its record, for a number from 1 to N
abbrev pub stands_by : ℕ → Bool
stands_by zero = false
stands_by (suc _) = true

unfoldable pub stands : ℕ → ℕ → List ℕ → Bool
stands zero n clauses = false
stands (suc k) n clauses = elim (leb (suc k) n) [ true ↦ stands_by (standing clauses k) | false ↦ false ]

-- 13, after 9
abbrev pub explain_if : Bool → ℕ → Tables → List ℕ → AfterWrite
explain_if true number t out = explain_literals t.times t.links (literals_of t.clauses t.literals (number - 1)) out
explain_if false number t out = after_write (Err NoClause) out

abbrev pub explain_unless_stale : Bool → ℕ → Tables → State → List ℕ → AfterWrite
explain_unless_stale true number t st out = explain_if (stands number st.n t.clauses) number t out
explain_unless_stale false number t st out = after_write (Err Stale) out

-- 1, 4 and 5
abbrev pub explain_opening : Result (Unit {0}) Refusal → ℕ → Tables → State → List ℕ → AfterWrite
explain_opening (Err r) number t st out = after_write (Err r) out
explain_opening (Ok _) number t st out = explain_unless_stale st.fresh number t st out

unfoldable pub explain_call : ℕ → Tables → State → List ℕ → AfterWrite
explain_call number t st out = explain_opening (opening_of t st) number t st out
