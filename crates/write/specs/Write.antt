-- Document 01: "Write gives the header with the number of clauses that follow; one unit per value by rising variable; for each v with class c other than v, `v −c` and `−v c` by rising v; then the standing clauses. ..
-- Under the mark it is `p cnf V 1`, LF, `0`, LF. Later bytes stay." Refusal 1, then 10 with the length needed. Assumes nothing: these are definitions.
use Rattle.std.specs.Prelude.{ℕ, zero, suc, ◌*◌, Bool, true, false, List, [], ◌∷◌, ◌++◌, length, take, drop, leb, ℤ, pos, neg_ℤ, nat_abs, Result, Ok, Err}
use Rattle.std.specs.Int.Signed.{non_neg}
use Rattle.literal.specs.Literals.{eq_z, lit_by}
use Rattle.state.specs.Answers.{Reply, reply_of}
use Rattle.state.specs.declared.State.{State}
use Rattle.state.specs.declared.Answer.{Answer}
use Rattle.state.specs.declared.Answer.TheVariants.{Written}
use Rattle.state.specs.declared.Refusal.{Refusal}
use Rattle.state.specs.declared.Refusal.TheVariants.{Shape, Short}
use Rattle.tables.specs.Tables.{Tables}
use Rattle.shape.specs.Decision.{shape_ok}
use Rattle.printing.specs.Printing.{text_of}

-- the units of the variables' records (class, value), by rising variable from v on. Document 02, CR 4: "Write still gives units .. only for variables that are their own class."
abbrev pub units_of : ℕ → List ℤ → List (List ℤ)
units_of v [] = []
units_of v (_ ∷ []) = []
units_of v (class ∷ value ∷ rs) =
    elim (eq_z class (pos v)) [
      | true ↦ elim (nat_abs value) [ zero ↦ units_of (suc v) rs | suc _ ↦ (lit_by (non_neg value) v ∷ []) ∷ units_of (suc v) rs ]
      | false ↦ units_of (suc v) rs
    ]

-- (v or not c) and (not v or c) for each variable v whose class c is another literal
abbrev pub class_clauses : ℕ → List ℤ → List (List ℤ)
class_clauses v [] = []
class_clauses v (_ ∷ []) = []
class_clauses v (class ∷ value ∷ rs) =
    elim (eq_z class (pos v)) [
      | true ↦ class_clauses (suc v) rs
      | false ↦ (pos v ∷ neg_ℤ class ∷ []) ∷ (neg_ℤ (pos v) ∷ class ∷ []) ∷ class_clauses (suc v) rs
    ]

-- the clauses that stand, by the records (start, length, standing)
abbrev pub standing_clauses : List ℕ → List ℤ → List (List ℤ)
standing_clauses [] ls = []
standing_clauses (_ ∷ []) ls = []
standing_clauses (_ ∷ _ ∷ []) ls = []
standing_clauses (start ∷ size ∷ standing ∷ rs) ls =
    elim standing [ zero ↦ standing_clauses rs ls | suc _ ↦ take size (drop start ls) ∷ standing_clauses rs ls ]

-- under the mark the empty clause alone
abbrev pub written_by : Bool → ℕ → ℕ → Tables → List (List ℤ)
written_by true v n t = [] ∷ []
written_by false v n t = units_of 1 (take (2 * v) t.variables) ++ (class_clauses 1 (take (2 * v) t.variables) ++ standing_clauses (take (3 * n) t.clauses) t.literals)

-- the clauses that Write gives
unfoldable pub written_clauses : Tables → State → List (List ℤ)
written_clauses t st = written_by st.mark st.v st.n t

unfoldable pub write_text : Tables → State → List ℕ
write_text t st = text_of st.v (written_clauses t st)

-- what the call leaves: its reply and the output; the tables are only read
pub record AfterWrite : Type 0 where
  pub reply : Reply
  pub out : List ℕ

abbrev pub after_write : Result Answer Refusal → List ℕ → AfterWrite
after_write a out = record { reply = reply_of a; out = out }

-- a text into an output: all of it, with an answer that says its length, and later bytes stay; or refusal 10 with the length needed, and nothing changes
abbrev pub text_into : (ℕ → Answer) → List ℕ → List ℕ → AfterWrite
text_into answer text out =
    elim (leb (length text) (length out)) [
      | true ↦ after_write (Ok (answer (length text))) (text ++ drop (length text) out)
      | false ↦ after_write (Err (Short (length text))) out
    ]

abbrev pub write_into : List ℕ → List ℕ → AfterWrite
write_into text out = text_into Written text out

-- the call
unfoldable pub write_call : Tables → State → List ℕ → AfterWrite
write_call t st out = elim (shape_ok t st) [ true ↦ write_into (write_text t st) out | false ↦ after_write (Err Shape) out ]
