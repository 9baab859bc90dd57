-- Document 01: "Our solver, a C program, hands over text, round count and output buffer in a single call and gets the refusal number, negative, or the length written; here too a marked load is written without a run."
-- "`unhide` reads standard input, runs one round (none if the load set the mark) and prints what Write gives into 65,536 bytes. More than 65,535 bytes of input are refused unread with 3 at 65,535. ..
-- On a refusal it prints `refused`, the number and the place in decimal, single spaces between, LF." Assumes nothing: these are definitions.
use Rattle.std.specs.Prelude.{ℕ, zero, suc, ◌≤◌, ◌≡◌, Bool, true, false, List, take, replicate, length, ltb, ℤ, pos}
use Rattle.state.specs.States.{empty_state}
use Rattle.state.specs.Answers.{Reply, first_value, result_by}
use Rattle.tables.specs.Tables.{Tables, tables}
use Rattle.tables.specs.Calls.{After}
use Rattle.load.specs.Load.{load_call}
use Rattle.printing.specs.Printing.{refused_line}
use Rattle.write.specs.Write.{AfterWrite, write_call}
use Rattle.run.specs.Run.{run_call}

-- tables of the stated sizes that hold 0
abbrev pub empty_tables : Tables
empty_tables = tables (replicate 12288 0) (replicate 16384 (pos 0)) (replicate 2048 (pos 0)) (replicate 4096 0) (replicate 4096 (pos 0))

-- what stands is written, or the output keeps its bytes and the refusal is answered
abbrev pub write_after : ℕ → After → List ℕ → AfterWrite
write_after zero a out = write_call a.tables a.state out
write_after (suc number) a out = record { reply = a.reply; out = out }

-- a marked load is written without a run
abbrev pub run_unless : Bool → ℕ → After → After
run_unless true count a = a
run_unless false count a = run_call count a.tables a.state

abbrev pub simplify_loaded : ℕ → ℕ → After → List ℕ → AfterWrite
simplify_loaded zero count a out = write_after 0 (run_unless a.state.mark count a) out
simplify_loaded (suc number) count a out = write_after (suc number) a out

-- load into some tables, run, write
abbrev pub simplify_in : Tables → List ℕ → ℕ → List ℕ → AfterWrite
simplify_in t text count out = simplify_loaded (load_call text t empty_state).reply.number count (load_call text t empty_state) out

unfoldable pub simplify_text : List ℕ → ℕ → List ℕ → AfterWrite
simplify_text text count out = simplify_in empty_tables text count out

-- ---- the C call

-- the refusal's number, negative, or the length written
abbrev pub result_of : Reply → ℤ
result_of r = result_by r.number (first_value r.values)

-- the length written, if one is, lies within an output of so many bytes
abbrev pub fits : Reply → ℕ → Type 0
fits r n = r.number ≡ 0 → first_value r.values ≤ n

-- ---- the program

abbrev pub shown : ℕ → List ℕ → List ℕ → List ℕ
shown zero values out = take (first_value values) out
shown (suc number) values out = refused_line (suc number) (first_value values)

abbrev pub shown_after : AfterWrite → List ℕ
shown_after a = shown a.reply.number a.reply.values a.out

-- what the program prints for an input
unfoldable pub unhide_text : List ℕ → List ℕ
unhide_text input = elim (ltb 65535 (length input)) [ true ↦ refused_line 3 65535 | false ↦ shown_after (simplify_text input 1 (replicate 65536 0)) ]
