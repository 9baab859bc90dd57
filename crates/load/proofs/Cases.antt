-- Worked cases of document 01, computed on the definition, as one lemma over a list of cases: loads with the tables that they leave, and refusals with their numbers and offsets.
-- Assumes nothing.
use mathlib.Core.Path.{◌≡◌, refl}
use mathlib.Core.Bool.{Bool, true, false}
use mathlib.Core.List.{List, [], ◌∷◌, ◌++◌}
use Prim.Native.Nat.{ℕ, zero, suc}
use native.Mathlib.Decide.{dec_le}
use native.Mathlib.Omega.{arith}
use lib.ListN.{length, take, drop, replicate}
use lib.IntN.{ℤ, pos, negsuc}
use Rattle.base.specs.Bytes.{bytes}
use Rattle.base.specs.Decide.{and?, so?}
use Rattle.state.specs.Programmes.{programme_of}
use Rattle.state.specs.States.{state, loaded_state}
use Rattle.state.specs.Answers.{Reply, reply, refusal_number, refusal_place}
use Rattle.state.specs.declared.State.{State}
use Rattle.state.specs.declared.Pass.TheVariants.{Sweep}
use Rattle.tables.specs.Tables.{Tables, tables}
use Rattle.tables.specs.Long.{long_ok, long?}
use Rattle.tables.specs.Calls.{After}
use Rattle.dimacs.specs.Words.{words_at}
use Rattle.dimacs.specs.Header.{header, header_rest, fitting}
use Rattle.dimacs.specs.Text.{judge, judge_text, clauses_of}
use Rattle.std.specs.Prelude.{Result, Ok, Err}
use Rattle.state.specs.declared.Refusal.{Refusal}
use Rattle.dimacs.specs.declared.Header.{Header}
use Rattle.load.specs.Load.{load_formula, load_call, laid, clause_records, literal_places, variable_records}

-- ---- what a load starts from: tables that hold 7 everywhere, with one place more than stated, and a state with an open pass, fresh stamps and a programme of its own
abbrev lent : ℕ → Tables
lent c = tables (replicate c 7) (replicate 16385 (pos 7)) (replicate 2049 (pos 7)) (replicate 4096 7) (replicate 4096 (pos 7))

abbrev before : State
before = state 9 9 (Sweep 3) true false (programme_of (1 ∷ []))

-- ---- what is compared of a load: the reply, the state, the fronts of the tables, and the last stated place of each with the place behind it
pub record View : Type 0 where
  pub reply : Reply
  pub state : State
  pub clauses : List ℕ
  pub literals : List ℤ
  pub variables : List ℤ
  pub clauses_end : List ℕ
  pub literals_end : List ℤ
  pub variables_end : List ℤ

abbrev pub view : ℕ → ℕ → ℕ → After → View
view c l w a = record {
  reply = a.reply;
  state = a.state;
  clauses = take c a.tables.clauses;
  literals = take l a.tables.literals;
  variables = take w a.tables.variables;
  clauses_end = drop 12287 a.tables.clauses;
  literals_end = drop 16383 a.tables.literals;
  variables_end = drop 2047 a.tables.variables;
}

-- ---- texts that are loaded, and tables that are too short
pub data Case : Type 0 where
  -- V, N, the mark, and the fronts of the clause table, of the literal table and of the variable table
  loads : List ℕ → ℕ → ℕ → Bool → List ℕ → List ℤ → List ℤ → Case
  -- the clause table is shorter than stated by one place
  short : List ℕ → Case

abbrev pub Holds : Case → Type 0
Holds (loads text v n mark c l w) =
    view (length c) (length l) (length w) (load_call text (lent 12289) before)
    ≡ record {
      reply = reply 1 0 [];
      state = loaded_state v n mark;
      clauses = c;
      literals = l;
      variables = w;
      clauses_end = 0 ∷ 7 ∷ [];
      literals_end = pos 0 ∷ pos 7 ∷ [];
      variables_end = pos 0 ∷ pos 7 ∷ [];
    }
Holds (short text) = load_call text (lent 12287) before ≡ record { reply = reply 0 1 (0 ∷ []); state = before; tables = lent 12287 }

abbrev pub All : List Case → Type 0
All [] = Unit
All (k ∷ ks) = Holds k × All ks

abbrev pub cases : List Case
cases =
    -- no variable and no clause
    loads (bytes "p cnf 0 0\n") 0 0 false (0 ∷ []) (pos 0 ∷ []) (pos 0 ∷ [])
    -- the input of document 01
    ∷ loads (bytes "p cnf 4 3\n-1 2 0\n-2 3 0\n1 3 4 0\n") 4 3 false (0 ∷ 2 ∷ 1 ∷ 2 ∷ 2 ∷ 1 ∷ 4 ∷ 3 ∷ 1 ∷ 0 ∷ [])
    (negsuc 0 ∷ pos 2 ∷ negsuc 1 ∷ pos 3 ∷ pos 1 ∷ pos 3 ∷ pos 4 ∷ pos 0 ∷ [])
    (pos 1 ∷ pos 0 ∷ pos 2 ∷ pos 0 ∷ pos 3 ∷ pos 0 ∷ pos 4 ∷ pos 0 ∷ pos 0 ∷ [])
    -- P11
    ∷ loads (bytes "p cnf 1024 0\n") 1024 0 false (0 ∷ []) (pos 0 ∷ []) (pos 1 ∷ pos 0 ∷ pos 2 ∷ pos 0 ∷ [])
    -- comment lines, all separators, no LF at the end, a repeat, the empty clause, a dropped clause
    ∷ loads (bytes "c a\nc\np cnf 3 4\n\t1\r\n1 2 0 0 3 -3 0\n\n  -2 0") 3 4 true (0 ∷ 2 ∷ 1 ∷ 2 ∷ 0 ∷ 1 ∷ 2 ∷ 0 ∷ 0 ∷ 2 ∷ 1 ∷ 1 ∷ 0 ∷ [])
    (pos 1 ∷ pos 2 ∷ negsuc 1 ∷ pos 0 ∷ [])
    (pos 1 ∷ pos 0 ∷ [])
    -- a repeat and a dropped clause: the mark is off
    ∷ loads (bytes "p cnf 3 3\n2 1 2 0 3 1 -3 0 -2 0") 3 3 false (0 ∷ 2 ∷ 1 ∷ 2 ∷ 0 ∷ 0 ∷ 2 ∷ 1 ∷ 1 ∷ 0 ∷ []) (pos 2 ∷ pos 1 ∷ negsuc 1 ∷ pos 0 ∷ []) (pos 1 ∷ pos 0 ∷ [])
    -- N = 0, with LF and without
    ∷ loads (bytes "p cnf 3 0\n") 3 0 false (0 ∷ []) (pos 0 ∷ []) (pos 1 ∷ [])
    ∷ loads (bytes "p cnf 3 0") 3 0 false (0 ∷ []) (pos 0 ∷ []) (pos 1 ∷ [])
    -- a table that is shorter than stated comes before the text
    ∷ short (bytes "p cnf 0 0\n")
    ∷ short (bytes "x")
    ∷ []

pub hold : All cases
unfolding header header_rest judge_text judge words_at clauses_of load_call laid clause_records literal_places variable_records long_ok long? and? so? dec_le
hold = (refl, (refl, (refl, (refl, (refl, (refl, (refl, (refl, (refl, tt)))))))))

-- ---- texts that are refused, whatever the tables hold
pub record Bad : Type 0 where
  pub text : List ℕ
  pub number : ℕ
  pub place : ℕ

abbrev refused : List ℕ → ℕ → ℕ → Bad
refused text number place = record { text = text; number = number; place = place }

-- long tables and the state stay as they are, and the reply is the refusal's number and place
abbrev pub Refused : Bad → Type 0
Refused b = (t : Tables) (st : State) → long_ok t ≡ true → load_call b.text t st ≡ record { reply = reply 0 b.number (b.place ∷ []); state = st; tables = t }

abbrev pub AllRefused : List Bad → Type 0
AllRefused [] = Unit
AllRefused (b ∷ bs) = Refused b × AllRefused bs

-- as many literals 1, each with a space
abbrev ones : ℕ → List ℕ
ones zero = []
ones (suc n) = 49 ∷ 32 ∷ ones n

abbrev pub refusals : List Bad
refusals =
    -- P10, P11
    refused (bytes "p cnf 1 1\n01 0") 2 10
    ∷ refused (bytes "p cnf 1 1\n2 0") 3 10
    ∷ refused (bytes "p cnf 1 1\n1\n") 2 12
    ∷ refused (bytes "p cnf 1025 0\n") 3 6
    -- the header cut off: its place is the text length
    ∷ refused (bytes "") 2 0
    ∷ refused (bytes "c a comment") 2 11
    ∷ refused (bytes "p") 2 1
    ∷ refused (bytes "p cnf 1") 2 7
    ∷ refused (bytes "p cnf 1 ") 2 8
    -- the header's first wrong byte: a second space, a digit behind 0, a sign, CR
    ∷ refused (bytes "p  cnf 1 1\n") 2 2
    ∷ refused (bytes "p cnf  1 1\n") 2 6
    ∷ refused (bytes "p cnf 1  1\n") 2 8
    ∷ refused (bytes "p cnf 01 0\n") 2 7
    ∷ refused (bytes "p cnf 1 00\n") 2 9
    ∷ refused (bytes "p cnf +1 0\n") 2 6
    ∷ refused (bytes "p cnf -1 0\n") 2 6
    ∷ refused (bytes "p cnf 1 0\r\n") 2 9
    -- the header's limits: the number's place, also where its end is wrong, which comes later
    ∷ refused (bytes "p cnf 1 4097\n") 3 8
    ∷ refused (bytes "p cnf 1025 x") 3 6
    ∷ refused (bytes "p cnf 999999999999999999999999999999 0\n") 3 6
    ∷ refused (bytes "p cnf 1 999999999999999999999999999999\n") 3 8
    ∷ refused (bytes "p cnf 999999999999999999999999999999x 0\n") 3 6
    ∷ refused (bytes "p cnf 1 999999999999999999999999999999x\n") 3 8
    -- words that are no token
    ∷ refused (bytes "p cnf 1 1\n-0 0") 2 10
    ∷ refused (bytes "p cnf 1 1\n00 0") 2 10
    ∷ refused (bytes "p cnf 1 1\n1x 0") 2 10
    ∷ refused (bytes "p cnf 1 1\n--1 0") 2 10
    ∷ refused (bytes "p cnf 1 1\n+1 0") 2 10
    ∷ refused (bytes "p cnf 1 1\n- 0") 2 10
    ∷ refused (bytes "p cnf 1 1\n1 0-") 2 12
    ∷ refused (bytes "p cnf 1 1\nc x\n1 0\n") 2 10
    -- a NUL, a byte 255, a form feed
    ∷ refused (bytes "p cnf 1 1\n" ++ (0 ∷ bytes " 0")) 2 10
    ∷ refused (bytes "p cnf 1 1\n1 " ++ (255 ∷ bytes " 0")) 2 12
    ∷ refused (bytes "p cnf 1 1\n1" ++ (12 ∷ bytes "0")) 2 10
    ∷ refused (bytes "p cnf 1 0" ++ (0 ∷ [])) 2 9
    -- literals beyond V or −V; a number of any length; where the word is no token besides, 2 holds
    ∷ refused (bytes "p cnf 2 1\n3 0") 3 10
    ∷ refused (bytes "p cnf 2 1\n1 -3 0") 3 12
    ∷ refused (bytes "p cnf 2 1\n999999999999999999999999999999 0") 3 10
    ∷ refused (bytes "p cnf 2 1\n-999999999999999999999999999999 0") 3 10
    ∷ refused (bytes "p cnf 2 1\n999999999999999999999999999999x 0") 2 10
    -- a token after clause N, good or bad
    ∷ refused (bytes "p cnf 1 1\n1 0 1") 3 14
    ∷ refused (bytes "p cnf 1 1\n1 0 0") 3 14
    ∷ refused (bytes "p cnf 1 1\n1 0 x") 2 14
    ∷ refused (bytes "p cnf 1 0\n0") 3 10
    -- too few clauses, an unfinished clause, both: the text length
    ∷ refused (bytes "p cnf 1 2\n1 0\n") 3 14
    ∷ refused (bytes "p cnf 1 1") 3 9
    ∷ refused (bytes "p cnf 1 1\n1") 2 11
    ∷ refused (bytes "p cnf 1 2\n1 0 1") 2 15
    -- literal 16,385
    ∷ refused (bytes "p cnf 1 1\n" ++ (ones 16385 ++ bytes "0")) 3 32778
    ∷ []

-- the judgement in numbers; a text that fits has none
abbrev answer : Result Header Refusal → List ℕ
answer (Err r) = refusal_number r ∷ refusal_place r ∷ []
answer (Ok h) = []

abbrev answers : List Bad → List (List ℕ)
answers [] = []
answers (b ∷ bs) = answer (judge_text b.text) ∷ answers bs

abbrev expected : List Bad → List (List ℕ)
expected [] = []
expected (b ∷ bs) = (b.number ∷ b.place ∷ []) ∷ expected bs

by_answer : (b : Bad) → answer (judge_text b.text) ≡ b.number ∷ b.place ∷ [] → Refused b
unfolding load_call
by_answer b e t st h = go (judge_text b.text) refl
  where
    go : (x : Result Header Refusal) → judge_text b.text ≡ x → load_call b.text t st ≡ record { reply = reply 0 b.number (b.place ∷ []); state = st; tables = t }
    go (Err r) q =
        let a : refusal_number r ∷ refusal_place r ∷ [] ≡ b.number ∷ b.place ∷ [] = rw q at e in
        let n : refusal_number r ≡ b.number = cc in
        let p : refusal_place r ≡ b.place = cc in
        rw (h, load_formula, load_call, q, n, p)
    go (Ok k) q =
        let a : [] ≡ b.number ∷ b.place ∷ [] = rw q at e in
        absurd (let z : ◌≡◌ {A = ℕ} 0 1 = cc in omega arith)

by_answers : (bs : List Bad) → answers bs ≡ expected bs → AllRefused bs
by_answers [] e = tt
by_answers (b ∷ bs) e = (by_answer b (cc), by_answers bs (cc))

pub refusals_hold : AllRefused refusals
unfolding header header_rest judge_text judge words_at
refusals_hold = by_answers refusals refl

-- ---- the limits themselves fit: 16,384 literals, and 4,096 clauses
abbrev noughts : ℕ → List ℕ
noughts zero = []
noughts (suc n) = 48 ∷ 10 ∷ noughts n

pub limits_fit : (judge_text (bytes "p cnf 1 1\n" ++ (ones 16384 ++ bytes "0")) ≡ fitting 1 1 10) × (judge_text (bytes "p cnf 1024 4096\n" ++ noughts 4096) ≡ fitting 1024 4096 16)
unfolding header header_rest judge_text judge words_at
limits_fit = (refl, refl)
