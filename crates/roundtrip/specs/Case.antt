-- A worked case of Write: tables and a state, by hand or from a load, an output, and what the call leaves. Assumes nothing: these are definitions.
use Rattle.std.specs.Prelude.{ℕ, zero, suc, ◌≡◌, List, [], ◌∷◌, ◌++◌, replicate, ℤ, pos}
use Prim.Native.String.{String}
use Rattle.base.specs.Bytes.{bytes}
use Rattle.state.specs.States.{empty_state}
use Rattle.state.specs.Answers.{Reply, reply}
use Rattle.state.specs.declared.State.{State}
use Rattle.tables.specs.Tables.{Tables, tables}
use Rattle.tables.specs.Calls.{After}
use Rattle.load.specs.Load.{load_call}
use Rattle.write.specs.Write.{AfterWrite, write_call}

-- a table of `size` places that begins with xs
abbrev pub padded : {A : Type 0} → A → ℕ → List A → List A
padded z size [] = replicate size z
padded z zero (x ∷ xs) = []
padded z (suc size) (x ∷ xs) = x ∷ padded z size xs

-- tables of the stated sizes
abbrev pub full : List ℕ → List ℤ → List ℤ → Tables
full clauses literals variables = tables (padded 0 12288 clauses) (padded (pos 0) 16384 literals) (padded (pos 0) 2048 variables) (padded 0 4096 []) (padded (pos 0) 4096 [])

-- a load of a text into empty tables
abbrev pub loaded : String → After
loaded text = load_call (bytes text) (full [] [] []) empty_state

pub record WriteCase : Type 0 where
  pub tables : Tables
  pub state : State
  pub out : List ℕ
  pub left : AfterWrite

-- the reply of Write: a length, or a refusal's number and place
abbrev pub write_reply : ℕ → ℕ → Reply
write_reply zero value = reply 7 0 (value ∷ [])
write_reply (suc number) value = reply 0 (suc number) (value ∷ [])

-- tables and a state, an output of so many bytes 7, and what is left: number and value of the reply, the text, and how many bytes 7 stay behind it
abbrev pub case : Tables → State → ℕ → ℕ → ℕ → String → ℕ → WriteCase
case t st size number value text behind =
    record { tables = t; state = st; out = replicate size 7; left = record { reply = write_reply number value; out = bytes text ++ replicate behind 7 } }

-- the same for what a text is loaded to
abbrev pub loaded_case : String → ℕ → ℕ → ℕ → String → ℕ → WriteCase
loaded_case source size number value text behind = case (loaded source).tables (loaded source).state size number value text behind

abbrev pub WriteHolds : WriteCase → Type 0
WriteHolds k = write_call k.tables k.state k.out ≡ k.left

abbrev pub AllWritten : List WriteCase → Type 0
AllWritten [] = Unit
AllWritten (k ∷ ks) = WriteHolds k × AllWritten ks
