-- A whole text: judged from left to right up to the first violation; if there is none, its clauses as written. Assumes nothing.
use Rattle.std.specs.Prelude.{ℕ, zero, suc, ◌-◌, Bool, true, false, ◌&&◌, List, [], ◌∷◌, ◌++◌, length, drop, leb, ltb, ℤ, pos, neg_ℤ, Result, Ok, Err}
use Rattle.dimacs.specs.Words.{Word, words_at}
use Rattle.dimacs.specs.Tokens.{bad, nought, literal, meaning}
use Rattle.dimacs.specs.Header.{header, fitting}
use Rattle.state.specs.declared.Refusal.{Refusal}
use Rattle.state.specs.declared.Refusal.TheVariants.{Grammar, Limit}
use Rattle.dimacs.specs.declared.Header.{Header}

-- what a text may still have: clauses and literals; and whether a clause has begun
pub record Budget : Type 0 where
  pub clauses : ℕ
  pub literals : ℕ
  pub unfinished : Bool

abbrev pub budget : ℕ → ℕ → Bool → Budget
budget clauses literals unfinished = record { clauses = clauses; literals = literals; unfinished = unfinished }

-- the text's end
abbrev pub judge_end : Budget → ℕ → Result Header Refusal → Result Header Refusal
judge_end l end ok = elim l.unfinished [ true ↦ Err (Grammar end) | false ↦ elim l.clauses [ zero ↦ ok | suc _ ↦ Err (Limit end) ] ]

-- the words from left to right; `end` is the text's length, `ok` the verdict where nothing is wrong
unfoldable pub judge : ℕ → Budget → List Word → ℕ → Result Header Refusal → Result Header Refusal
judge v l [] end ok = judge_end l end ok
judge v l (w ∷ ws) end ok =
    elim (meaning w.bytes) [
      | bad ↦ Err (Grammar w.at)
      | nought ↦ elim (ltb 0 l.clauses) [
        | true ↦ judge v (budget (l.clauses - 1) l.literals false) ws end ok
        | false ↦ Err (Limit w.at)
      ]
      | literal _ n ↦ elim (ltb 0 l.clauses && (leb n v && ltb 0 l.literals)) [
        | true ↦ judge v (budget l.clauses (l.literals - 1) true) ws end ok
        | false ↦ Err (Limit w.at)
      ]
    ]

abbrev pub judge_body : List ℕ → Result Header Refusal → Result Header Refusal
judge_body text (Err r) = Err r
judge_body text (Ok h) = judge h.v (budget h.n 16384 false) (words_at (drop h.body text) h.body) (length text) (fitting h.v h.n h.body)

unfoldable pub judge_text : List ℕ → Result Header Refusal
judge_text text = judge_body text (header text)

-- a literal by its sign, which is `true` for negative, and its variable
abbrev pub literal_of : Bool → ℕ → ℤ
literal_of true n = neg_ℤ (pos n)
literal_of false n = pos n

-- the clauses that the words spell, behind the literals of one that has begun
unfoldable pub clauses_of : List ℤ → List Word → List (List ℤ)
clauses_of begun [] = []
clauses_of begun (w ∷ ws) =
    elim (meaning w.bytes) [
      | bad ↦ []
      | nought ↦ begun ∷ clauses_of [] ws
      | literal negative n ↦ clauses_of (begun ++ (literal_of negative n ∷ [])) ws
    ]

-- the text's clauses as written
abbrev pub body_of : List ℕ → Result Header Refusal → List (List ℤ)
body_of text (Err r) = []
body_of text (Ok h) = clauses_of [] (words_at (drop h.body text) h.body)

abbrev pub text_clauses : List ℕ → List (List ℤ)
text_clauses text = body_of text (judge_text text)
