-- The lines before the clauses, from left to right: each piece is read at an offset and gives the offset after it, a number its value
-- too, or is refused. Assumes nothing.
use Rattle.std.specs.Prelude.{ℕ, suc, ◌+◌, Bool, true, false, not, List, [], ◌∷◌, length, take, drop, leb, eqb, Result, Ok, Err}
use Rattle.dimacs.specs.Words.{is_digit, span}
use Rattle.dimacs.specs.Tokens.{decimal}
use Rattle.state.specs.declared.Refusal.{Refusal}
use Rattle.state.specs.declared.Refusal.TheVariants.{Grammar, Limit}
use Rattle.dimacs.specs.declared.Digits.{Digits}
use Rattle.dimacs.specs.declared.Header.{Header}

-- past the comment lines. `inside`: a line that begins with c has begun, and its LF has not come
abbrev pub comments : Bool → List ℕ → ℕ → Result ℕ Refusal
comments true [] at = Err (Grammar at)
comments false [] at = Ok at
comments true (b ∷ s) at = comments (not (eqb b 10)) s (suc at)
comments false (b ∷ s) at = elim (eqb b 99) [ true ↦ comments true s (suc at) | false ↦ Ok at ]

-- past the bytes ps, which must stand there
abbrev pub expect : List ℕ → List ℕ → ℕ → Result ℕ Refusal
expect [] s at = Ok at
expect (p ∷ ps) [] at = Err (Grammar at)
expect (p ∷ ps) (b ∷ s) at = elim (eqb b p) [ true ↦ expect ps s (suc at) | false ↦ Err (Grammar at) ]

-- a number that was read: its value, and the offset after it
abbrev pub got : ℕ → ℕ → Result Digits Refusal
got value next = Ok (record { value = value; next = next })

abbrev pub within_limit : ℕ → List ℕ → ℕ → Result Digits Refusal
within_limit limit ds at = elim (leb (decimal ds) limit) [ true ↦ got (decimal ds) (at + length ds) | false ↦ Err (Limit at) ]

-- past a number of at most `limit`: `0`, which is whole by itself, or a run of digits
abbrev pub number : ℕ → List ℕ → ℕ → Result Digits Refusal
number limit [] at = Err (Grammar at)
number limit (b ∷ s) at =
    elim (eqb b 48) [
      | true ↦ got 0 (at + 1)
      | false ↦ elim (is_digit b) [ true ↦ within_limit limit (take (span is_digit (b ∷ s)) (b ∷ s)) at | false ↦ Err (Grammar at) ]
    ]

-- past the header's end: an LF, or the text's end
abbrev pub line_end : List ℕ → ℕ → Result ℕ Refusal
line_end [] at = Ok at
line_end (b ∷ s) at = elim (eqb b 10) [ true ↦ Ok (at + 1) | false ↦ Err (Grammar at) ]

-- a piece, and what follows with what it gives
abbrev pub and_then : {A B : Type 0} → Result A Refusal → (A → Result B Refusal) → Result B Refusal
and_then (Err r) k = Err r
and_then (Ok x) k = k x

-- "p cnf "
abbrev pub p_cnf : List ℕ
p_cnf = 112 ∷ 32 ∷ 99 ∷ 110 ∷ 102 ∷ 32 ∷ []

-- the verdict on a text that fits: what its header says
abbrev pub fitting : ℕ → ℕ → ℕ → Result Header Refusal
fitting v n body = Ok (record { v = v; n = n; body = body })

-- behind V: a space, N, and the line's end
unfoldable pub header_rest : ℕ → List ℕ → ℕ → Result Header Refusal
header_rest v text at =
    and_then (expect (32 ∷ []) (drop at text) at) (λ at.
    and_then (number 4096 (drop at text) at) (λ n.
    and_then (line_end (drop n.next text) n.next) (λ body. fitting v n.value body)))

-- comment lines, "p cnf ", V, and the rest
unfoldable pub header : List ℕ → Result Header Refusal
header text =
    and_then (comments false text 0) (λ at.
    and_then (expect p_cnf (drop at text) at) (λ at.
    and_then (number 1024 (drop at text) at) (λ v. header_rest v.value text v.next)))
