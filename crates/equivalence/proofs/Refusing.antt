-- A text is refused for its grammar (2) or for a limit (3), and for nothing else. Assumes nothing.
use Prim.Native.Nat.{ℕ, zero, suc, ◌-◌}
use mathlib.Core.Path.{◌≡◌, refl, subst}
use mathlib.Core.Bool.{Bool, true, false, not, ◌&&◌}
use mathlib.Core.List.{List, [], ◌∷◌}
use lib.ListN.{length, take, drop}
use lib.Dec.{leb, ltb, eqb}
use Rattle.state.specs.declared.Refusal.{Refusal}
use Rattle.state.specs.declared.Refusal.TheVariants.{Grammar, Limit}
use Rattle.dimacs.specs.Words.{Word, words_at, is_digit, span}
use Rattle.dimacs.specs.Tokens.{Meaning, bad, nought, literal, meaning, decimal}
use Rattle.dimacs.specs.Header.{comments, expect, within_limit, number, line_end, and_then, p_cnf, header, header_rest, fitting}
use Rattle.dimacs.specs.Text.{Budget, budget, judge, judge_end, judge_body, judge_text}
use Rattle.std.specs.Prelude.{Result, Ok, Err}
use Rattle.dimacs.specs.declared.Header.{Header}
use Rattle.dimacs.specs.declared.Digits.{Digits}

pub data OfText : Refusal → Type 0 where
  grammar : (at : ℕ) → OfText (Grammar at)
  limit : (at : ℕ) → OfText (Limit at)

-- ---- the header

-- what is refused, is so for one of the two
abbrev By : {A : Type 0} → Result A Refusal → Type 0
By (Err r) = OfText r
By (Ok x) = Unit {0}

after_by : {A : Type 0} (p : Result A Refusal) (k : A → Result Header Refusal) → By p → ((x : A) → By (k x)) → By (and_then p k)
after_by (Err r) k h rest = h
after_by (Ok x) k h rest = rest x

comments_by : (inside : Bool) (s : List ℕ) (at : ℕ) → By (comments inside s at)
comments_by true [] at = grammar at
comments_by false [] at = tt
comments_by true (b ∷ s) at = comments_by (not (eqb b 10)) s (suc at)
comments_by false (b ∷ s) at = go (eqb b 99) (comments_by true s (suc at))
  where
    go : (t : Bool) → By (comments true s (suc at)) → By (elim t as (λ x. Result ℕ Refusal) [ true ↦ comments true s (suc at) | false ↦ Ok at ])
    go true h = h
    go false h = tt

expect_by : (ps s : List ℕ) (at : ℕ) → By (expect ps s at)
expect_by [] s at = tt
expect_by (p ∷ ps) [] at = grammar at
expect_by (p ∷ ps) (b ∷ s) at = go (eqb b p) (expect_by ps s (suc at))
  where
    go : (t : Bool) → By (expect ps s (suc at)) → By (elim t as (λ x. Result ℕ Refusal) [ true ↦ expect ps s (suc at) | false ↦ Err (Grammar at) ])
    go true h = h
    go false h = grammar at

within_by : (bound : ℕ) (ds : List ℕ) (at : ℕ) → By (within_limit bound ds at)
within_by bound ds at = go (leb (decimal ds) bound) refl
  where
    go : (t : Bool) → leb (decimal ds) bound ≡ t → By (within_limit bound ds at)
    go true e = rw (e, within_limit) tt
    go false e = rw (e, within_limit) (limit at)

number_by : (bound : ℕ) (s : List ℕ) (at : ℕ) → By (number bound s at)
number_by bound [] at = grammar at
number_by bound (b ∷ s) at = go (eqb b 48) refl (is_digit b) refl
  where
    go : (t : Bool) → eqb b 48 ≡ t → (u : Bool) → is_digit b ≡ u → By (number bound (b ∷ s) at)
    go true e u d = rw (e, number) tt
    go false e true d = rw (e, number, d) (within_by bound (take (span is_digit (b ∷ s)) (b ∷ s)) at)
    go false e false d = rw (e, number, d) (grammar at)

line_by : (s : List ℕ) (at : ℕ) → By (line_end s at)
line_by [] at = tt
line_by (b ∷ s) at = go (eqb b 10) refl
  where
    go : (t : Bool) → eqb b 10 ≡ t → By (line_end (b ∷ s) at)
    go true e = rw (e, line_end) tt
    go false e = rw (e, line_end) (grammar at)

header_by : (text : List ℕ) → By (header text)
unfolding header header_rest
header_by text =
    after_by (comments false text 0) _ (comments_by false text 0) (λ (a : ℕ).
    after_by (expect p_cnf (drop a text) a) _ (expect_by p_cnf (drop a text) a) (λ (b : ℕ).
    after_by (number 1024 (drop b text) b) _ (number_by 1024 (drop b text) b) (λ (v : Digits).
    after_by (expect (32 ∷ []) (drop v.next text) v.next) _ (expect_by (32 ∷ []) (drop v.next text) v.next) (λ (c : ℕ).
    after_by (number 4096 (drop c text) c) _ (number_by 4096 (drop c text) c) (λ (n : Digits).
    after_by (line_end (drop n.next text) n.next) _ (line_by (drop n.next text) n.next) (λ (d : ℕ). tt))))))

-- ---- the clauses

judge_by : (v : ℕ) (l : Budget) (ws : List Word) (end : ℕ) (ok : Result Header Refusal) → By ok → By (judge v l ws end ok)
unfolding judge
judge_by v l [] end ok h = go l.unfinished refl l.clauses refl
  where
    go : (t : Bool) → l.unfinished ≡ t → (k : ℕ) → l.clauses ≡ k → By (judge_end l end ok)
    go true t k e = rw (t, judge_end) (grammar end)
    go false t zero e = rw (t, judge_end, e) h
    go false t (suc k) e = rw (t, judge_end, e) (limit end)
judge_by v l (w ∷ ws) end ok h =
    go (meaning w.bytes) refl (judge_by v (budget (l.clauses - 1) l.literals false) ws end ok h) (judge_by v (budget l.clauses (l.literals - 1) true) ws end ok h)
  where
    go : (m : Meaning) → meaning w.bytes ≡ m → By (judge v (budget (l.clauses - 1) l.literals false) ws end ok) → By (judge v (budget l.clauses (l.literals - 1) true) ws end ok) → By (judge v l (w ∷ ws) end ok)
    go bad m a b = rw (m, judge) (grammar w.at)
    go nought m a b = ended (ltb 0 l.clauses) refl
      where
        ended : (t : Bool) → ltb 0 l.clauses ≡ t → By (judge v l (w ∷ ws) end ok)
        ended true e = rw (m, judge, e) a
        ended false e = rw (m, judge, e) (limit w.at)
    go (literal c n) m a b = begun (ltb 0 l.clauses && (leb n v && ltb 0 l.literals)) refl
      where
        begun : (t : Bool) → (ltb 0 l.clauses && (leb n v && ltb 0 l.literals)) ≡ t → By (judge v l (w ∷ ws) end ok)
        begun true e = rw (m, judge, e) b
        begun false e = rw (m, judge, e) (limit w.at)

text_by : (text : List ℕ) → By (judge_text text)
unfolding judge_text
text_by text = go (header text) (header_by text)
  where
    go : (x : Result Header Refusal) → By x → By (judge_body text x)
    go (Err r) h = h
    go (Ok x) h = judge_by x.v (budget x.n 16384 false) (words_at (drop x.body text) x.body) (length text) (fitting x.v x.n x.body) tt

pub refused_of_text : (text : List ℕ) (r : Refusal) → judge_text text ≡ Err r → OfText r
refused_of_text text r e = subst (By {A = Header}) e (text_by text)
