-- Reading what was written gives the same clauses. Assumes nothing.
use Prim.Native.Nat.{ℕ, zero, suc, ◌+◌, ◌*◌, ◌-◌, ◌/◌, ◌%◌, ◌≤◌, ◌<◌}
use native.Mathlib.Omega.{arith}
use native.Mathlib.Numerals.{add-one}
use mathlib.Core.Path.{◌≡◌, refl, sym, ap, ◌∙◌, subst}
use mathlib.Core.Bool.{Bool, true, false, not, false≢true}
use mathlib.Core.List.{List, [], ◌∷◌, ◌++◌, append_assoc, append-nil}
use lib.ListN.{length, take, drop, get_or, length-append, get_or-append}
use lib.Seq.{take_at, drop_at, drop-drop}
use lib.Dec.{ltb}
use lib.IntN.{ℤ, pos, negsuc, nat_abs}
use borrow.Author.Tests.{not-true, ne_eqb, le-leb, lt-ltb, ltb-true, ltb-false}
use Rattle.dimacs.specs.Words.{is_sep, is_word_byte, is_digit, span, Word, word, words_at}
use Rattle.dimacs.specs.Tokens.{literal, decimal, decimal_from, unsigned, meaning}
use Rattle.dimacs.specs.Header.{number, within_limit, and_then, header, header_rest, got, fitting}
use Rattle.dimacs.specs.Text.{budget, judge, judge_text, literal_of, clauses_of, text_clauses}
use Rattle.dimacs.proofs.Scan.{words_front, words_sep}
use Rattle.dimacs.proofs.Numerals.{unsigned_is, meaning_plain, digit_word}
use Rattle.printing.specs.Printing.{digits_by, digits, literal_text, clause_text, clauses_text, text_of}
use Rattle.literal.specs.Ranged.{InClause, InClauses, total}
use Rattle.write.specs.Writable.{Writable}
use Rattle.std.specs.Prelude.{Result}
use Rattle.dimacs.specs.declared.Header.{Header}
use Rattle.dimacs.specs.declared.Digits.{Digits}
use Rattle.state.specs.declared.Refusal.{Refusal}

-- ---- each byte of a list
Each : (ℕ → Bool) → List ℕ → Type 0
Each p [] = Unit
Each p (b ∷ s) = (p b ≡ true) × Each p s

each_append : (p : ℕ → Bool) (s t : List ℕ) → Each p s → Each p t → Each p (s ++ t)
unfolding Each
each_append p [] t a b = b
each_append p (x ∷ s) t a b = (a.0, each_append p s t a.1 b)

each_weaker : (p q : ℕ → Bool) → ((b : ℕ) → p b ≡ true → q b ≡ true) → (s : List ℕ) → Each p s → Each q s
unfolding Each
each_weaker p q w [] e = tt
each_weaker p q w (b ∷ s) e = (w b e.0, each_weaker p q w s e.1)

-- a run that a byte ends
span_run : (p : ℕ → Bool) (w : List ℕ) (b : ℕ) (s : List ℕ) → Each p w → p b ≡ false → span p (w ++ (b ∷ s)) ≡ length w
unfolding Each
span_run p [] b s e n = rw (n, span)
span_run p (x ∷ w) b s e n = rw (e.0, span) (ap suc (span_run p w b s e.1 n))

span_all : (p : ℕ → Bool) (w : List ℕ) → Each p w → span p w ≡ length w
unfolding Each
span_all p [] e = refl
span_all p (x ∷ w) e = rw (e.0, span) (ap suc (span_all p w e.1))

-- ---- numbers
digit_is : (b : ℕ) → 48 ≤ b → b ≤ 57 → is_digit b ≡ true
digit_is b h k = rw (le-leb 48 b h, le-leb b 57 k)

-- the digits of n: some digits, whose value is n, without a leading zero unless n is 0
record Numeral (n : ℕ) (ds : List ℕ) : Type 0 where
  some : 0 < length ds
  each : Each is_digit ds
  value : decimal ds ≡ n
  lead : 0 < n → get_or ds 0 0 ≡ 48 → ⊥

decimal_snoc : (n d : ℕ) (ds : List ℕ) → decimal_from n (ds ++ (d ∷ [])) ≡ decimal_from n ds * 10 + (d - 48)
decimal_snoc n d [] = refl
decimal_snoc n d (x ∷ ds) = decimal_snoc (n * 10 + (x - 48)) d ds

one_digit : (n : ℕ) → n < 10 → Numeral n ((48 + n) ∷ [])
unfolding Each
one_digit n h = record {
  some = omega arith;
  each = (digit_is (48 + n) (omega arith) (omega arith), tt);
  value = omega arith;
  lead = λ z e. omega (arith, e);
}

more_digits : (n : ℕ) (ds : List ℕ) → 10 ≤ n → Numeral (n / 10) ds → Numeral n (ds ++ ((48 + n % 10) ∷ []))
unfolding Each
more_digits n ds h r = record {
  some = rw length-append (omega (arith, r.some));
  each = each_append is_digit ds _ r.each (digit_is (48 + n % 10) (omega arith) (omega arith), tt);
  value = decimal_snoc 0 (48 + n % 10) ds ∙ rw r.value (omega arith);
  lead = λ z e. r.lead (omega arith) (sym (get_or-append ds _ 0 0 r.some) ∙ e);
}

digits_by_lem : (fuel n : ℕ) → n ≤ fuel → Numeral n (digits_by fuel n)
digits_by_lem zero n h = subst (λ (k : ℕ). Numeral k (digits_by zero k)) (let e : 0 ≡ n = omega arith in e) (one_digit 0 (omega arith))
digits_by_lem (suc fuel) n h = go (ltb n 10) refl (digits_by_lem fuel (n / 10))
  where
    go : (t : Bool) → ltb n 10 ≡ t → (n / 10 ≤ fuel → Numeral (n / 10) (digits_by fuel (n / 10))) → Numeral n (digits_by (suc fuel) n)
    go true t ih = rw (t, digits_by) (one_digit n (ltb-true n 10 t))
    go false t ih = let k : 10 ≤ n = ltb-false n 10 t in rw (t, digits_by) (more_digits n (digits_by fuel (n / 10)) k (ih (omega arith)))

digits_are : (n : ℕ) → Numeral n (digits n)
unfolding digits
digits_are n = digits_by_lem n n (omega arith)

-- a number in the header, with a byte behind it that is no digit
within_read : (limit at : ℕ) (ds : List ℕ) → decimal ds ≤ limit → within_limit limit ds at ≡ got (decimal ds) (at + length ds)
within_read limit at ds h = rw (le-leb (decimal ds) limit h, within_limit)

numeral_read : (limit n b at : ℕ) (s ds : List ℕ) → 0 < n → n ≤ limit → is_digit b ≡ false → Numeral n ds → number limit (ds ++ (b ∷ s)) at ≡ got n (at + length ds)
unfolding Each
numeral_read limit n b at s [] z h e r = absurd (let q : 0 < 0 = r.some in omega arith)
numeral_read limit n b at s (d ∷ ds) z h e r =
    let text : List ℕ = (d ∷ ds) ++ (b ∷ s) in
    let front : take (span is_digit text) text ≡ d ∷ ds =
    ap (λ (k : ℕ). take k text) (span_run is_digit (d ∷ ds) b s r.each e) ∙ take_at (d ∷ ds) (b ∷ s) (length (d ∷ ds)) refl in
    let tests : number limit text at ≡ within_limit limit (take (span is_digit text) text) at = rw (ne_eqb d 48 (r.lead z), number, r.each.0) in
    tests ∙ ap (λ (k : List ℕ). within_limit limit k at) front ∙ within_read limit at (d ∷ ds) (omega (arith, r.value)) ∙ ap (λ (k : ℕ). got k (at + length (d ∷ ds))) r.value

number_read : (limit n b at : ℕ) (s : List ℕ) → n ≤ limit → is_digit b ≡ false → number limit (digits n ++ (b ∷ s)) at ≡ got n (at + length (digits n))
unfolding digits
number_read limit zero b at s h e = refl
number_read limit (suc n) b at s h e = numeral_read limit (suc n) b at s (digits (suc n)) (omega arith) h e (digits_are (suc n))

-- ---- literals
-- a literal's text is a word that means it
record Spelt (l : ℤ) (w : List ℕ) : Type 0 where
  negative : Bool
  some : 0 < length w
  each : Each is_word_byte w
  means : meaning w ≡ literal negative (nat_abs l)
  back : literal_of negative (nat_abs l) ≡ l

numeral_means : (negative : Bool) (n : ℕ) (ds : List ℕ) → 0 < n → Numeral n ds → unsigned negative ds ≡ literal negative n
numeral_means negative n ds z r = unsigned_is negative ds r.some (r.lead z) (span_all is_digit ds r.each) ∙ ap (literal negative) r.value

-- no digit is `-`
no_minus : (ds : List ℕ) → 0 < length ds → Each is_digit ds → get_or ds 0 0 ≡ 45 → ⊥
unfolding Each
no_minus [] h e q = omega (arith, h)
no_minus (d ∷ ds) h e q = let z : is_digit 45 ≡ true = subst (λ (b : ℕ). is_digit b ≡ true) q e.0 in false≢true z

spelt_pos : (n : ℕ) → 0 < n → Spelt (pos n) (literal_text (pos n))
spelt_pos n z =
    let r = digits_are n in
    record {
      negative = false;
      some = r.some;
      each = each_weaker is_digit is_word_byte digit_word (digits n) r.each;
      means = meaning_plain (digits n) (no_minus (digits n) r.some r.each) ∙ numeral_means false n (digits n) z r;
      back = refl;
    }

spelt_neg : (n : ℕ) → Spelt (negsuc n) (literal_text (negsuc n))
unfolding Each
spelt_neg n =
    let r = digits_are (suc n) in
    record {
      negative = true;
      some = omega arith;
      each = (refl, each_weaker is_digit is_word_byte digit_word (digits (suc n)) r.each);
      means = numeral_means true (suc n) (digits (suc n)) (omega arith) r;
      back = refl;
    }

spelt : (l : ℤ) → 0 < nat_abs l → Spelt l (literal_text l)
spelt (pos n) z = spelt_pos n z
spelt (negsuc n) z = spelt_neg n

-- ---- words
-- a word and the separator behind it
word_read : (w : List ℕ) (b : ℕ) (s : List ℕ) (at : ℕ) → 0 < length w → Each is_word_byte w → is_sep b ≡ true
    → words_at (w ++ (b ∷ s)) at ≡ word at w ∷ words_at s (suc (at + length w))
unfolding Each
word_read [] b s at h e t = absurd (let z : 0 < 0 = h in omega arith)
word_read (x ∷ w) b s at h e t =
    let text : List ℕ = (x ∷ w) ++ (b ∷ s) in
    let run : span is_word_byte text ≡ length (x ∷ w) = span_run is_word_byte (x ∷ w) b s e (ap not t) in
    let front : take (span is_word_byte text) text ≡ x ∷ w = ap (λ (k : ℕ). take k text) run ∙ take_at (x ∷ w) (b ∷ s) (length (x ∷ w)) refl in
    let behind : drop (span is_word_byte text) text ≡ b ∷ s = ap (λ (k : ℕ). drop k text) run ∙ drop_at (x ∷ w) (b ∷ s) (length (x ∷ w)) refl in
    words_front text at (omega arith) (not-true _ e.0)
    ∙ (λ i. word at (front i) ∷ words_at (behind i) (at + run i))
    ∙ ap (λ (ws : List Word). word at (x ∷ w) ∷ ws) (words_sep b s (at + length (x ∷ w)) t)

-- ---- clauses
-- the words of a clause's text at an offset, and the offset behind it
words_of : ℕ → List ℤ → List Word
words_of at [] = word at (48 ∷ []) ∷ []
words_of at (l ∷ ls) = word at (literal_text l) ∷ words_of (suc (at + length (literal_text l))) ls

end_of : ℕ → List ℤ → ℕ
end_of at [] = suc (at + 1)
end_of at (l ∷ ls) = end_of (suc (at + length (literal_text l))) ls

clause_words : (v : ℕ) (c : List ℤ) (s : List ℕ) (at : ℕ) → InClause v c → words_at (clause_text c ++ s) at ≡ words_of at c ++ words_at s (end_of at c)
unfolding clause_text words_of end_of InClause Each
clause_words v [] s at h = word_read (48 ∷ []) 10 s at (omega arith) (refl, tt) refl
clause_words v (l ∷ ls) s at h =
    let p = spelt l h.0 in
    let w : List ℕ = literal_text l in
    ap (λ (t : List ℕ). words_at t at) (append_assoc w (32 ∷ clause_text ls) s)
    ∙ word_read w 32 (clause_text ls ++ s) at p.some p.each refl
    ∙ ap (λ (ws : List Word). word at w ∷ ws) (clause_words v ls s (suc (at + length w)) h.1.1)

module _ (v end : ℕ) (ok : Result Header Refusal) where
  judge_literal_word : (l : ℤ) (w : List ℕ) (at k r : ℕ) (u : Bool) (ws : List Word) → Spelt l w → nat_abs l ≤ v → 0 < r
      → judge v (budget (suc k) r u) (word at w ∷ ws) end ok ≡ judge v (budget (suc k) (r - 1) true) ws end ok
  unfolding judge
  judge_literal_word l w at k r u ws p h z =
      rw (p.means, judge, lt-ltb 0 (suc k) (omega arith), le-leb (nat_abs l) v h, lt-ltb 0 r z)

  judge_zero_word : (at k r : ℕ) (u : Bool) (ws : List Word) → judge v (budget (suc k) r u) (word at (48 ∷ []) ∷ ws) end ok ≡ judge v (budget k r false) ws end ok
  unfolding judge
  judge_zero_word at k r u ws =
      let q : suc k - 1 ≡ k = omega arith in
      rw (lt-ltb 0 (suc k) (omega arith), judge, q)

  judge_clause : (c : List ℤ) (ws : List Word) (at k r : ℕ) (u : Bool) → InClause v c → length c ≤ r
      → judge v (budget (suc k) r u) (words_of at c ++ ws) end ok ≡ judge v (budget k (r - length c) false) ws end ok
  unfolding words_of InClause
  judge_clause [] ws at k r u h le = let q : r - 0 ≡ r = omega arith in rw q (judge_zero_word at k r u ws)
  judge_clause (l ∷ ls) ws at k r u h le =
      let q : r - 1 - length ls ≡ r - suc (length ls) = omega arith in
      judge_literal_word l (literal_text l) at k r u _ (spelt l h.0) h.1.0 (omega arith)
      ∙ judge_clause ls ws (suc (at + length (literal_text l))) k (r - 1) true h.1.1 (omega arith)
      ∙ ap (λ (m : ℕ). judge v (budget k m false) ws end ok) q

clause_read : (v : ℕ) (begun c : List ℤ) (ws : List Word) (at : ℕ) → InClause v c → clauses_of begun (words_of at c ++ ws) ≡ (begun ++ c) ∷ clauses_of [] ws
unfolding clauses_of words_of InClause
clause_read v begun [] ws at h = rw (append-nil begun)
clause_read v begun (l ∷ ls) ws at h =
    let p = spelt l h.0 in
    let step : clauses_of begun (word at (literal_text l) ∷ (words_of (suc (at + length (literal_text l))) ls ++ ws)) ≡ clauses_of (begun ++ (l ∷ [])) (words_of (suc (at + length (literal_text l))) ls ++ ws) = rw (p.means, clauses_of, p.back) in
    step ∙ clause_read v (begun ++ (l ∷ [])) ls ws (suc (at + length (literal_text l))) h.1.1
    ∙ ap (λ (c : List ℤ). c ∷ clauses_of [] ws) (append_assoc begun (l ∷ []) ls)

-- ---- all clauses
body_fits : (v end : ℕ) (ok : Result Header Refusal) (cs : List (List ℤ)) (at r : ℕ) → InClauses v cs → total cs ≤ r
    → judge v (budget (length cs) r false) (words_at (clauses_text cs) at) end ok ≡ ok
unfolding judge clauses_text InClauses total words_at
body_fits v end ok [] at r h le = refl
body_fits v end ok (c ∷ cs) at r h le =
    ap (λ (ws : List Word). judge v (budget (suc (length cs)) r false) ws end ok) (clause_words v c (clauses_text cs) at h.0)
    ∙ judge_clause v end ok c (words_at (clauses_text cs) (end_of at c)) at (length cs) r false h.0 (omega arith)
    ∙ body_fits v end ok cs (end_of at c) (r - length c) h.1 (omega arith)

body_read : (v : ℕ) (cs : List (List ℤ)) (at : ℕ) → InClauses v cs → clauses_of [] (words_at (clauses_text cs) at) ≡ cs
unfolding clauses_of clauses_text InClauses words_at
body_read v [] at h = refl
body_read v (c ∷ cs) at h =
    ap (clauses_of []) (clause_words v c (clauses_text cs) at h.0)
    ∙ clause_read v [] c (words_at (clauses_text cs) (end_of at c)) at h.0
    ∙ ap (λ (ds : List (List ℤ)). c ∷ ds) (body_read v cs (end_of at c) h.1)

-- ---- the header, and the whole text
behind : (text xs s : List ℕ) (at : ℕ) → drop at text ≡ xs ++ s → drop (at + length xs) text ≡ s
behind text xs s at e = sym (drop-drop (length xs) at text) ∙ ap (drop (length xs)) e ∙ drop_at xs s (length xs) refl

rest_read : (v n at : ℕ) (text s : List ℕ) → n ≤ 4096 → drop at text ≡ 32 ∷ (digits n ++ (10 ∷ s)) → header_rest v text at ≡ fitting v n (suc at + length (digits n) + 1)
unfolding header_rest
rest_read v n at text s h e =
    let e1 : drop (suc at) text ≡ digits n ++ (10 ∷ s) = rw (← add-one at) (behind text (32 ∷ []) (digits n ++ (10 ∷ s)) at e) in
    let e2 : drop (suc at + length (digits n)) text ≡ 10 ∷ s = behind text (digits n) (10 ∷ s) (suc at) e1 in
    rw (e, e1, number_read 4096 n 10 (suc at) s h refl, e2)

-- the offset of the body
unfoldable pub body_at : ℕ → ℕ → ℕ
body_at v n = suc (6 + length (digits v)) + length (digits n) + 1

header_read : (v : ℕ) (cs : List (List ℤ)) → v ≤ 1024 → length cs ≤ 4096 → header (text_of v cs) ≡ fitting v (length cs) (body_at v (length cs))
unfolding header text_of body_at
header_read v cs hv hn =
    let s : List ℕ = 32 ∷ (digits (length cs) ++ (10 ∷ clauses_text cs)) in
    let text : List ℕ = text_of v cs in
    let e : drop (6 + length (digits v)) text ≡ s = behind text (digits v) s 6 refl in
    let first : header text ≡ and_then (number 1024 (digits v ++ s) 6) (λ w. header_rest w.value text w.next) = refl in
    first ∙ ap (λ (p : Result Digits Refusal). and_then p (λ w. header_rest w.value text w.next)) (number_read 1024 v 32 6 _ hv refl) ∙ rest_read v (length cs) (6 + length (digits v)) text (clauses_text cs) hn e

body_behind : (v : ℕ) (cs : List (List ℤ)) → drop (body_at v (length cs)) (text_of v cs) ≡ clauses_text cs
unfolding text_of body_at
body_behind v cs =
    let n : ℕ = length cs in
    let s : List ℕ = digits n ++ (10 ∷ clauses_text cs) in
    let text : List ℕ = text_of v cs in
    let e : drop (6 + length (digits v)) text ≡ 32 ∷ s = behind text (digits v) (32 ∷ s) 6 refl in
    let e1 : drop (suc (6 + length (digits v))) text ≡ s = rw (← add-one (6 + length (digits v))) (behind text (32 ∷ []) s (6 + length (digits v)) e) in
    let e2 : drop (suc (6 + length (digits v)) + length (digits n)) text ≡ 10 ∷ clauses_text cs = behind text (digits n) (10 ∷ clauses_text cs) (suc (6 + length (digits v))) e1 in
    behind text (10 ∷ []) (clauses_text cs) (suc (6 + length (digits v)) + length (digits n)) e2

-- the text of a formula within the limits is accepted, with its V and its number of clauses
pub judged : (v : ℕ) (cs : List (List ℤ)) → Writable v cs → judge_text (text_of v cs) ≡ fitting v (length cs) (body_at v (length cs))
unfolding judge_text
judged v cs h =
    let at : ℕ = body_at v (length cs) in
    rw (header_read v cs h.variables h.clauses, body_behind v cs) (body_fits v (length (text_of v cs)) (fitting v (length cs) at) cs at 16384 h.each h.literals)

-- reading what was written gives the same clauses
pub read_back : (v : ℕ) (cs : List (List ℤ)) → Writable v cs → text_clauses (text_of v cs) ≡ cs
read_back v cs h = rw (judged v cs h, body_behind v cs) (body_read v cs (body_at v (length cs)) h.each)
