-- The header is refused at the violation of its pieces that wins, and is right if they have none. Assumes nothing.
use Prim.Native.Nat.{ℕ, suc, ◌+◌, ◌≤◌, ◌<◌}
use native.Mathlib.Omega.{arith}
use mathlib.Core.Path.{◌≡◌, refl, sym, ap, ◌∙◌, subst}
use mathlib.Core.Bool.{Bool, true, false, not}
use mathlib.Core.List.{List, [], ◌∷◌}
use mathlib.Core.Logic.{◌⊎◌, ⊎_elim, inl, inr}
use lib.ListN.{length, take, drop}
use lib.Dec.{leb, eqb}
use borrow.Author.Tests.{eqb-true, leb-true, leb-false}
use Rattle.dimacs.specs.Words.{is_digit, span}
use Rattle.dimacs.specs.Tokens.{decimal}
use Rattle.dimacs.specs.Header.{comments, expect, within_limit, number, line_end, and_then, p_cnf, header_rest, header, got as got_number, fitting}
use Rattle.state.specs.Answers.{refusal_number, refusal_place}
use Rattle.state.specs.declared.Refusal.{Refusal}
use Rattle.state.specs.declared.Refusal.TheVariants.{Grammar, Limit}
use Rattle.violations.proofs.Pieces.{numeral_of, digits_at, behind, NViolation, no_n, large_n, no_end, VViolation, no_v, large_v, no_space, of_n, PieceViolation, in_comment, no_start, of_v}
use Rattle.violations.specs.Violations.{Wins}
use Rattle.std.specs.Prelude.{Result, Ok, Err}
use Rattle.dimacs.specs.declared.Header.{Header}
use Rattle.dimacs.specs.declared.Digits.{Digits}

-- ---- a piece that is read from `at` on without a limit: it is wrong at a byte, or ends at one
pub data Read (at : ℕ) (p : Result ℕ Refusal) : Type 0 where
  wrong : (offset : ℕ) → at ≤ offset → p ≡ Err (Grammar offset) → Read at p
  got : (next : ℕ) → at ≤ next → p ≡ Ok next → Read at p

read_on : (at : ℕ) (p q : Result ℕ Refusal) → p ≡ q → Read (suc at) q → Read at p
read_on at p q e (wrong o h x) = wrong o (omega arith) (e ∙ x)
read_on at p q e (got o h x) = got o (omega arith) (e ∙ x)

pub comments_read : (inside : Bool) (s : List ℕ) (at : ℕ) → Read at (comments inside s at)
comments_read true [] at = wrong at (omega arith) refl
comments_read false [] at = got at (omega arith) refl
comments_read true (b ∷ s) at = read_on at _ _ refl (comments_read (not (eqb b 10)) s (suc at))
comments_read false (b ∷ s) at = go (eqb b 99) refl (comments_read true s (suc at))
  where
    go : (t : Bool) → eqb b 99 ≡ t → Read (suc at) (comments true s (suc at)) → Read at (comments false (b ∷ s) at)
    go true e ih = read_on at (comments false (b ∷ s) at) (comments true s (suc at)) (rw (e, comments)) ih
    go false e ih = got at (omega arith) (rw (e, comments))

pub expect_read : (ps s : List ℕ) (at : ℕ) → Read at (expect ps s at)
expect_read [] s at = got at (omega arith) refl
expect_read (p ∷ ps) [] at = wrong at (omega arith) refl
expect_read (p ∷ ps) (b ∷ s) at = go (eqb b p) refl (expect_read ps s (suc at))
  where
    go : (t : Bool) → eqb b p ≡ t → Read (suc at) (expect ps s (suc at)) → Read at (expect (p ∷ ps) (b ∷ s) at)
    go true e ih = read_on at (expect (p ∷ ps) (b ∷ s) at) (expect ps s (suc at)) (rw (e, expect)) ih
    go false e ih = wrong at (omega arith) (rw (e, expect))

pub line_end_read : (s : List ℕ) (at : ℕ) → Read at (line_end s at)
line_end_read [] at = got at (omega arith) refl
line_end_read (b ∷ s) at = go (eqb b 10) refl
  where
    go : (t : Bool) → eqb b 10 ≡ t → Read at (line_end (b ∷ s) at)
    go true e = got (at + 1) (omega arith) (rw (e, line_end))
    go false e = wrong at (omega arith) (rw (e, line_end))

-- so a piece from `at` on is never wrong or ended before `at`
wrong_from : (at offset : ℕ) (p : Result ℕ Refusal) → Read at p → p ≡ Err (Grammar offset) → at ≤ offset
wrong_from at offset p (wrong o h x) e = let q : o ≡ offset = cc in omega arith
wrong_from at offset p (got o h x) e = absurd (let z : ◌≡◌ {A = ℕ} 0 1 = cc in omega arith)

got_from : (at next : ℕ) (p : Result ℕ Refusal) → Read at p → p ≡ Ok next → at ≤ next
got_from at next p (wrong o h x) e = absurd (let z : ◌≡◌ {A = ℕ} 0 1 = cc in omega arith)
got_from at next p (got o h x) e = let q : o ≡ next = cc in omega arith

-- ---- a number: its digits, and its limit
pub data Number (limit : ℕ) (s : List ℕ) (at : ℕ) (p : Result Digits Refusal) : Type 0 where
  none : p ≡ Err (Grammar at) → numeral_of s ≡ [] → Number limit s at p
  large : p ≡ Err (Limit at) → 0 < length (numeral_of s) → limit < decimal (numeral_of s) → Number limit s at p
  value : p ≡ got_number (decimal (numeral_of s)) (at + length (numeral_of s)) → 0 < length (numeral_of s) → decimal (numeral_of s) ≤ limit → Number limit s at p

pub number_read : (limit : ℕ) (s : List ℕ) (at : ℕ) → Number limit s at (number limit s at)
number_read limit [] at = none refl refl
number_read limit (b ∷ s) at = go (eqb b 48) refl (is_digit b) refl
  where
    run : (ds : List ℕ) → numeral_of (b ∷ s) ≡ ds → number limit (b ∷ s) at ≡ within_limit limit ds at → 0 < length ds → (t : Bool) → leb (decimal ds) limit ≡ t
        → Number limit (b ∷ s) at (number limit (b ∷ s) at)
    run ds e q h true t = value (q ∙ rw (t, within_limit, e)) (rw e h) (rw e (leb-true _ _ t))
    run ds e q h false t = large (q ∙ rw (t, within_limit)) (rw e h) (rw e (omega (arith, leb-false (decimal ds) limit t)))

    go : (t : Bool) → eqb b 48 ≡ t → (u : Bool) → is_digit b ≡ u → Number limit (b ∷ s) at (number limit (b ∷ s) at)
    go true t u d =
        let e : numeral_of (b ∷ s) ≡ b ∷ [] = rw (t, numeral_of) in
        let z : decimal (b ∷ []) ≡ 0 = omega (arith, eqb-true b 48 t) in
        let p : number limit (b ∷ s) at ≡ got_number 0 (at + 1) = rw (t, number) in
        let q : got_number (decimal (numeral_of (b ∷ s))) (at + length (numeral_of (b ∷ s))) ≡ got_number 0 (at + 1) = rw (e, z) in
        value (p ∙ sym q) (rw e (omega arith)) (rw e (omega arith))
    go false t true d =
        let ds : List ℕ = take (span is_digit (b ∷ s)) (b ∷ s) in
        run ds (rw (t, numeral_of)) (rw (t, number, d)) (rw (d, span) (omega arith)) (leb (decimal ds) limit) refl
    go false t false d = none (rw (t, number, d)) (rw (t, numeral_of, d, span))

-- ---- N and what follows
-- a header: refused at the violation that wins, or right, with no violation
pub data Header-read (Violated : ℕ → ℕ → Type 0) (h : Result Header Refusal) : Type 0 where
  refused : (r : Refusal) → h ≡ Err r → Wins Violated (refusal_number r) (refusal_place r) → Header-read Violated h
  right : (v n at : ℕ) → h ≡ fitting v n at → ((number offset : ℕ) → Violated number offset → ⊥) → Header-read Violated h

-- no digits and some digits
no_digits : (ds : List ℕ) → ds ≡ [] → 0 < length ds → ⊥
no_digits ds e h = let z : length ds ≡ 0 = ap length e in omega arith

module _ (text : List ℕ) (at : ℕ) where
  ending : Result ℕ Refusal
  ending = line_end (drop (behind text at) text) (behind text at)

  ending_read : Read (behind text at) ending
  unfolding ending
  ending_read = line_end_read (drop (behind text at) text) (behind text at)

  n_from : (number offset : ℕ) → NViolation text at number offset → at ≤ offset
  unfolding ending
  n_from number offset (no_n e) = omega arith
  n_from number offset (large_n h) = omega arith
  n_from number offset (no_end o h e) = omega (arith, wrong_from (behind text at) o ending ending_read e)

  -- where there are digits, 2 is not at the first of them
  n_behind : (number offset : ℕ) → NViolation text at number offset → 0 < length (digits_at text at) → number ≡ 2 → at < offset
  unfolding ending
  n_behind number offset (no_n e) some two = absurd (no_digits (digits_at text at) e some)
  n_behind number offset (large_n h) some two = absurd (omega arith)
  n_behind number offset (no_end o h e) some two = omega (arith, wrong_from (behind text at) o ending ending_read e)

  -- a right N leaves the line's end
  n_ends : (number offset : ℕ) → NViolation text at number offset → 0 < length (digits_at text at) → decimal (digits_at text at) ≤ 4096 → (number ≡ 2) × (ending ≡ Err (Grammar offset))
  unfolding ending
  n_ends number offset (no_n e) some small = absurd (no_digits (digits_at text at) e some)
  n_ends number offset (large_n h) some small = absurd (omega arith)
  n_ends number offset (no_end o h e) some small = (refl, e)

  n_read : (v : ℕ) → Header-read (NViolation text at) (and_then (number 4096 (drop at text) at) (λ n. and_then (line_end (drop n.next text) n.next) (λ at. fitting v n.value at)))
  unfolding ending
  n_read v = go (number 4096 (drop at text) at) (number_read 4096 (drop at text) at)
    where
      line : (p : Result ℕ Refusal) → ending ≡ p → Read (behind text at) p → 0 < length (digits_at text at) → decimal (digits_at text at) ≤ 4096
          → Header-read (NViolation text at) (and_then p (λ end. fitting v (decimal (digits_at text at)) end))
      line p q (wrong o h e) some small = refused (Grammar o) (rw e) (record {
        violated = no_end o some (q ∙ e);
        smallest = λ k place x. let z = sym (q ∙ e) ∙ (n_ends k place x some small).1 in let y : o ≡ place = cc in omega arith;
        two = λ x. refl;
      })
      line p q (got o h e) some small = right v (decimal (digits_at text at)) o (rw e)
          (λ k place x. let z = sym (q ∙ e) ∙ (n_ends k place x some small).1 in let y : ◌≡◌ {A = ℕ} 0 1 = cc in omega arith)

      go : (p : Result Digits Refusal) → Number 4096 (drop at text) at p → Header-read (NViolation text at) (and_then p (λ n. and_then (line_end (drop n.next text) n.next) (λ at. fitting v n.value at)))
      go p (none e z) = refused (Grammar at) (rw e) (record { violated = no_n z; smallest = n_from; two = λ x. refl })
      go p (large e some h) = refused (Limit at) (rw e) (record {
        violated = large_n h;
        smallest = n_from;
        two = λ x. absurd (omega (arith, n_behind 2 at x some refl));
      })
      go p (value e some small) = rw e (line ending refl ending_read some small)

-- ---- V and what follows
module _ (text : List ℕ) (at : ℕ) where
  space : Result ℕ Refusal
  space = expect (32 ∷ []) (drop (behind text at) text) (behind text at)

  space_read : Read (behind text at) space
  unfolding space
  space_read = expect_read (32 ∷ []) (drop (behind text at) text) (behind text at)

  v_from : (number offset : ℕ) → VViolation text at number offset → at ≤ offset
  unfolding space
  v_from number offset (no_v e) = omega arith
  v_from number offset (large_v h) = omega arith
  v_from number offset (no_space o h e) = omega (arith, wrong_from (behind text at) o space space_read e)
  v_from number offset (of_n k o next h e x) = omega (arith, got_from (behind text at) next space space_read e, n_from text next k o x)

  -- where there are digits, 2 is not at the first of them
  v_behind : (number offset : ℕ) → VViolation text at number offset → 0 < length (digits_at text at) → number ≡ 2 → at < offset
  unfolding space
  v_behind number offset (no_v e) some two = absurd (no_digits (digits_at text at) e some)
  v_behind number offset (large_v h) some two = absurd (omega arith)
  v_behind number offset (no_space o h e) some two = omega (arith, wrong_from (behind text at) o space space_read e)
  v_behind number offset (of_n k o next h e x) some two = omega (arith, got_from (behind text at) next space space_read e, n_from text next k o x)

  -- a right V leaves the space and N
  v_rest : (number offset : ℕ) → VViolation text at number offset → 0 < length (digits_at text at) → decimal (digits_at text at) ≤ 1024
      → ((number ≡ 2) × (space ≡ Err (Grammar offset))) ⊎ ((next : ℕ) × ((space ≡ Ok next) × NViolation text next number offset))
  unfolding space
  v_rest number offset (no_v e) some small = absurd (no_digits (digits_at text at) e some)
  v_rest number offset (large_v h) some small = absurd (omega arith)
  v_rest number offset (no_space o h e) some small = inl (refl, e)
  v_rest number offset (of_n k o next h e x) some small = inr (next, (e, x))

  v_next : (next : ℕ) → space ≡ Ok next → (number offset : ℕ) → VViolation text at number offset → 0 < length (digits_at text at) → decimal (digits_at text at) ≤ 1024 → NViolation text next number offset
  v_next next e number offset x some small = ⊎_elim
      (λ w. absurd (let y = sym e ∙ w.1 in let z : ◌≡◌ {A = ℕ} 0 1 = cc in omega arith))
      (λ w.
      let y = sym e ∙ w.1.0 in
      let z : w.0 ≡ next = cc in
      subst (λ (i : ℕ). NViolation text i number offset) z w.1.1)
      (v_rest number offset x some small)

  v_space : (o : ℕ) → space ≡ Err (Grammar o) → (number offset : ℕ) → VViolation text at number offset → 0 < length (digits_at text at) → decimal (digits_at text at) ≤ 1024 → o ≡ offset
  v_space o e number offset x some small = ⊎_elim
      (λ w. let y = sym e ∙ w.1 in cc)
      (λ w. absurd (let y = sym e ∙ w.1.0 in let z : ◌≡◌ {A = ℕ} 0 1 = cc in omega arith))
      (v_rest number offset x some small)

  v_read : Header-read (VViolation text at) (and_then (number 1024 (drop at text) at) (λ v. header_rest v.value text v.next))
  unfolding space header_rest
  v_read = go (number 1024 (drop at text) at) (number_read 1024 (drop at text) at)
    where
      more : (next : ℕ) (h : Result Header Refusal) → space ≡ Ok next → 0 < length (digits_at text at) → decimal (digits_at text at) ≤ 1024 → Header-read (NViolation text next) h → Header-read (VViolation text at) h
      more next h e some small (refused r q W) = refused r q (record {
        violated = of_n (refusal_number r) (refusal_place r) next some e W.violated;
        smallest = λ k place x. W.smallest k place (v_next next e k place x some small);
        two = λ x. W.two (v_next next e 2 (refusal_place r) x some small);
      })
      more next h e some small (right v n end q f) = right v n end q (λ k place x. f k place (v_next next e k place x some small))

      rest : (v : ℕ) (p : Result ℕ Refusal) → space ≡ p → Read (behind text at) p → 0 < length (digits_at text at) → decimal (digits_at text at) ≤ 1024
          → Header-read (VViolation text at) (and_then p (λ at. and_then (number 4096 (drop at text) at) (λ n. and_then (line_end (drop n.next text) n.next) (λ at. fitting v n.value at))))
      rest v p q (wrong o h e) some small = refused (Grammar o) (rw e) (record {
        violated = no_space o some (q ∙ e);
        smallest = λ k place x. omega (arith, v_space o (q ∙ e) k place x some small);
        two = λ x. refl;
      })
      rest v p q (got o h e) some small = rw e (more o _ (q ∙ e) some small (n_read text o v))

      go : (p : Result Digits Refusal) → Number 1024 (drop at text) at p → Header-read (VViolation text at) (and_then p (λ v. header_rest v.value text v.next))
      go p (none e z) = refused (Grammar at) (rw e) (record { violated = no_v z; smallest = v_from; two = λ x. refl })
      go p (large e some h) = refused (Limit at) (rw e) (record {
        violated = large_v h;
        smallest = v_from;
        two = λ x. absurd (omega (arith, v_behind 2 at x some refl));
      })
      go p (value e some small) = rw e (rest (decimal (digits_at text at)) space refl space_read some small)

-- ---- the comment lines, `p cnf `, and what follows
module _ (text : List ℕ) where
  -- behind the comment lines and `p cnf ` there is only V
  only_v : (line at : ℕ) → comments false text 0 ≡ Ok line → expect p_cnf (drop line text) line ≡ Ok at → (number offset : ℕ) → PieceViolation text number offset → VViolation text at number offset
  only_v line at c e number offset (in_comment o q) = absurd (let y = sym c ∙ q in let z : ◌≡◌ {A = ℕ} 0 1 = cc in omega arith)
  only_v line at c e number offset (no_start l o q s) =
      let y = sym c ∙ q in
      let d : line ≡ l = cc in
      let x = sym e ∙ subst (λ (i : ℕ). expect p_cnf (drop i text) i ≡ Err (Grammar o)) (sym d) s in
      absurd (let z : ◌≡◌ {A = ℕ} 0 1 = cc in omega arith)
  only_v line at c e number offset (of_v l a k o q s w) =
      let y = sym c ∙ q in
      let d : line ≡ l = cc in
      let x = sym e ∙ subst (λ (i : ℕ). expect p_cnf (drop i text) i ≡ Ok a) (sym d) s in
      let b : a ≡ at = cc in
      subst (λ (i : ℕ). VViolation text i k o) b w

  only_comment : (o : ℕ) → comments false text 0 ≡ Err (Grammar o) → (number offset : ℕ) → PieceViolation text number offset → o ≡ offset
  only_comment o e number offset (in_comment p q) = let y = sym e ∙ q in cc
  only_comment o e number offset (no_start l p q s) = absurd (let y = sym e ∙ q in let z : ◌≡◌ {A = ℕ} 0 1 = cc in omega arith)
  only_comment o e number offset (of_v l a k p q s w) = absurd (let y = sym e ∙ q in let z : ◌≡◌ {A = ℕ} 0 1 = cc in omega arith)

  only_start : (line o : ℕ) → comments false text 0 ≡ Ok line → expect p_cnf (drop line text) line ≡ Err (Grammar o) → (number offset : ℕ) → PieceViolation text number offset → o ≡ offset
  only_start line o c e number offset (in_comment p q) = absurd (let y = sym c ∙ q in let z : ◌≡◌ {A = ℕ} 0 1 = cc in omega arith)
  only_start line o c e number offset (no_start l p q s) =
      let y = sym c ∙ q in
      let d : line ≡ l = cc in
      let x = sym e ∙ subst (λ (i : ℕ). expect p_cnf (drop i text) i ≡ Err (Grammar p)) (sym d) s in
      cc
  only_start line o c e number offset (of_v l a k p q s w) =
      let y = sym c ∙ q in
      let d : line ≡ l = cc in
      let x = sym e ∙ subst (λ (i : ℕ). expect p_cnf (drop i text) i ≡ Ok a) (sym d) s in
      absurd (let z : ◌≡◌ {A = ℕ} 0 1 = cc in omega arith)

  -- one violation at one offset wins
  wins_alone : (o : ℕ) → PieceViolation text 2 o → ((number offset : ℕ) → PieceViolation text number offset → o ≡ offset) → Wins (PieceViolation text) 2 o
  wins_alone o x alone = record { violated = x; smallest = λ k place y. omega (arith, alone k place y); two = λ y. refl }

  pub header_read : Header-read (PieceViolation text) (header text)
  unfolding header
  header_read = first (comments false text 0) refl (comments_read false text 0)
    where
      more : (line at : ℕ) (h : Result Header Refusal) → comments false text 0 ≡ Ok line → expect p_cnf (drop line text) line ≡ Ok at → Header-read (VViolation text at) h → Header-read (PieceViolation text) h
      more line at h c e (refused r q W) = refused r q (record {
        violated = of_v line at (refusal_number r) (refusal_place r) c e W.violated;
        smallest = λ k place x. W.smallest k place (only_v line at c e k place x);
        two = λ x. W.two (only_v line at c e 2 (refusal_place r) x);
      })
      more line at h c e (right v n end q f) = right v n end q (λ k place x. f k place (only_v line at c e k place x))

      start : (line : ℕ) → comments false text 0 ≡ Ok line → (p : Result ℕ Refusal) → expect p_cnf (drop line text) line ≡ p → Read line p
          → Header-read (PieceViolation text) (and_then p (λ at. and_then (number 1024 (drop at text) at) (λ v. header_rest v.value text v.next)))
      start line c p q (wrong o h e) = refused (Grammar o) (rw e) (wins_alone o (no_start line o c (q ∙ e)) (only_start line o c (q ∙ e)))
      start line c p q (got o h e) = rw e (more line o _ c (q ∙ e) (v_read text o))

      first : (p : Result ℕ Refusal) → comments false text 0 ≡ p → Read 0 p
          → Header-read (PieceViolation text) (and_then p (λ at. and_then (expect p_cnf (drop at text) at) (λ at. and_then (number 1024 (drop at text) at) (λ v. header_rest v.value text v.next))))
      first p q (wrong o h e) = refused (Grammar o) (rw e) (wins_alone o (in_comment o (q ∙ e)) (only_comment o (q ∙ e)))
      first p q (got o h e) = rw e (start o (q ∙ e) (expect p_cnf (drop o text) o) refl (expect_read p_cnf (drop o text) o))
