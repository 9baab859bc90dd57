-- V and N in their places by the grammar are V and N by the pieces, so the header's violations are those of its pieces. Assumes nothing.
use Prim.Native.Nat.{ℕ, suc, ◌+◌, ◌<◌}
use native.Mathlib.Omega.{arith}
use mathlib.Core.Path.{◌≡◌, refl, sym, ap, ◌∙◌, subst}
use mathlib.Core.Bool.{Bool, true, false, not}
use mathlib.Core.List.{List, [], ◌∷◌, ◌++◌}
use mathlib.Core.Logic.{◌⊎◌, ⊎_elim, inl, inr}
use lib.ListN.{length, take, drop, take-append-drop, length-append}
use lib.Seq.{drop-drop, drop-append_seam, take-append_seam}
use lib.Dec.{eqb}
use borrow.Author.Tests.{eqb-true, eqb-false, eq-eqb, ne_eqb}
use Rattle.dimacs.specs.Words.{is_digit, span}
use Rattle.dimacs.specs.Tokens.{decimal}
use Rattle.dimacs.specs.Header.{comments, expect, p_cnf, header}
use Rattle.state.specs.Answers.{refusal_number, refusal_place}
use Rattle.violations.specs.Grammar.{Line, EachLine, commented, Digits, Numeral, NoDigit, VStands, NStands, HeaderViolation, wrong_byte, large_v, large_n}
use Rattle.violations.proofs.Pieces.{numeral_of, digits_at, behind, NViolation, no_n, large_n as over-n, no_end, VViolation, no_v, large_v as over-v, no_space, of_n, PieceViolation, in_comment, no_start, of_v}
use Rattle.violations.proofs.Headers.{Header-read, refused, right, header_read}
use Rattle.violations.proofs.Grammar.{piece_wrong, wrong_piece}
use Rattle.std.specs.Prelude.{Ok}

-- ---- comment lines
-- how many bytes they are
abbrev pub lines_length : List (List ℕ) → ℕ
lines_length ls = length (commented ls [])

pub lines_length_lem : (ls : List (List ℕ)) (s : List ℕ) → length (commented ls s) ≡ lines_length ls + length s
unfolding commented
lines_length_lem [] s = omega arith
lines_length_lem (l ∷ ls) s = omega (arith, length-append l (10 ∷ commented ls s), length-append l (10 ∷ commented ls []), lines_length_lem ls s)

lines_drop : (ls : List (List ℕ)) (s : List ℕ) → drop (lines_length ls) (commented ls s) ≡ s
unfolding commented
lines_drop [] s = refl
lines_drop (l ∷ ls) s =
    let q : lines_length (l ∷ ls) ≡ suc (length l + suc (lines_length ls)) = omega (arith, length-append l (10 ∷ commented ls [])) in
    rw q (sym (drop-drop (suc (lines_length ls)) (length l) (l ++ (10 ∷ commented ls s))) ∙ ap (drop (suc (lines_length ls))) (drop-append_seam l (10 ∷ commented ls s)) ∙ lines_drop ls s)

inside_read : (l s : List ℕ) (at : ℕ) → Line l → comments true (l ++ (10 ∷ s)) at ≡ comments false s (at + length l + 1)
unfolding Line
inside_read [] s at n = let q : suc at ≡ at + 0 + 1 = omega arith in ap (comments false s) q
inside_read (b ∷ l) s at n =
    let q : suc at + length l + 1 ≡ at + suc (length l) + 1 = omega arith in
    ap (λ (t : Bool). comments (not t) (l ++ (10 ∷ s)) (suc at)) (ne_eqb b 10 n.0) ∙ inside_read l s (suc at) n.1 ∙ ap (comments false s) q

lines_read : (ls : List (List ℕ)) (b : ℕ) (s : List ℕ) (at : ℕ) → EachLine ls → (b ≡ 99 → ⊥) → comments false (commented ls (b ∷ s)) at ≡ Ok (at + lines_length ls)
unfolding EachLine commented
lines_read [] b s at n f = let q : at ≡ at + 0 = omega arith in rw (ne_eqb b 99 f, comments) (ap (λ (i : ℕ). Ok i) q)
lines_read (l ∷ ls) b s at n f =
    let q : suc at + length l + 1 + lines_length ls ≡ at + lines_length (l ∷ ls) = omega (arith, length-append l (10 ∷ commented ls [])) in
    inside_read l (commented ls (b ∷ s)) (suc at) n.0 ∙ lines_read ls b s (suc at + length l + 1) n.1 f ∙ ap (λ (i : ℕ). Ok i) q

-- the lines that were read
abbrev Lines : Bool → List ℕ → ℕ → ℕ → Type 0
Lines true s at next = (l : List ℕ) × (ls : List (List ℕ)) × (r : List ℕ) × Line l × EachLine ls × (s ≡ l ++ (10 ∷ commented ls r)) × (next ≡ at + length l + 1 + lines_length ls)
Lines false s at next = (ls : List (List ℕ)) × (r : List ℕ) × EachLine ls × (s ≡ commented ls r) × (next ≡ at + lines_length ls)

lines_were : (inside : Bool) (s : List ℕ) (at next : ℕ) → comments inside s at ≡ Ok next → Lines inside s at next
unfolding Line EachLine commented
lines_were true [] at next e = absurd (let z : ◌≡◌ {A = ℕ} 0 1 = cc in omega arith)
lines_were false [] at next e = let q : at ≡ next = cc in ([], [], tt, refl, omega arith)
lines_were true (b ∷ s) at next e = go (eqb b 10) refl (lines_were false s (suc at) next) (lines_were true s (suc at) next)
  where
    go : (t : Bool) → eqb b 10 ≡ t → (comments false s (suc at) ≡ Ok next → Lines false s (suc at) next) → (comments true s (suc at) ≡ Ok next → Lines true s (suc at) next) → Lines true (b ∷ s) at next
    go true t f g =
        let x = f (rw (t, comments) at e) in
        let q : b ≡ 10 = eqb-true b 10 t in
        ([], x.0, x.1, tt, x.2, ap (λ (c : ℕ). c ∷ s) q ∙ ap (λ (u : List ℕ). 10 ∷ u) x.3, omega (arith, x.4))
    go false t f g =
        let x = g (rw (t, comments) at e) in
        (b ∷ x.0, x.1, x.2, (eqb-false b 10 t, x.3), x.4, ap (λ (u : List ℕ). b ∷ u) x.5, omega (arith, x.6))
lines_were false (b ∷ s) at next e = go (eqb b 99) refl (lines_were true s (suc at) next)
  where
    go : (t : Bool) → eqb b 99 ≡ t → (comments true s (suc at) ≡ Ok next → Lines true s (suc at) next) → Lines false (b ∷ s) at next
    go true t f =
        let x = f (rw (t, comments) at e) in
        let q : b ≡ 99 = eqb-true b 99 t in (
          x.0 ∷ x.1,
          x.2,
          (x.3, x.4),
          ap (λ (c : ℕ). c ∷ s) q ∙ ap (λ (u : List ℕ). 99 ∷ u) x.5,
          omega (arith, x.6, length-append x.0 (10 ∷ commented x.1 [])),
        )
    go false t f =
        let y = rw (t, comments) at e in
        let q : at ≡ next = cc in
        ([], b ∷ s, tt, refl, omega arith)

-- ---- fixed bytes
pub bytes_read : (ps s : List ℕ) (at : ℕ) → expect ps (ps ++ s) at ≡ Ok (at + length ps)
bytes_read [] s at = let q : at ≡ at + 0 = omega arith in ap (λ (i : ℕ). Ok i) q
bytes_read (p ∷ ps) s at =
    let q : suc at + length ps ≡ at + suc (length ps) = omega arith in
    rw (eq-eqb p p refl, expect) (bytes_read ps s (suc at) ∙ ap (λ (i : ℕ). Ok i) q)

pub bytes_were : (ps s : List ℕ) (at next : ℕ) → expect ps s at ≡ Ok next → (r : List ℕ) × (s ≡ ps ++ r) × (next ≡ at + length ps)
bytes_were [] s at next e = let q : at ≡ next = cc in (s, refl, omega arith)
bytes_were (p ∷ ps) [] at next e = absurd (let z : ◌≡◌ {A = ℕ} 0 1 = cc in omega arith)
bytes_were (p ∷ ps) (b ∷ s) at next e = go (eqb b p) refl (bytes_were ps s (suc at) next)
  where
    go : (t : Bool) → eqb b p ≡ t → (expect ps s (suc at) ≡ Ok next → (r : List ℕ) × (s ≡ ps ++ r) × (next ≡ suc at + length ps)) → (r : List ℕ) × (b ∷ s ≡ (p ∷ ps) ++ r) × (next ≡ at + length (p ∷ ps))
    go true t ih =
        let x = ih (rw (t, expect) at e) in
        let q : b ≡ p = eqb-true b p t in
        (x.0, ap (λ (c : ℕ). c ∷ s) q ∙ ap (λ (u : List ℕ). p ∷ u) x.1, omega (arith, x.2))
    go false t ih = absurd (let y = rw (t, expect) at e in let z : ◌≡◌ {A = ℕ} 0 1 = cc in omega arith)

-- ---- numbers
run_read : (ds r : List ℕ) → Digits ds → NoDigit r → span is_digit (ds ++ r) ≡ length ds
unfolding Digits NoDigit
run_read [] [] n f = refl
run_read [] (b ∷ r) n f = rw (f, span)
run_read (d ∷ ds) r n f = rw (n.0, span) (ap suc (run_read ds r n.1 f))

pub number_read : (ds r : List ℕ) → Numeral ds → NoDigit r → numeral_of (ds ++ r) ≡ ds
unfolding Numeral
number_read [] r n f = absurd n
number_read (d ∷ ds) r n f = ⊎_elim
    (λ x. rw (eq-eqb d 48 x.0, numeral_of) (ap (λ (u : List ℕ). d ∷ u) (sym x.1)))
    (λ x. rw (ne_eqb d 48 x.0, numeral_of) (ap (λ (k : ℕ). take k ((d ∷ ds) ++ r)) (run_read (d ∷ ds) r x.1 f) ∙ take-append_seam (d ∷ ds) r))
    n

run_was : (s : List ℕ) → Digits (take (span is_digit s) s) × NoDigit (drop (span is_digit s) s)
unfolding Digits NoDigit
run_was [] = (tt, tt)
run_was (b ∷ s) = go (is_digit b) refl (run_was s)
  where
    go : (t : Bool) → is_digit b ≡ t → Digits (take (span is_digit s) s) × NoDigit (drop (span is_digit s) s) → Digits (take (span is_digit (b ∷ s)) (b ∷ s)) × NoDigit (drop (span is_digit (b ∷ s)) (b ∷ s))
    go true t x = rw (t, span) ((t, x.0), x.1)
    go false t x = rw (t, span) (tt, t)

-- the digits that were read: they are whole, but for `0`
abbrev pub Was : List ℕ → List ℕ → Type 0
Was s ds = (r : List ℕ) × Numeral ds × (s ≡ ds ++ r) × (NoDigit r ⊎ (decimal ds ≡ 0))

pub number_was : (s : List ℕ) → 0 < length (numeral_of s) → Was s (numeral_of s)
unfolding Numeral
number_was [] h = absurd (omega arith)
number_was (b ∷ s) h = go (eqb b 48) refl (is_digit b) refl
  where
    go : (t : Bool) → eqb b 48 ≡ t → (u : Bool) → is_digit b ≡ u → Was (b ∷ s) (numeral_of (b ∷ s))
    go true t u d =
        let e : b ∷ [] ≡ numeral_of (b ∷ s) = rw (t, numeral_of) in
        let q : b ≡ 48 = eqb-true b 48 t in
        subst (Was (b ∷ s)) e (s, inl (q, refl), refl, inr (omega arith))
    go false t true d =
        let e : take (span is_digit (b ∷ s)) (b ∷ s) ≡ numeral_of (b ∷ s) = rw (t, numeral_of) in
        let f : b ∷ take (span is_digit s) s ≡ take (span is_digit (b ∷ s)) (b ∷ s) = rw (d, span) in
        let x = run_was (b ∷ s) in
        subst (Was (b ∷ s)) e (
          drop (span is_digit (b ∷ s)) (b ∷ s),
          subst Numeral f (inr (eqb-false b 48 t, subst Digits (sym f) x.0)),
          sym (take-append-drop (span is_digit (b ∷ s)) (b ∷ s)),
          inl x.1,
        )
    go false t false d = absurd (let y : 0 < 0 = rw (t, numeral_of, d, span) at h in omega arith)

-- ---- V and N by the grammar, at offsets of the text
-- behind bytes of a known length stand those that follow them
pub behind_bytes : (text xs s : List ℕ) (at : ℕ) → drop at text ≡ xs ++ s → drop (at + length xs) text ≡ s
behind_bytes text xs s at e = sym (drop-drop (length xs) at text) ∙ ap (drop (length xs)) e ∙ drop-append_seam xs s

module _ (text : List ℕ) (ls : List (List ℕ)) (lined : EachLine ls) (x : List ℕ) (written : text ≡ commented ls (p_cnf ++ x)) where
  unfoldable pub v_at : ℕ
  v_at = lines_length ls + 6

  pub v_line : comments false text 0 ≡ Ok (lines_length ls)
  v_line =
      let q : 0 + lines_length ls ≡ lines_length ls = omega arith in
      ap (λ (s : List ℕ). comments false s 0) written ∙ lines_read ls 112 _ 0 lined (λ z. omega arith) ∙ ap (λ (i : ℕ). Ok i) q

  v_front : drop (lines_length ls) text ≡ p_cnf ++ x
  v_front = ap (drop (lines_length ls)) written ∙ lines_drop ls (p_cnf ++ x)

  pub v_start : expect p_cnf (drop (lines_length ls) text) (lines_length ls) ≡ Ok v_at
  unfolding v_at
  v_start = ap (λ (s : List ℕ). expect p_cnf s (lines_length ls)) v_front ∙ bytes_read p_cnf x (lines_length ls)

  pub v_behind : drop v_at text ≡ x
  unfolding v_at
  v_behind = behind_bytes text p_cnf x (lines_length ls) v_front

  pub v_place : v_at ≡ length (commented ls p_cnf)
  unfolding v_at
  v_place = sym (lines_length_lem ls p_cnf)

pub numeral_some : (ds : List ℕ) → Numeral ds → 0 < length ds
unfolding Numeral
numeral_some [] n = absurd n
numeral_some (d ∷ ds) n = omega arith

-- ---- the limits
v_stands : (text ds : List ℕ) (offset : ℕ) → VStands text ds offset → 1024 < decimal ds → PieceViolation text 3 offset
v_stands text ds offset S h =
    let x : List ℕ = ds ++ S.rest in
    let at : ℕ = v_at text S.lines S.lined x S.written in
    let d : digits_at text at ≡ ds = ap numeral_of (v_behind text S.lines S.lined x S.written) ∙ number_read ds S.rest S.numeral S.whole in
    let q : at ≡ offset = v_place text S.lines S.lined x S.written ∙ sym S.place in
    subst (PieceViolation text 3) q
    (of_v (lines_length S.lines) at 3 at (v_line text S.lines S.lined x S.written) (v_start text S.lines S.lined x S.written) (over-v (rw d h)))

n_stands : (text ds : List ℕ) (offset : ℕ) → NStands text ds offset → 4096 < decimal ds → PieceViolation text 3 offset
unfolding NoDigit
n_stands text ds offset N h =
    let y : List ℕ = ds ++ N.rest in
    let x : List ℕ = N.v ++ (32 ∷ y) in
    let at : ℕ = v_at text N.lines N.lined x N.written in
    let here : drop at text ≡ x = v_behind text N.lines N.lined x N.written in
    let d : digits_at text at ≡ N.v = ap numeral_of here ∙ number_read N.v (32 ∷ y) N.numeral_v refl in
    let b : behind text at ≡ at + length N.v = ap (λ (u : List ℕ). at + length u) d in
    let s : drop (behind text at) text ≡ 32 ∷ y = ap (λ (i : ℕ). drop i text) b ∙ behind_bytes text N.v (32 ∷ y) at here in
    let next : ℕ = behind text at + 1 in
    let g : expect (32 ∷ []) (drop (behind text at) text) (behind text at) ≡ Ok next = ap (λ (u : List ℕ). expect (32 ∷ []) u (behind text at)) s ∙ bytes_read (32 ∷ []) y (behind text at) in
    let n : digits_at text next ≡ ds = ap numeral_of (behind_bytes text (32 ∷ []) y (behind text at) s) ∙ number_read ds N.rest N.numeral N.whole in
    let q : next ≡ offset =
    omega (
      arith,
      b,
      N.place,
      v_place text N.lines N.lined x N.written,
      lines_length_lem N.lines p_cnf,
      lines_length_lem N.lines (p_cnf ++ (N.v ++ (32 ∷ []))),
      length-append N.v (32 ∷ []),
    ) in
    subst (PieceViolation text 3) q
    (of_v (lines_length N.lines) at 3 next (v_line text N.lines N.lined x N.written) (v_start text N.lines N.lined x N.written)
    (of_n 3 next next (rw d (numeral_some N.v N.numeral_v)) g (over-n (rw n h))))

-- no digits, no number
digits_some : (ds : List ℕ) (limit : ℕ) → limit < decimal ds → 0 < length ds
digits_some [] limit h = absurd (let z : limit < 0 = h in omega arith)
digits_some (d ∷ ds) limit h = omega arith

-- V begins at the offset `at`
pub record VFound (text : List ℕ) (at : ℕ) : Type 0 where
  pub lines : List (List ℕ)
  pub lined : EachLine lines
  pub written : text ≡ commented lines (p_cnf ++ drop at text)
  pub place : at ≡ length (commented lines p_cnf)

pub v_found : (text : List ℕ) (line at : ℕ) → comments false text 0 ≡ Ok line → expect p_cnf (drop line text) line ≡ Ok at → VFound text at
v_found text line at c e =
    let x = lines_were false text 0 line c in
    let y = bytes_were p_cnf (drop line text) line at e in
    let a : lines_length x.0 ≡ line = omega (arith, x.4) in
    let r : drop line text ≡ x.1 = ap (λ (i : ℕ). drop i text) (sym a) ∙ ap (drop (lines_length x.0)) x.3 ∙ lines_drop x.0 x.1 in
    let z : drop at text ≡ y.0 = ap (λ (i : ℕ). drop i text) y.2 ∙ behind_bytes text p_cnf y.0 line y.1 in
    record {
      lines = x.0;
      lined = x.2;
      written = x.3 ∙ ap (commented x.0) (sym r ∙ y.1 ∙ ap (λ (u : List ℕ). p_cnf ++ u) (sym z));
      place = omega (arith, y.2, x.4, lines_length_lem x.0 p_cnf);
    }

-- above its limit a number is not `0`
whole_over : (r ds : List ℕ) (limit : ℕ) → limit < decimal ds → NoDigit r ⊎ (decimal ds ≡ 0) → NoDigit r
whole_over r ds limit h (inl x) = x
whole_over r ds limit h (inr x) = absurd (omega arith)

n_over : (text : List ℕ) (at number offset : ℕ) → NViolation text at number offset → number ≡ 3 → (offset ≡ at) × (4096 < decimal (digits_at text at))
n_over text at number offset (no_n e) three = absurd (omega arith)
n_over text at number offset (over-n h) three = (refl, h)
n_over text at number offset (no_end o h e) three = absurd (omega arith)

v_over : (text : List ℕ) (at number offset : ℕ) → VFound text at → VViolation text at number offset → number ≡ 3 → HeaderViolation text 3 offset
v_over text at number offset F (no_v e) three = absurd (omega arith)
v_over text at number offset F (over-v h) three =
    let ds : List ℕ = digits_at text at in
    let w = number_was (drop at text) (digits_some ds 1024 h) in
    large_v ds at (record {
      lines = F.lines;
      lined = F.lined;
      numeral = w.1;
      rest = w.0;
      whole = whole_over w.0 ds 1024 h w.3;
      written = F.written ∙ ap (λ (u : List ℕ). commented F.lines (p_cnf ++ u)) w.2;
      place = F.place;
    }) h
v_over text at number offset F (no_space o h e) three = absurd (omega arith)
v_over text at number offset F (of_n k o next h e x) three =
    let n = n_over text next k o x three in
    let ds : List ℕ = digits_at text next in
    let v : List ℕ = digits_at text at in
    let w = number_was (drop at text) h in
    let y = bytes_were (32 ∷ []) (drop (behind text at) text) (behind text at) next e in
    let u = number_was (drop next text) (digits_some ds 4096 n.1) in
    let r : w.0 ≡ 32 ∷ y.0 = sym (behind_bytes text v w.0 at w.2) ∙ y.1 in
    let z : drop next text ≡ y.0 = ap (λ (i : ℕ). drop i text) y.2 ∙ behind_bytes text (32 ∷ []) y.0 (behind text at) y.1 in
    let s : w.0 ≡ 32 ∷ (ds ++ u.0) = r ∙ ap (λ (c : List ℕ). 32 ∷ c) (sym z ∙ u.2) in
    large_n ds o (record {
      lines = F.lines;
      lined = F.lined;
      v = v;
      numeral_v = w.1;
      numeral = u.1;
      rest = u.0;
      whole = whole_over u.0 ds 4096 n.1 u.3;
      written = F.written ∙ ap (λ (c : List ℕ). commented F.lines (p_cnf ++ c)) (w.2 ∙ ap (λ (c : List ℕ). v ++ c) s);
      place =
          omega (
            arith,
            n.0,
            y.2,
            F.place,
            lines_length_lem F.lines p_cnf,
            lines_length_lem F.lines (p_cnf ++ (v ++ (32 ∷ []))),
            length-append v (32 ∷ []),
          );
    }) n.1

piece_over : (text : List ℕ) (number offset : ℕ) → PieceViolation text number offset → number ≡ 3 → HeaderViolation text 3 offset
piece_over text number offset (in_comment o e) three = absurd (omega arith)
piece_over text number offset (no_start line o c e) three = absurd (omega arith)
piece_over text number offset (of_v line at k o c e x) three = v_over text at k o (v_found text line at c e) x three

-- ---- the header's violations are those of its pieces
n_number : (text : List ℕ) (at number offset : ℕ) → NViolation text at number offset → (number ≡ 2) ⊎ (number ≡ 3)
n_number text at number offset (no_n e) = inl refl
n_number text at number offset (over-n h) = inr refl
n_number text at number offset (no_end o h e) = inl refl

v_number : (text : List ℕ) (at number offset : ℕ) → VViolation text at number offset → (number ≡ 2) ⊎ (number ≡ 3)
v_number text at number offset (no_v e) = inl refl
v_number text at number offset (over-v h) = inr refl
v_number text at number offset (no_space o h e) = inl refl
v_number text at number offset (of_n k o next h e x) = n_number text next k o x

piece_number : (text : List ℕ) (number offset : ℕ) → PieceViolation text number offset → (number ≡ 2) ⊎ (number ≡ 3)
piece_number text number offset (in_comment o e) = inl refl
piece_number text number offset (no_start line o c e) = inl refl
piece_number text number offset (of_v line at k o c e x) = v_number text at k o x

pub piece_header : (text : List ℕ) (number offset : ℕ) → PieceViolation text number offset → HeaderViolation text number offset
piece_header text number offset x = ⊎_elim
    (λ e. subst (λ (k : ℕ). HeaderViolation text k offset) (sym e) (wrong_byte offset (piece_wrong text offset (subst (λ (k : ℕ). PieceViolation text k offset) e x))))
    (λ e. subst (λ (k : ℕ). HeaderViolation text k offset) (sym e) (piece_over text number offset x e))
    (piece_number text number offset x)

header_piece : (text : List ℕ) (number offset : ℕ) → HeaderViolation text number offset → PieceViolation text number offset
header_piece text number offset (wrong_byte o w) = wrong_piece text o w
header_piece text number offset (large_v ds o S h) = v_stands text ds o S h
header_piece text number offset (large_n ds o S h) = n_stands text ds o S h

-- the header is refused at the violation of it that wins, and is right if it has none
pub header_judged : (text : List ℕ) → Header-read (HeaderViolation text) (header text)
header_judged text = go (header_read text)
  where
    go : Header-read (PieceViolation text) (header text) → Header-read (HeaderViolation text) (header text)
    go (refused r e W) = refused r e (record {
      violated = piece_header text (refusal_number r) (refusal_place r) W.violated;
      smallest = λ k o x. W.smallest k o (header_piece text k o x);
      two = λ x. W.two (header_piece text 2 (refusal_place r) x);
    })
    go (right v n at e f) = right v n at e (λ k o x. f k o (header_piece text k o x))
