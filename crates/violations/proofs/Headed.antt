-- A header that the pieces read is right by the grammar, with the same V, N and end, and the other way round. Assumes nothing.
use Prim.Native.Nat.{ℕ, ◌+◌, ◌≤◌, ◌<◌}
use native.Mathlib.Omega.{arith}
use mathlib.Core.Path.{◌≡◌, refl, sym, ap, ◌∙◌, subst}
use mathlib.Core.Bool.{Bool, true, false}
use mathlib.Core.List.{List, [], ◌∷◌, ◌++◌}
use lib.ListN.{length, drop, length-append}
use lib.Dec.{eqb}
use borrow.Author.Tests.{eqb-true, eq-eqb}
use Rattle.dimacs.specs.Words.{is_digit}
use Rattle.dimacs.specs.Tokens.{decimal}
use Rattle.dimacs.specs.Header.{comments, expect, number, line_end, and_then, p_cnf, header, header_rest, got as got_number, fitting}
use Rattle.violations.specs.Grammar.{commented, EndsLine, NoDigit, Headed}
use Rattle.violations.proofs.Pieces.{numeral_of, digits_at, behind}
use Rattle.violations.proofs.Headers.{Read, wrong, got, comments_read, expect_read, line_end_read, Number, none, large, value, number_read}
use Rattle.violations.proofs.Limits.{lines_length, lines_length_lem, bytes_read, bytes_were, number_read as numeral_read, number_was, behind_bytes, numeral_some, v_found, v_at, v_line, v_start, v_behind, v_place}
use Rattle.std.specs.Prelude.{Result, Ok}
use Rattle.dimacs.specs.declared.Digits.{Digits}
use Rattle.dimacs.proofs.Judge.{fitting_is}
use Rattle.state.specs.declared.Refusal.{Refusal}

-- ---- the line's end
end_no_digit : (s : List ℕ) → EndsLine s → NoDigit s
unfolding EndsLine NoDigit
end_no_digit [] e = tt
end_no_digit (b ∷ s) e = subst (λ (c : ℕ). is_digit c ≡ false) (sym e) refl

end_read : (s : List ℕ) (at body : ℕ) → EndsLine s → body + length (drop 1 s) ≡ at + length s → line_end s at ≡ Ok body
unfolding EndsLine
end_read [] at body e q = let p : at ≡ body = omega arith in ap (λ (i : ℕ). Ok i) p
end_read (b ∷ s) at body e q = let p : at + 1 ≡ body = omega arith in rw (eq-eqb b 10 e, line_end) (ap (λ (i : ℕ). Ok i) p)

end_was : (s : List ℕ) (at body : ℕ) → line_end s at ≡ Ok body → EndsLine s × (body + length (drop 1 s) ≡ at + length s)
unfolding EndsLine
end_was [] at body e = let q : at ≡ body = cc in (tt, omega arith)
end_was (b ∷ s) at body e = go (eqb b 10) refl
  where
    go : (t : Bool) → eqb b 10 ≡ t → EndsLine (b ∷ s) × (body + length (drop 1 (b ∷ s)) ≡ at + length (b ∷ s))
    go true t =
        let y = rw (t, line_end) at e in
        let q : at + 1 ≡ body = cc in
        (eqb-true b 10 t, omega arith)
    go false t = absurd (let y = rw (t, line_end) at e in let z : ◌≡◌ {A = ℕ} 0 1 = cc in omega arith)

-- ---- a number within its limit
number_got : (limit : ℕ) (s ds : List ℕ) (at : ℕ) → numeral_of s ≡ ds → 0 < length ds → decimal ds ≤ limit → number limit s at ≡ got_number (decimal ds) (at + length ds)
number_got limit s ds at e h small = go (number limit s at) (number_read limit s at)
  where
    go : (p : Result Digits Refusal) → Number limit s at p → p ≡ got_number (decimal ds) (at + length ds)
    go p (none q z) = absurd (let y : length ds ≡ 0 = ap length (sym e ∙ z) in omega arith)
    go p (large q some over) = absurd (let y : decimal (numeral_of s) ≡ decimal ds = ap decimal e in omega arith)
    go p (value q some within) = q ∙ ap (λ (u : List ℕ). got_number (decimal u) (at + length u)) e

-- ---- what the pieces read
record Pieces (text : List ℕ) (v n body : ℕ) : Type 0 where
  line : ℕ
  at : ℕ
  next : ℕ
  lines : comments false text 0 ≡ Ok line
  start : expect p_cnf (drop line text) line ≡ Ok at
  some_v : 0 < length (digits_at text at)
  is_v : decimal (digits_at text at) ≡ v
  limit_v : v ≤ 1024
  space : expect (32 ∷ []) (drop (behind text at) text) (behind text at) ≡ Ok next
  some_n : 0 < length (digits_at text next)
  is_n : decimal (digits_at text next) ≡ n
  limit_n : n ≤ 4096
  end : line_end (drop (behind text next) text) (behind text next) ≡ Ok body

pieces_fields : (text : List ℕ) (v n body : ℕ) → Pieces text v n body → header text ≡ fitting v n body
unfolding header header_rest
pieces_fields text v n body P =
    let a : number 1024 (drop P.at text) P.at ≡ got_number v (behind text P.at) =
    number_got 1024 (drop P.at text) (digits_at text P.at) P.at refl P.some_v (omega (arith, P.is_v, P.limit_v)) ∙ ap (λ (i : ℕ). got_number i (behind text P.at)) P.is_v in
    let b : number 4096 (drop P.next text) P.next ≡ got_number n (behind text P.next) =
    number_got 4096 (drop P.next text) (digits_at text P.next) P.next refl P.some_n (omega (arith, P.is_n, P.limit_n)) ∙ ap (λ (i : ℕ). got_number i (behind text P.next)) P.is_n in
    rw (P.lines, P.start, a, P.space, b, P.end)

module _ (text : List ℕ) (v n body : ℕ) where
  n_fields : (w at : ℕ) → and_then (number 4096 (drop at text) at) (λ m. and_then (line_end (drop m.next text) m.next) (λ at. fitting w m.value at)) ≡ fitting v n body
      → (w ≡ v) × (0 < length (digits_at text at)) × (decimal (digits_at text at) ≡ n) × (n ≤ 4096) × (line_end (drop (behind text at) text) (behind text at) ≡ Ok body)
  n_fields w at e = go (number 4096 (drop at text) at) (number_read 4096 (drop at text) at) e
    where
      line : (m : ℕ) (p : Result ℕ Refusal) → line_end (drop (behind text at) text) (behind text at) ≡ p → Read (behind text at) p → and_then p (λ at. fitting w m at) ≡ fitting v n body
          → (w ≡ v) × (m ≡ n) × (line_end (drop (behind text at) text) (behind text at) ≡ Ok body)
      line m p q (wrong o l r) e = absurd (let y = rw r at e in let z : ◌≡◌ {A = ℕ} 0 1 = cc in omega arith)
      line m p q (got o l r) e =
          let y = fitting_is (rw r at e) in
          (y.0, y.1.0, q ∙ r ∙ ap (λ (i : ℕ). Ok i) y.1.1)

      go : (p : Result Digits Refusal) → Number 4096 (drop at text) at p → and_then p (λ m. and_then (line_end (drop m.next text) m.next) (λ at. fitting w m.value at)) ≡ fitting v n body
          → (w ≡ v) × (0 < length (digits_at text at)) × (decimal (digits_at text at) ≡ n) × (n ≤ 4096) × (line_end (drop (behind text at) text) (behind text at) ≡ Ok body)
      go p (none q z) e = absurd (let y = rw q at e in let z : ◌≡◌ {A = ℕ} 0 1 = cc in omega arith)
      go p (large q some over) e = absurd (let y = rw q at e in let z : ◌≡◌ {A = ℕ} 0 1 = cc in omega arith)
      go p (value q some small) e =
          let x = line (decimal (digits_at text at)) (line_end (drop (behind text at) text) (behind text at)) refl (line_end_read (drop (behind text at) text) (behind text at)) (rw q at e) in
          (x.0, some, x.1, omega (arith, x.1), x.2)

  fields_pieces : header text ≡ fitting v n body → Pieces text v n body
  unfolding header header_rest
  fields_pieces e = first (comments false text 0) refl (comments_read false text 0) e
    where
      space : (line at : ℕ) → comments false text 0 ≡ Ok line → expect p_cnf (drop line text) line ≡ Ok at → 0 < length (digits_at text at) → (w : ℕ) → decimal (digits_at text at) ≡ w → w ≤ 1024
          → (p : Result ℕ Refusal) → expect (32 ∷ []) (drop (behind text at) text) (behind text at) ≡ p → Read (behind text at) p
          → and_then p (λ at. and_then (number 4096 (drop at text) at) (λ m. and_then (line_end (drop m.next text) m.next) (λ at. fitting w m.value at))) ≡ fitting v n body → Pieces text v n body
      space line at c s some w d small p q (wrong o l r) e = absurd (let y = rw r at e in let z : ◌≡◌ {A = ℕ} 0 1 = cc in omega arith)
      space line at c s some w d small p q (got next l r) e =
          let x = n_fields w next (rw r at e) in
          record {
            line = line;
            at = at;
            next = next;
            lines = c;
            start = s;
            some_v = some;
            is_v = d ∙ x.0;
            limit_v = omega (arith, x.0);
            space = q ∙ r;
            some_n = x.1;
            is_n = x.2;
            limit_n = x.3;
            end = x.4;
          }

      value_v : (line at : ℕ) → comments false text 0 ≡ Ok line → expect p_cnf (drop line text) line ≡ Ok at → (p : Result Digits Refusal) → Number 1024 (drop at text) at p
          → and_then p (λ v. header_rest v.value text v.next) ≡ fitting v n body → Pieces text v n body
      value_v line at c s p (none q z) e = absurd (let y = rw q at e in let z : ◌≡◌ {A = ℕ} 0 1 = cc in omega arith)
      value_v line at c s p (large q some over) e = absurd (let y = rw q at e in let z : ◌≡◌ {A = ℕ} 0 1 = cc in omega arith)
      value_v line at c s p (value q some small) e =
          space line at c s some (decimal (digits_at text at)) refl small (expect (32 ∷ []) (drop (behind text at) text) (behind text at)) refl
          (expect_read (32 ∷ []) (drop (behind text at) text) (behind text at)) (rw q at e)

      start : (line : ℕ) → comments false text 0 ≡ Ok line → (p : Result ℕ Refusal) → expect p_cnf (drop line text) line ≡ p → Read line p
          → and_then p (λ at. and_then (number 1024 (drop at text) at) (λ v. header_rest v.value text v.next)) ≡ fitting v n body → Pieces text v n body
      start line c p q (wrong o l r) e = absurd (let y = rw r at e in let z : ◌≡◌ {A = ℕ} 0 1 = cc in omega arith)
      start line c p q (got at l r) e = value_v line at c (q ∙ r) (number 1024 (drop at text) at) (number_read 1024 (drop at text) at) (rw r at e)

      first : (p : Result ℕ Refusal) → comments false text 0 ≡ p → Read 0 p
          → and_then p (λ at. and_then (expect p_cnf (drop at text) at) (λ at. and_then (number 1024 (drop at text) at) (λ v. header_rest v.value text v.next))) ≡ fitting v n body → Pieces text v n body
      first p q (wrong o l r) e = absurd (let y = rw r at e in let z : ◌≡◌ {A = ℕ} 0 1 = cc in omega arith)
      first p q (got line l r) e = start line (q ∙ r) (expect p_cnf (drop line text) line) refl (expect_read p_cnf (drop line text) line) (rw r at e)

-- ---- the pieces and the grammar
pieces_headed : (text : List ℕ) (v n body : ℕ) → Pieces text v n body → Headed text v n body
pieces_headed text v n body P =
    let F = v_found text P.line P.at P.lines P.start in
    let vs : List ℕ = digits_at text P.at in
    let ns : List ℕ = digits_at text P.next in
    let w = number_was (drop P.at text) P.some_v in
    let y = bytes_were (32 ∷ []) (drop (behind text P.at) text) (behind text P.at) P.next P.space in
    let u = number_was (drop P.next text) P.some_n in
    let r : w.0 ≡ 32 ∷ y.0 = sym (behind_bytes text vs w.0 P.at w.2) ∙ y.1 in
    let z : drop P.next text ≡ y.0 = ap (λ (i : ℕ). drop i text) y.2 ∙ behind_bytes text (32 ∷ []) y.0 (behind text P.at) y.1 in
    let s : w.0 ≡ 32 ∷ (ns ++ u.0) = r ∙ ap (λ (c : List ℕ). 32 ∷ c) (sym z ∙ u.2) in
    let b : drop (behind text P.next) text ≡ u.0 = behind_bytes text ns u.0 P.next u.2 in
    let e = end_was u.0 (behind text P.next) body (ap (λ (c : List ℕ). line_end c (behind text P.next)) (sym b) ∙ P.end) in
    let t : text ≡ commented F.lines (p_cnf ++ (vs ++ (32 ∷ (ns ++ u.0)))) = F.written ∙ ap (λ (c : List ℕ). commented F.lines (p_cnf ++ c)) (w.2 ∙ ap (λ (c : List ℕ). vs ++ c) s) in
    record {
      right = record { lines = F.lines; lined = F.lined; v = vs; numeral_v = w.1; n = ns; numeral_n = u.1; rest = u.0; ended = e.0; written = t };
      is_v = P.is_v;
      limit_v = P.limit_v;
      is_n = P.is_n;
      limit_n = P.limit_n;
      place =
          omega (
            arith,
            e.1,
            y.2,
            F.place,
            ap length t,
            lines_length_lem F.lines p_cnf,
            lines_length_lem F.lines (p_cnf ++ (vs ++ (32 ∷ (ns ++ u.0)))),
            length-append vs (32 ∷ (ns ++ u.0)),
            length-append ns u.0,
          );
    }

headed_pieces : (text : List ℕ) (v n body : ℕ) → Headed text v n body → Pieces text v n body
unfolding NoDigit
headed_pieces text v n body H =
    let R = H.right in
    let y : List ℕ = R.n ++ R.rest in
    let x : List ℕ = R.v ++ (32 ∷ y) in
    let at : ℕ = v_at text R.lines R.lined x R.written in
    let here : drop at text ≡ x = v_behind text R.lines R.lined x R.written in
    let d : digits_at text at ≡ R.v = ap numeral_of here ∙ numeral_read R.v (32 ∷ y) R.numeral_v refl in
    let b : behind text at ≡ at + length R.v = ap (λ (u : List ℕ). at + length u) d in
    let s : drop (behind text at) text ≡ 32 ∷ y = ap (λ (i : ℕ). drop i text) b ∙ behind_bytes text R.v (32 ∷ y) at here in
    let next : ℕ = behind text at + 1 in
    let g : expect (32 ∷ []) (drop (behind text at) text) (behind text at) ≡ Ok next = ap (λ (u : List ℕ). expect (32 ∷ []) u (behind text at)) s ∙ bytes_read (32 ∷ []) y (behind text at) in
    let there : drop next text ≡ y = behind_bytes text (32 ∷ []) y (behind text at) s in
    let m : digits_at text next ≡ R.n = ap numeral_of there ∙ numeral_read R.n R.rest R.numeral_n (end_no_digit R.rest R.ended) in
    let c : behind text next ≡ next + length R.n = ap (λ (u : List ℕ). next + length u) m in
    let l : drop (behind text next) text ≡ R.rest = ap (λ (i : ℕ). drop i text) c ∙ behind_bytes text R.n R.rest next there in
    let q : body + length (drop 1 R.rest) ≡ behind text next + length R.rest =
    omega (
      arith,
      H.place,
      b,
      c,
      v_place text R.lines R.lined x R.written,
      ap length R.written,
      lines_length_lem R.lines p_cnf,
      lines_length_lem R.lines (p_cnf ++ x),
      length-append R.v (32 ∷ y),
      length-append R.n R.rest,
    ) in
    record {
      line = lines_length R.lines;
      at = at;
      next = next;
      lines = v_line text R.lines R.lined x R.written;
      start = v_start text R.lines R.lined x R.written;
      some_v = rw d (numeral_some R.v R.numeral_v);
      is_v = ap decimal d ∙ H.is_v;
      limit_v = H.limit_v;
      space = g;
      some_n = rw m (numeral_some R.n R.numeral_n);
      is_n = ap decimal m ∙ H.is_n;
      limit_n = H.limit_n;
      end = ap (λ (u : List ℕ). line_end u (behind text next)) l ∙ end_read R.rest (behind text next) body R.ended q;
    }

-- the header is right exactly if it is read so
pub headed_fields : (text : List ℕ) (v n body : ℕ) → Headed text v n body → header text ≡ fitting v n body
headed_fields text v n body H = pieces_fields text v n body (headed_pieces text v n body H)

pub fields_headed : (text : List ℕ) (v n body : ℕ) → header text ≡ fitting v n body → Headed text v n body
fields_headed text v n body e = pieces_headed text v n body (fields_pieces text v n body e)
