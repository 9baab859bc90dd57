-- The grammar's violations of a header are its first wrong byte, or the text's length where the text's end cuts the header off. Assumes nothing.
use Prim.Native.Nat.{ℕ, suc, ◌+◌, ◌<◌}
use native.Mathlib.Omega.{arith}
use mathlib.Core.Path.{◌≡◌, refl, sym, ap, ◌∙◌, subst}
use mathlib.Core.Bool.{Bool, true, false}
use mathlib.Core.List.{List, [], ◌∷◌, ◌++◌}
use mathlib.Core.Logic.{◌⊎◌, ⊎_elim, inl, inr}
use lib.ListN.{length, take, drop}
use lib.Seq.{drop-drop}
use lib.Dec.{eqb}
use borrow.Author.Tests.{eqb-true, eqb-false}
use Rattle.base.proofs.Booleans.{clash}
use Rattle.dimacs.specs.Words.{is_digit, span}
use Rattle.dimacs.specs.Header.{comments, expect, line_end, p_cnf}
use Rattle.state.specs.declared.Refusal.TheVariants.{Grammar}
use Rattle.violations.proofs.Pieces.{numeral_of, digits_at, behind, NViolation, no_n, large_n, no_end, VViolation, no_v, large_v, no_space, of_n, PieceViolation, in_comment, no_start, of_v}
use Rattle.violations.specs.Grammar.{Line, EachLine, commented, Digits, Numeral, EndsLine, RightHeader, FirstWrong}
use Rattle.violations.proofs.Headers.{Read, wrong, got, comments_read, expect_read, line_end_read}
use Rattle.violations.proofs.Wrong.{right_or_wrong, wrong_once, wrong_next, wrong_here, wrong_end, wrong_same, wrong_first, wrong_nothing}
use Rattle.std.specs.Prelude.{Ok, Err}

-- ---- what may follow, piece by piece: M is what may follow the piece
abbrev NumberThen : (List ℕ → Type 0) → List ℕ → Type 0
NumberThen M s = (ds : List ℕ) × (r : List ℕ) × Numeral ds × (s ≡ ds ++ r) × M r

abbrev DigitsThen : (List ℕ → Type 0) → List ℕ → Type 0
DigitsThen M s = (ds : List ℕ) × (r : List ℕ) × Digits ds × (s ≡ ds ++ r) × M r

abbrev BytesThen : List ℕ → (List ℕ → Type 0) → List ℕ → Type 0
BytesThen ps M s = (r : List ℕ) × (s ≡ ps ++ r) × M r

abbrev FromN : List ℕ → Type 0
FromN = NumberThen EndsLine

abbrev FromSpace : List ℕ → Type 0
FromSpace = BytesThen (32 ∷ []) FromN

abbrev FromV : List ℕ → Type 0
FromV = NumberThen FromSpace

abbrev FromP : List ℕ → Type 0
FromP = BytesThen p_cnf FromV

-- at the beginning of a line
abbrev FromLine : List ℕ → Type 0
FromLine s = (ls : List (List ℕ)) × (r : List ℕ) × EachLine ls × (s ≡ commented ls r) × FromP r

-- inside a comment line, and at the beginning of a line
abbrev FromComment : Bool → List ℕ → Type 0
FromComment true s = (l : List ℕ) × (r : List ℕ) × Line l × (s ≡ l ++ (10 ∷ r)) × FromLine r
FromComment false s = FromLine s

-- ---- the pieces: s, read from the offset `at` on by L, is wrong at the offset o; or is read up to the offset `next`, and M goes on there
abbrev WrongAt : (List ℕ → Type 0) → List ℕ → ℕ → ℕ → Type 0
WrongAt L s at o = (k : ℕ) × (o ≡ at + k) × FirstWrong L s k

record Reaches (L : List ℕ → Type 0) (s : List ℕ) (at : ℕ) (M : List ℕ → Type 0) (next : ℕ) : Type 0 where
  bytes : ℕ
  ends : next ≡ at + bytes
  wrong : (k : ℕ) → FirstWrong M (drop bytes s) k → FirstWrong L s (bytes + k)
  right : M (drop bytes s) → L s

module _ (L K : List ℕ → Type 0) (b : ℕ) (into : (t : List ℕ) → K t → L (b ∷ t)) (back : (t : List ℕ) → L (b ∷ t) → K t) (s : List ℕ) (at : ℕ) where
  wrong_further : (o : ℕ) → WrongAt K s (suc at) o → WrongAt L (b ∷ s) at o
  wrong_further o w = (suc w.0, omega (arith, w.1), wrong_next L K b into back s w.0 w.2)

  reaches_further : (M : List ℕ → Type 0) (next : ℕ) → Reaches K s (suc at) M next → Reaches L (b ∷ s) at M next
  reaches_further M next R = record {
    bytes = suc R.bytes;
    ends = omega (arith, R.ends);
    wrong = λ k w. let q : suc (R.bytes + k) ≡ suc R.bytes + k = omega arith in rw q at (wrong_next L K b into back s (R.bytes + k) (R.wrong k w));
    right = λ m. into s (R.right m);
  }

-- no byte is read, and M goes on
reaches_here : (L M : List ℕ → Type 0) (s : List ℕ) (at next : ℕ) → at ≡ next → ((k : ℕ) → FirstWrong M s k → FirstWrong L s k) → (M s → L s) → Reaches L s at M next
reaches_here L M s at next e w r = record {
  bytes = 0;
  ends = omega arith;
  wrong = λ k x. let q : k ≡ 0 + k = omega arith in subst (FirstWrong L s) q (w k x);
  right = r;
}

-- M goes on where s does not begin as more of L does
stays : (L M : List ℕ → Type 0) → ((t : List ℕ) → M t → L t) → (s : List ℕ) → (L [] → M []) → ((b : ℕ) (t u : List ℕ) → s ≡ b ∷ t → L (b ∷ u) → M (b ∷ u)) → (at next : ℕ) → at ≡ next
    → Reaches L s at M next
stays L M into [] end back at next e = reaches_here L M [] at next e (wrong_end L M into end) (into [])
stays L M into (b ∷ s) end back at next e = reaches_here L M (b ∷ s) at next e (wrong_here L M into b s (λ u x. back b s u refl x)) (into (b ∷ s))

-- ---- fixed bytes
module _ (M : List ℕ → Type 0) (t : List ℕ) (some : M t) where
  bytes_into : (p : ℕ) (ps u : List ℕ) → BytesThen ps M u → BytesThen (p ∷ ps) M (p ∷ u)
  bytes_into p ps u x = (x.0, ap (λ (v : List ℕ). p ∷ v) x.1, x.2)

  bytes_back : (b p : ℕ) (ps u : List ℕ) → BytesThen (p ∷ ps) M (b ∷ u) → (b ≡ p) × BytesThen ps M u
  bytes_back b p ps u x =
      let e : b ∷ u ≡ p ∷ (ps ++ x.0) = x.1 in
      (cc, (x.0, cc, x.2))

  expect_wrong : (ps s : List ℕ) (at o : ℕ) → expect ps s at ≡ Err (Grammar o) → WrongAt (BytesThen ps M) s at o
  expect_wrong [] s at o e = absurd (let z : ◌≡◌ {A = ℕ} 0 1 = cc in omega arith)
  expect_wrong (p ∷ ps) [] at o e =
      let q : at ≡ o = cc in
      (0, omega arith, wrong_nothing (BytesThen (p ∷ ps) M) ((p ∷ ps) ++ t) (t, refl, some) (λ x. let y : [] ≡ p ∷ (ps ++ x.0) = x.1 in let z : ◌≡◌ {A = ℕ} 0 1 = cc in omega arith))
  expect_wrong (p ∷ ps) (b ∷ s) at o e = go (eqb b p) refl (expect_wrong ps s (suc at) o)
    where
      go : (u : Bool) → eqb b p ≡ u → (expect ps s (suc at) ≡ Err (Grammar o) → WrongAt (BytesThen ps M) s (suc at) o) → WrongAt (BytesThen (p ∷ ps) M) (b ∷ s) at o
      go true q ih =
          let d : b ≡ p = eqb-true b p q in
          wrong_further (BytesThen (p ∷ ps) M) (BytesThen ps M) b (λ u x. subst (λ (c : ℕ). BytesThen (p ∷ ps) M (c ∷ u)) (sym d) (bytes_into p ps u x)) (λ u x. (bytes_back b p ps u x).1) s at o
          (ih (rw (q, expect) at e))
      go false q ih =
          let y = rw (q, expect) at e in
          let d : at ≡ o = cc in
          (0, omega arith, wrong_first (BytesThen (p ∷ ps) M) b s ((p ∷ ps) ++ t) (t, refl, some) (λ u x. eqb-false b p q (bytes_back b p ps u x).0))

  expect_reaches : (ps s : List ℕ) (at next : ℕ) → expect ps s at ≡ Ok next → Reaches (BytesThen ps M) s at M next
  expect_reaches [] s at next e =
      stays (BytesThen [] M) M (λ u m. (u, refl, m)) s (λ x. subst M (sym x.1) x.2) (λ b u v _ x. subst M (sym x.1) x.2) at next (cc)
  expect_reaches (p ∷ ps) [] at next e = absurd (let z : ◌≡◌ {A = ℕ} 0 1 = cc in omega arith)
  expect_reaches (p ∷ ps) (b ∷ s) at next e = go (eqb b p) refl (expect_reaches ps s (suc at) next)
    where
      go : (u : Bool) → eqb b p ≡ u → (expect ps s (suc at) ≡ Ok next → Reaches (BytesThen ps M) s (suc at) M next) → Reaches (BytesThen (p ∷ ps) M) (b ∷ s) at M next
      go true q ih =
          let d : b ≡ p = eqb-true b p q in
          reaches_further (BytesThen (p ∷ ps) M) (BytesThen ps M) b (λ u x. subst (λ (c : ℕ). BytesThen (p ∷ ps) M (c ∷ u)) (sym d) (bytes_into p ps u x)) (λ u x. (bytes_back b p ps u x).1) s at M next
          (ih (rw (q, expect) at e))
      go false q ih =
          let y = rw (q, expect) at e in
          absurd (let z : ◌≡◌ {A = ℕ} 0 1 = cc in omega arith)

-- ---- a number, where no digit may follow it
module _ (M : List ℕ → Type 0) (t : List ℕ) (some : M t) (apart : (d : ℕ) (u : List ℕ) → is_digit d ≡ true → M (d ∷ u) → ⊥) where
  digits_end : (ds r : List ℕ) → Digits ds → [] ≡ ds ++ r → M r → M []
  digits_end [] r n e m = subst M (sym e) m
  digits_end (d ∷ ds) r n e m = absurd (let z : ◌≡◌ {A = ℕ} 0 1 = cc in omega arith)

  digits_none : (b : ℕ) (u : List ℕ) → is_digit b ≡ false → (ds r : List ℕ) → Digits ds → b ∷ u ≡ ds ++ r → M r → M (b ∷ u)
  unfolding Digits
  digits_none b u f [] r n e m = subst M (sym e) m
  digits_none b u f (d ∷ ds) r n e m = let q : d ≡ b = cc in clash n.0 (subst (λ (x : ℕ). is_digit x ≡ false) (sym q) f)

  digits_more : (b : ℕ) (u : List ℕ) → is_digit b ≡ true → (ds r : List ℕ) → Digits ds → b ∷ u ≡ ds ++ r → M r → DigitsThen M u
  unfolding Digits
  digits_more b u f [] r n e m = absurd (apart b u f (subst M (sym e) m))
  digits_more b u f (d ∷ ds) r n e m = (ds, r, n.1, cc, m)

  digits_into : (b : ℕ) → is_digit b ≡ true → (u : List ℕ) → DigitsThen M u → DigitsThen M (b ∷ u)
  unfolding Digits
  digits_into b f u x = (b ∷ x.0, x.1, (f, x.2), ap (λ (v : List ℕ). b ∷ v) x.3, x.4)

  digits_reach : (s : List ℕ) (at next : ℕ) → next ≡ at + length (take (span is_digit s) s) → Reaches (DigitsThen M) s at M next
  unfolding Digits
  digits_reach [] at next q =
      stays (DigitsThen M) M (λ u m. ([], u, tt, refl, m)) [] (λ x. digits_end x.0 x.1 x.2 x.3 x.4) (λ b u v e. absurd (let z : ◌≡◌ {A = ℕ} 0 1 = cc in omega arith)) at next
      (omega arith)
  digits_reach (b ∷ s) at next q = go (is_digit b) refl (digits_reach s (suc at) next)
    where
      go : (u : Bool) → is_digit b ≡ u → (next ≡ suc at + length (take (span is_digit s) s) → Reaches (DigitsThen M) s (suc at) M next) → Reaches (DigitsThen M) (b ∷ s) at M next
      go true e ih =
          let y : next ≡ at + suc (length (take (span is_digit s) s)) = rw (e, span) at q in
          reaches_further (DigitsThen M) (DigitsThen M) b (digits_into b e) (λ u x. digits_more b u e x.0 x.1 x.2 x.3 x.4) s at M next (ih (omega arith))
      go false e ih =
          let y : next ≡ at + 0 = rw (e, span) at q in
          stays (DigitsThen M) M (λ u m. ([], u, tt, refl, m)) (b ∷ s) (λ x. digits_end x.0 x.1 x.2 x.3 x.4)
          (λ c u v d x. let w : b ≡ c = cc in digits_none c v (subst (λ (x : ℕ). is_digit x ≡ false) w e) x.0 x.1 x.2 x.3 x.4) at next (omega arith)

  -- the number's first byte
  number_zero : (u ds r : List ℕ) → Numeral ds → 48 ∷ u ≡ ds ++ r → M r → M u
  unfolding Numeral
  number_zero u [] r n e m = absurd n
  number_zero u (d ∷ ds) r n e m =
      let a : d ≡ 48 = cc in
      let b : u ≡ ds ++ r = cc in
      ⊎_elim (λ x. subst M (ap (λ (v : List ℕ). v ++ r) (sym x.1) ∙ sym b) m) (λ x. absurd (x.0 a)) n

  number_digit : (b : ℕ) (u ds r : List ℕ) → (b ≡ 48 → ⊥) → Numeral ds → b ∷ u ≡ ds ++ r → M r → DigitsThen M u
  unfolding Numeral Digits
  number_digit b u [] r f n e m = absurd n
  number_digit b u (d ∷ ds) r f n e m =
      let a : b ≡ d = cc in
      ⊎_elim (λ x. absurd (f (a ∙ x.0))) (λ x. (ds, r, x.1.1, cc, m)) n

  number_none : (b : ℕ) (u ds r : List ℕ) → is_digit b ≡ false → Numeral ds → b ∷ u ≡ ds ++ r → M r → ⊥
  unfolding Numeral Digits
  number_none b u [] r f n e m = n
  number_none b u (d ∷ ds) r f n e m =
      let a : d ≡ b = cc in
      ⊎_elim (λ x. clash (subst (λ (c : ℕ). is_digit c ≡ true) (sym x.0 ∙ a) refl) f) (λ x. clash (subst (λ (c : ℕ). is_digit c ≡ true) a x.1.0) f) n

  number_nothing : (ds r : List ℕ) → Numeral ds → [] ≡ ds ++ r → ⊥
  unfolding Numeral
  number_nothing [] r n e = n
  number_nothing (d ∷ ds) r n e = let z : ◌≡◌ {A = ℕ} 0 1 = cc in omega arith

  -- `0` is a number
  number_some : NumberThen M (48 ∷ t)
  unfolding Numeral
  number_some = (48 ∷ [], t, inl (refl, refl), refl, some)

  number_wrong : (s : List ℕ) → numeral_of s ≡ [] → FirstWrong (NumberThen M) s 0
  number_wrong [] e = wrong_nothing (NumberThen M) (48 ∷ t) number_some (λ x. number_nothing x.0 x.1 x.2 x.3)
  number_wrong (b ∷ s) e = go (eqb b 48) refl (is_digit b) refl
    where
      go : (u : Bool) → eqb b 48 ≡ u → (w : Bool) → is_digit b ≡ w → FirstWrong (NumberThen M) (b ∷ s) 0
      go true u w d = absurd (let y : b ∷ [] ≡ [] = rw (u, numeral_of) at e in let z : ◌≡◌ {A = ℕ} 0 1 = cc in omega arith)
      go false u true d = absurd (let y : b ∷ take (span is_digit s) s ≡ [] = rw (u, numeral_of, d, span) at e in let z : ◌≡◌ {A = ℕ} 0 1 = cc in omega arith)
      go false u false d = wrong_first (NumberThen M) b s (48 ∷ t) number_some (λ v x. number_none b v x.0 x.1 d x.2 x.3 x.4)

  number_reaches : (s : List ℕ) (at next : ℕ) → 0 < length (numeral_of s) → next ≡ at + length (numeral_of s) → Reaches (NumberThen M) s at M next
  unfolding Numeral Digits
  number_reaches [] at next h q = absurd (omega arith)
  number_reaches (b ∷ s) at next h q = go (eqb b 48) refl (is_digit b) refl
    where
      go : (u : Bool) → eqb b 48 ≡ u → (w : Bool) → is_digit b ≡ w → Reaches (NumberThen M) (b ∷ s) at M next
      go true u w d =
          let y : next ≡ at + 1 = rw (u, numeral_of) at q in
          let z : 48 ≡ b = sym (eqb-true b 48 u) in
          reaches_further (NumberThen M) M b (λ v m. (b ∷ [], v, inl (sym z, refl), refl, m))
          (λ v x. number_zero v x.0 x.1 x.2 (subst (λ (c : ℕ). c ∷ v ≡ x.0 ++ x.1) (sym z) x.3) x.4) s at M next
          (reaches_here M M s (suc at) next (omega arith) (λ k x. x) (λ x. x))
      go false u true d =
          let y : next ≡ at + suc (length (take (span is_digit s) s)) = rw (u, numeral_of, d, span) at q in
          let z : b ≡ 48 → ⊥ = eqb-false b 48 u in
          reaches_further (NumberThen M) (DigitsThen M) b (λ v x. (b ∷ x.0, x.1, inr (z, (d, x.2)), ap (λ (c : List ℕ). b ∷ c) x.3, x.4))
          (λ v x. number_digit b v x.0 x.1 z x.2 x.3 x.4) s at M next (digits_reach s (suc at) next (omega arith))
      go false u false d = absurd (let y : 0 < 0 = rw (u, numeral_of, d, span) at h in omega arith)

-- ---- what may follow begins with no digit, and some text may follow
end_apart : (d : ℕ) (u : List ℕ) → is_digit d ≡ true → EndsLine (d ∷ u) → ⊥
unfolding EndsLine
end_apart d u e x = clash e (subst (λ (c : ℕ). is_digit c ≡ false) (sym x) refl)

space_apart : (d : ℕ) (u : List ℕ) → is_digit d ≡ true → FromSpace (d ∷ u) → ⊥
space_apart d u e x =
    let y : d ∷ u ≡ 32 ∷ x.0 = x.1 in
    let q : d ≡ 32 = cc in
    clash e (subst (λ (c : ℕ). is_digit c ≡ false) (sym q) refl)

some_end : EndsLine []
unfolding EndsLine
some_end = tt

some_n : FromN (48 ∷ [])
some_n = number_some EndsLine [] some_end end_apart

some_space : FromSpace (32 ∷ 48 ∷ [])
some_space = (48 ∷ [], refl, some_n)

some_v : FromV (48 ∷ 32 ∷ 48 ∷ [])
some_v = number_some FromSpace (32 ∷ 48 ∷ []) some_space space_apart

some_p : FromP (p_cnf ++ (48 ∷ 32 ∷ 48 ∷ []))
some_p = (48 ∷ 32 ∷ 48 ∷ [], refl, some_v)

-- ---- the comment lines
line_into : (u : List ℕ) → FromP u → FromLine u
unfolding EachLine commented
line_into u p = ([], u, tt, refl, p)

some_line : FromLine (p_cnf ++ (48 ∷ 32 ∷ 48 ∷ []))
some_line = line_into (p_cnf ++ (48 ∷ 32 ∷ 48 ∷ [])) some_p

-- c begins one
comment_into : (u : List ℕ) → FromComment true u → FromLine (99 ∷ u)
unfolding EachLine commented
comment_into u x =
    let y = x.4 in
    (x.0 ∷ y.0, y.1, (x.2, y.2), ap (λ (v : List ℕ). 99 ∷ v) x.3 ∙ ap (λ (v : List ℕ). 99 ∷ (x.0 ++ (10 ∷ v))) y.3, y.4)

comment_back : (u : List ℕ) (ls : List (List ℕ)) (r : List ℕ) → EachLine ls → 99 ∷ u ≡ commented ls r → FromP r → FromComment true u
unfolding EachLine commented
comment_back u [] r n e p =
    let y : 99 ∷ u ≡ p_cnf ++ p.0 = e ∙ p.1 in
    absurd (let z : ◌≡◌ {A = ℕ} 99 112 = cc in omega arith)
comment_back u (l ∷ ls) r n e p = (l, commented ls r, n.0, cc, (ls, r, n.1, refl, p))

-- another byte, or none, does not
line_back : (b : ℕ) (u : List ℕ) → (b ≡ 99 → ⊥) → (ls : List (List ℕ)) (r : List ℕ) → b ∷ u ≡ commented ls r → FromP r → FromP (b ∷ u)
unfolding commented
line_back b u f [] r e p = subst FromP (sym e) p
line_back b u f (l ∷ ls) r e p = absurd (f (cc))

line_end_lem : (ls : List (List ℕ)) (r : List ℕ) → [] ≡ commented ls r → FromP r → FromP []
unfolding commented
line_end_lem [] r e p = subst FromP (sym e) p
line_end_lem (l ∷ ls) r e p = absurd (let z : ◌≡◌ {A = ℕ} 0 1 = cc in omega arith)

-- LF ends one
over_into : (u : List ℕ) → FromLine u → FromComment true (10 ∷ u)
unfolding Line
over_into u x = ([], u, tt, refl, x)

over_back : (u l r : List ℕ) → Line l → 10 ∷ u ≡ l ++ (10 ∷ r) → FromLine r → FromLine u
unfolding Line
over_back u [] r n e x = let q : r ≡ u = cc in subst FromLine q x
over_back u (b ∷ l) r n e x = absurd (n.0 (let q : b ≡ 10 = cc in q))

-- another byte does not
inside_into : (b : ℕ) → (b ≡ 10 → ⊥) → (u : List ℕ) → FromComment true u → FromComment true (b ∷ u)
unfolding Line
inside_into b f u x = (b ∷ x.0, x.1, (f, x.2), ap (λ (v : List ℕ). b ∷ v) x.3, x.4)

inside_back : (b : ℕ) → (b ≡ 10 → ⊥) → (u l r : List ℕ) → Line l → b ∷ u ≡ l ++ (10 ∷ r) → FromLine r → FromComment true u
unfolding Line
inside_back b f u [] r n e x = absurd (f (cc))
inside_back b f u (c ∷ l) r n e x = (l, r, n.1, cc, x)

inside_end : (l r : List ℕ) → [] ≡ l ++ (10 ∷ r) → ⊥
inside_end [] r e = let z : ◌≡◌ {A = ℕ} 0 1 = cc in omega arith
inside_end (c ∷ l) r e = let z : ◌≡◌ {A = ℕ} 0 1 = cc in omega arith

comments_wrong : (inside : Bool) (s : List ℕ) (at o : ℕ) → comments inside s at ≡ Err (Grammar o) → WrongAt (FromComment inside) s at o
comments_wrong true [] at o e =
    let q : at ≡ o = cc in
    (0, omega arith, wrong_nothing (FromComment true) _ (over_into _ some_line) (λ x. inside_end x.0 x.1 x.3))
comments_wrong false [] at o e = absurd (let z : ◌≡◌ {A = ℕ} 0 1 = cc in omega arith)
comments_wrong true (b ∷ s) at o e = go (eqb b 10) refl (comments_wrong false s (suc at) o) (comments_wrong true s (suc at) o)
  where
    go : (t : Bool) → eqb b 10 ≡ t → (comments false s (suc at) ≡ Err (Grammar o) → WrongAt FromLine s (suc at) o)
        → (comments true s (suc at) ≡ Err (Grammar o) → WrongAt (FromComment true) s (suc at) o) → WrongAt (FromComment true) (b ∷ s) at o
    go true t f g =
        let q : b ≡ 10 = eqb-true b 10 t in
        wrong_further (FromComment true) FromLine b (λ u x. subst (λ (c : ℕ). FromComment true (c ∷ u)) (sym q) (over_into u x))
        (λ u x. over_back u x.0 x.1 x.2 (subst (λ (c : ℕ). c ∷ u ≡ x.0 ++ (10 ∷ x.1)) q x.3) x.4) s at o (f (rw (t, comments) at e))
    go false t f g =
        let q : b ≡ 10 → ⊥ = eqb-false b 10 t in
        wrong_further (FromComment true) (FromComment true) b (inside_into b q) (λ u x. inside_back b q u x.0 x.1 x.2 x.3 x.4) s at o (g (rw (t, comments) at e))
comments_wrong false (b ∷ s) at o e = go (eqb b 99) refl (comments_wrong true s (suc at) o)
  where
    go : (t : Bool) → eqb b 99 ≡ t → (comments true s (suc at) ≡ Err (Grammar o) → WrongAt (FromComment true) s (suc at) o) → WrongAt FromLine (b ∷ s) at o
    go true t f =
        let q : b ≡ 99 = eqb-true b 99 t in
        wrong_further FromLine (FromComment true) b (λ u x. subst (λ (c : ℕ). FromLine (c ∷ u)) (sym q) (comment_into u x))
        (λ u x. comment_back u x.0 x.1 x.2 (subst (λ (c : ℕ). c ∷ u ≡ commented x.0 x.1) q x.3) x.4) s at o (f (rw (t, comments) at e))
    go false t f = absurd (let y = rw (t, comments) at e in let z : ◌≡◌ {A = ℕ} 0 1 = cc in omega arith)

comments_reach : (inside : Bool) (s : List ℕ) (at next : ℕ) → comments inside s at ≡ Ok next → Reaches (FromComment inside) s at FromP next
comments_reach true [] at next e = absurd (let z : ◌≡◌ {A = ℕ} 0 1 = cc in omega arith)
comments_reach false [] at next e =
    stays FromLine FromP line_into [] (λ x. line_end_lem x.0 x.1 x.3 x.4) (λ b u v d. absurd (let z : ◌≡◌ {A = ℕ} 0 1 = cc in omega arith)) at next (cc)
comments_reach true (b ∷ s) at next e = go (eqb b 10) refl (comments_reach false s (suc at) next) (comments_reach true s (suc at) next)
  where
    go : (t : Bool) → eqb b 10 ≡ t → (comments false s (suc at) ≡ Ok next → Reaches FromLine s (suc at) FromP next)
        → (comments true s (suc at) ≡ Ok next → Reaches (FromComment true) s (suc at) FromP next) → Reaches (FromComment true) (b ∷ s) at FromP next
    go true t f g =
        let q : b ≡ 10 = eqb-true b 10 t in
        reaches_further (FromComment true) FromLine b (λ u x. subst (λ (c : ℕ). FromComment true (c ∷ u)) (sym q) (over_into u x))
        (λ u x. over_back u x.0 x.1 x.2 (subst (λ (c : ℕ). c ∷ u ≡ x.0 ++ (10 ∷ x.1)) q x.3) x.4) s at FromP next (f (rw (t, comments) at e))
    go false t f g =
        let q : b ≡ 10 → ⊥ = eqb-false b 10 t in
        reaches_further (FromComment true) (FromComment true) b (inside_into b q) (λ u x. inside_back b q u x.0 x.1 x.2 x.3 x.4) s at FromP next (g (rw (t, comments) at e))
comments_reach false (b ∷ s) at next e = go (eqb b 99) refl (comments_reach true s (suc at) next)
  where
    go : (t : Bool) → eqb b 99 ≡ t → (comments true s (suc at) ≡ Ok next → Reaches (FromComment true) s (suc at) FromP next) → Reaches FromLine (b ∷ s) at FromP next
    go true t f =
        let q : b ≡ 99 = eqb-true b 99 t in
        reaches_further FromLine (FromComment true) b (λ u x. subst (λ (c : ℕ). FromLine (c ∷ u)) (sym q) (comment_into u x))
        (λ u x. comment_back u x.0 x.1 x.2 (subst (λ (c : ℕ). c ∷ u ≡ commented x.0 x.1) q x.3) x.4) s at FromP next (f (rw (t, comments) at e))
    go false t f =
        let y = rw (t, comments) at e in
        stays FromLine FromP line_into (b ∷ s) (λ x. line_end_lem x.0 x.1 x.3 x.4)
        (λ c u v d x. let w : b ≡ c = cc in line_back c v (λ z. eqb-false b 99 t (w ∙ z)) x.0 x.1 x.3 x.4) at next (cc)

-- ---- the line's end
line_end_wrong : (s : List ℕ) (at o : ℕ) → line_end s at ≡ Err (Grammar o) → WrongAt EndsLine s at o
unfolding EndsLine
line_end_wrong [] at o e = absurd (let z : ◌≡◌ {A = ℕ} 0 1 = cc in omega arith)
line_end_wrong (b ∷ s) at o e = go (eqb b 10) refl
  where
    go : (t : Bool) → eqb b 10 ≡ t → WrongAt EndsLine (b ∷ s) at o
    go true t = absurd (let y = rw (t, line_end) at e in let z : ◌≡◌ {A = ℕ} 0 1 = cc in omega arith)
    go false t =
        let y = rw (t, line_end) at e in
        let q : at ≡ o = cc in
        (0, omega arith, wrong_first EndsLine b s [] some_end (λ u x. eqb-false b 10 t x))

line_end_right : (s : List ℕ) (at next : ℕ) → line_end s at ≡ Ok next → EndsLine s
unfolding EndsLine
line_end_right [] at next e = tt
line_end_right (b ∷ s) at next e = go (eqb b 10) refl
  where
    go : (t : Bool) → eqb b 10 ≡ t → EndsLine (b ∷ s)
    go true t = eqb-true b 10 t
    go false t = absurd (let y = rw (t, line_end) at e in let z : ◌≡◌ {A = ℕ} 0 1 = cc in omega arith)

-- ---- the pieces one after the other, at offsets of the text
module _ (text : List ℕ) where
  -- L from the offset `at` on
  WrongFrom : (List ℕ → Type 0) → ℕ → ℕ → Type 0
  WrongFrom L at o = WrongAt L (drop at text) at o

  chained : (L M : List ℕ → Type 0) (at next o : ℕ) → Reaches L (drop at text) at M next → WrongFrom M next o → WrongFrom L at o
  unfolding WrongFrom
  chained L M at next o R w =
      let q : drop next text ≡ drop R.bytes (drop at text) = ap (λ (i : ℕ). drop i text) R.ends ∙ sym (drop-drop R.bytes at text) in
      (R.bytes + w.0, omega (arith, w.1, R.ends), R.wrong w.0 (subst (λ (s : List ℕ). FirstWrong M s w.0) q w.2))

  chained_right : (L M : List ℕ → Type 0) (at next : ℕ) → Reaches L (drop at text) at M next → M (drop next text) → L (drop at text)
  chained_right L M at next R m =
      let q : drop next text ≡ drop R.bytes (drop at text) = ap (λ (i : ℕ). drop i text) R.ends ∙ sym (drop-drop R.bytes at text) in
      R.right (subst M q m)

  n_wrong : (at number offset : ℕ) → NViolation text at number offset → number ≡ 2 → WrongFrom FromN at offset
  unfolding WrongFrom
  n_wrong at number offset (no_n e) two = (0, omega arith, number_wrong EndsLine [] some_end end_apart (drop at text) e)
  n_wrong at number offset (large_n h) two = absurd (omega arith)
  n_wrong at number offset (no_end o h e) two =
      chained FromN EndsLine at (behind text at) o (number_reaches EndsLine [] some_end end_apart (drop at text) at (behind text at) h refl) (line_end_wrong (drop (behind text at) text) (behind text at) o e)

  v_wrong : (at number offset : ℕ) → VViolation text at number offset → number ≡ 2 → WrongFrom FromV at offset
  unfolding WrongFrom
  v_wrong at number offset (no_v e) two = (0, omega arith, number_wrong FromSpace (32 ∷ 48 ∷ []) some_space space_apart (drop at text) e)
  v_wrong at number offset (large_v h) two = absurd (omega arith)
  v_wrong at number offset (no_space o h e) two =
      chained FromV FromSpace at (behind text at) o (number_reaches FromSpace (32 ∷ 48 ∷ []) some_space space_apart (drop at text) at (behind text at) h refl)
      (expect_wrong FromN (48 ∷ []) some_n (32 ∷ []) (drop (behind text at) text) (behind text at) o e)
  v_wrong at number offset (of_n k o next h e x) two =
      chained FromV FromSpace at (behind text at) o (number_reaches FromSpace (32 ∷ 48 ∷ []) some_space space_apart (drop at text) at (behind text at) h refl)
      (chained FromSpace FromN (behind text at) next o (expect_reaches FromN (48 ∷ []) some_n (32 ∷ []) (drop (behind text at) text) (behind text at) next e) (n_wrong next k o x two))

  header_wrong : (number offset : ℕ) → PieceViolation text number offset → number ≡ 2 → WrongFrom FromLine 0 offset
  unfolding WrongFrom
  header_wrong number offset (in_comment o e) two = comments_wrong false text 0 o e
  header_wrong number offset (no_start line o c e) two =
      chained FromLine FromP 0 line o (comments_reach false text 0 line c) (expect_wrong FromV (48 ∷ 32 ∷ 48 ∷ []) some_v p_cnf (drop line text) line o e)
  header_wrong number offset (of_v line at k o c e x) two =
      chained FromLine FromP 0 line o (comments_reach false text 0 line c)
      (chained FromP FromV line at o (expect_reaches FromV (48 ∷ 32 ∷ 48 ∷ []) some_v p_cnf (drop line text) line at e) (v_wrong at k o x two))

  -- ---- the grammar is broken somewhere, or the header is right
  some_or_none : (ds : List ℕ) → (ds ≡ []) ⊎ (0 < length ds)
  some_or_none [] = inl refl
  some_or_none (d ∷ ds) = inr (omega arith)

  n_grammar : (at : ℕ) → ((o : ℕ) × NViolation text at 2 o) ⊎ FromN (drop at text)
  n_grammar at = ⊎_elim (λ e. inl (at, no_n e)) (λ h. go h (line_end_read (drop (behind text at) text) (behind text at))) (some_or_none (digits_at text at))
    where
      go : 0 < length (digits_at text at) → Read (behind text at) (line_end (drop (behind text at) text) (behind text at)) → ((o : ℕ) × NViolation text at 2 o) ⊎ FromN (drop at text)
      go h (wrong o l e) = inl (o, no_end o h e)
      go h (got next l e) =
          inr (chained_right FromN EndsLine at (behind text at) (number_reaches EndsLine [] some_end end_apart (drop at text) at (behind text at) h refl) (line_end_right (drop (behind text at) text) (behind text at) next e))

  v_grammar : (at : ℕ) → ((o : ℕ) × VViolation text at 2 o) ⊎ FromV (drop at text)
  v_grammar at = ⊎_elim (λ e. inl (at, no_v e)) (λ h. go h (expect_read (32 ∷ []) (drop (behind text at) text) (behind text at))) (some_or_none (digits_at text at))
    where
      go : 0 < length (digits_at text at) → Read (behind text at) (expect (32 ∷ []) (drop (behind text at) text) (behind text at)) → ((o : ℕ) × VViolation text at 2 o) ⊎ FromV (drop at text)
      go h (wrong o l e) = inl (o, no_space o h e)
      go h (got next l e) = ⊎_elim
          (λ x. inl (x.0, of_n 2 x.0 next h e x.1))
          (λ x. inr (chained_right FromV FromSpace at (behind text at) (number_reaches FromSpace (32 ∷ 48 ∷ []) some_space space_apart (drop at text) at (behind text at) h refl)
          (chained_right FromSpace FromN (behind text at) next (expect_reaches FromN (48 ∷ []) some_n (32 ∷ []) (drop (behind text at) text) (behind text at) next e) x)))
          (n_grammar next)

  header_grammar : ((o : ℕ) × PieceViolation text 2 o) ⊎ FromLine text
  header_grammar = go (comments_read false text 0)
    where
      start : (line : ℕ) → comments false text 0 ≡ Ok line → Read line (expect p_cnf (drop line text) line) → ((o : ℕ) × PieceViolation text 2 o) ⊎ FromLine text
      start line c (wrong o l e) = inl (o, no_start line o c e)
      start line c (got at l e) = ⊎_elim
          (λ x. inl (x.0, of_v line at 2 x.0 c e x.1))
          (λ x. inr (chained_right FromLine FromP 0 line (comments_reach false text 0 line c)
          (chained_right FromP FromV line at (expect_reaches FromV (48 ∷ 32 ∷ 48 ∷ []) some_v p_cnf (drop line text) line at e) x)))
          (v_grammar at)

      go : Read 0 (comments false text 0) → ((o : ℕ) × PieceViolation text 2 o) ⊎ FromLine text
      go (wrong o l e) = inl (o, in_comment o e)
      go (got line l e) = start line e (expect_read p_cnf (drop line text) line)

-- ---- the same about right headers
right_line : (text : List ℕ) → RightHeader text → FromLine text
right_line text R = (
  R.lines,
  p_cnf ++ (R.v ++ (32 ∷ (R.n ++ R.rest))),
  R.lined,
  R.written,
  (R.v ++ (32 ∷ (R.n ++ R.rest)), refl, (R.v, 32 ∷ (R.n ++ R.rest), R.numeral_v, refl, (R.n ++ R.rest, refl, (R.n, R.rest, R.numeral_n, refl, R.ended)))),
)

line_right : (text : List ℕ) → FromLine text → RightHeader text
line_right text x =
    let p = x.4 in
    let v = p.2 in
    let s = v.4 in
    let n = s.2 in
    record {
      lines = x.0;
      lined = x.2;
      v = v.0;
      numeral_v = v.2;
      n = n.0;
      numeral_n = n.2;
      rest = n.1;
      ended = n.4;
      written =
          x.3
          ∙ ap (commented x.0) (p.1 ∙ ap (λ (u : List ℕ). p_cnf ++ u) (v.3 ∙ ap (λ (u : List ℕ). v.0 ++ u) (s.1 ∙ ap (λ (u : List ℕ). 32 ∷ u) n.3)));
    }

-- ---- the pieces break the grammar at the first wrong byte, and nowhere else
module _ (text : List ℕ) where
  pub piece_wrong : (offset : ℕ) → PieceViolation text 2 offset → FirstWrong RightHeader text offset
  unfolding WrongFrom
  piece_wrong offset x =
      let w = header_wrong text 2 offset x refl in
      let q : w.0 ≡ offset = omega (arith, w.1) in
      subst (FirstWrong RightHeader text) q (wrong_same RightHeader FromLine line_right right_line text w.0 w.2)

  pub wrong_piece : (offset : ℕ) → FirstWrong RightHeader text offset → PieceViolation text 2 offset
  wrong_piece offset w = ⊎_elim
      (λ x.
      let h : FirstWrong RightHeader text x.0 = piece_wrong x.0 x.1 in
      let q : x.0 ≡ offset = omega (arith, wrong_once RightHeader text x.0 offset h w, wrong_once RightHeader text offset x.0 w h) in
      subst (PieceViolation text 2) q x.1)
      (λ x. absurd (right_or_wrong RightHeader text (line_right text x) offset w))
      (header_grammar text)
