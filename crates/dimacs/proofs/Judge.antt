-- One token of the judgement: what the code's token says of the words, and the step that the definition takes. Assumes nothing.
use mathlib.Core.Path.{◌≡◌, refl, sym, ap, ◌∙◌, subst}
use mathlib.Core.Bool.{Bool, true, false, ◌&&◌}
use mathlib.Core.List.{List, [], ◌∷◌}
use mathlib.Core.Logic.{◌⊎◌, ⊎_elim, inl, inr}
use Prim.Native.Nat.{ℕ, zero, suc, ◌+◌, ◌-◌, ◌≤◌, ◌<◌, min}
use native.Mathlib.Omega.{arith}
use lib.ListN.{length, take, drop}
use lib.Dec.{leb, ltb, eqb}
use borrow.Author.Tests.{lt-ltb, le-ltb, le-leb, lt-leb, leb-true, leb-false, ltb-true}
use Rattle.base.proofs.Booleans.{and_left, and_right}
use Rattle.dimacs.specs.Words.{Word, word, words_at, span, is_digit}
use Rattle.dimacs.specs.Tokens.{Meaning, bad, nought, literal, meaning, token_by, token_of, decimal}
use Rattle.dimacs.specs.Text.{Budget, budget, judge, judge_end}
use Rattle.dimacs.specs.Header.{number, within_limit, and_then, header, header_rest, comments, expect, line_end, p_cnf, fitting}
use Rattle.dimacs.specs.declared.Token.{Token}
use Rattle.dimacs.specs.declared.Token.TheVariants.{End, Zero, Literal, Bad}
use Rattle.state.specs.declared.Refusal.{Refusal}
use Rattle.state.specs.declared.Refusal.TheVariants.{Grammar, Limit}
use Rattle.dimacs.proofs.Scan.{Found, view, token_found}
use Rattle.std.specs.Prelude.{Result, Ok, Err}
use Rattle.dimacs.specs.declared.Header.{Header}
use Rattle.dimacs.specs.declared.Digits.{Digits}

-- the first word from `at` on: it means m, begins at `start`, and the words behind it are those from `next` on
pub record Seen (text : List ℕ) (at : ℕ) (m : Meaning) (start next : ℕ) : Type 0 where
  pub bytes : List ℕ
  pub words : words_at (drop at text) at ≡ word start bytes ∷ words_at (drop next text) next
  pub means : meaning bytes ≡ m
  pub further : at < next
  pub inside : next ≤ length text

seen : {text : List ℕ} {at start next : ℕ} → Found text at start next → Seen text at (meaning (take (next - start) (drop start text))) start next
seen {text} {at} {start} {next} f = record {
  bytes = take (next - start) (drop start text);
  words = f.words;
  means = refl;
  further = omega (arith, f.from, f.some);
  inside = f.inside;
}

-- no word, or one that is seen, with its token
pub data Told (text : List ℕ) (at : ℕ) : Token → Type 0 where
  none : words_at (drop at text) at ≡ [] → Told text at End
  some : (m : Meaning) (start next : ℕ) → Seen text at m start next → Told text at (token_by m start next)

pub told : (text : List ℕ) (at : ℕ) → Told text at (token_of (words_at (drop at text) at))
told text at = ⊎_elim
    (λ e. subst (Told text at) (sym (ap token_of e)) (none e))
    (λ f. subst (Told text at) (sym (token_found f.2)) (some _ f.0 f.1 (seen f.2)))
    (view text at)

pub told_end : {text : List ℕ} {at : ℕ} (t : Token) → Told text at t → t ≡ End → words_at (drop at text) at ≡ []
told_end t (none e) q = e
told_end t (some bad start next s) q = absurd (let z : ◌≡◌ {A = ℕ} 0 1 = cc in omega arith)
told_end t (some nought start next s) q = absurd (let z : ◌≡◌ {A = ℕ} 0 1 = cc in omega arith)
told_end t (some (literal negative n) start next s) q = absurd (let z : ◌≡◌ {A = ℕ} 0 1 = cc in omega arith)

pub told_bad : {text : List ℕ} {at : ℕ} (t : Token) (start : ℕ) → Told text at t → t ≡ Bad start → (next : ℕ) × Seen text at bad start next
told_bad t start (none e) q = absurd (let z : ◌≡◌ {A = ℕ} 0 1 = cc in omega arith)
told_bad {text} {at} t start (some bad s next f) q = let e : s ≡ start = cc in (next, subst (λ (k : ℕ). Seen text at bad k next) e f)
told_bad t start (some nought s next f) q = absurd (let z : ◌≡◌ {A = ℕ} 0 1 = cc in omega arith)
told_bad t start (some (literal negative n) s next f) q = absurd (let z : ◌≡◌ {A = ℕ} 0 1 = cc in omega arith)

pub told_zero : {text : List ℕ} {at : ℕ} (t : Token) (start next : ℕ) → Told text at t → t ≡ Zero start next → Seen text at nought start next
told_zero t start next (none e) q = absurd (let z : ◌≡◌ {A = ℕ} 0 1 = cc in omega arith)
told_zero t start next (some bad s n f) q = absurd (let z : ◌≡◌ {A = ℕ} 0 1 = cc in omega arith)
told_zero {text} {at} t start next (some nought s n f) q =
    let e : s ≡ start = cc in
    let d : n ≡ next = cc in
    subst (λ (k : ℕ). Seen text at nought k next) e (subst (λ (k : ℕ). Seen text at nought s k) d f)
told_zero t start next (some (literal negative m) s n f) q = absurd (let z : ◌≡◌ {A = ℕ} 0 1 = cc in omega arith)

-- a literal's magnitude is known up to 65,535
pub record SeenLiteral (text : List ℕ) (at : ℕ) (negative : Bool) (magnitude start next : ℕ) : Type 0 where
  pub exact : ℕ
  pub seen : Seen text at (literal negative exact) start next
  pub known : magnitude ≡ min exact 65535

pub told_literal : {text : List ℕ} {at : ℕ} (t : Token) (negative : Bool) (magnitude start next : ℕ) → Told text at t → t ≡ Literal negative magnitude start next
    → SeenLiteral text at negative magnitude start next
told_literal t b m start next (none e) q = absurd (let z : ◌≡◌ {A = ℕ} 0 1 = cc in omega arith)
told_literal t b m start next (some bad s n f) q = absurd (let z : ◌≡◌ {A = ℕ} 0 1 = cc in omega arith)
told_literal t b m start next (some nought s n f) q = absurd (let z : ◌≡◌ {A = ℕ} 0 1 = cc in omega arith)
told_literal {text} {at} t b m start next (some (literal c k) s n f) q =
    let es : s ≡ start = cc in
    let en : n ≡ next = cc in
    let eb : c ≡ b = cc in
    let em : m ≡ min k 65535 = cc in
    record {
      exact = k;
      seen = subst (λ (d : Bool). Seen text at (literal d k) start next) eb (subst (λ (i : ℕ). Seen text at (literal c k) i next) es (subst (λ (i : ℕ). Seen text at (literal c k) s i) en f));
      known = em;
    }

-- ---- the definition's step at each kind of token
module _ (v : ℕ) (l : Budget) (end : ℕ) (ok : Result Header Refusal) {text : List ℕ} {at start next : ℕ} where
  pub judge_bad : Seen text at bad start next → judge v l (words_at (drop at text) at) end ok ≡ Err (Grammar start)
  unfolding judge
  judge_bad s = rw (s.words, s.means, judge)

  pub judge_extra : Seen text at nought start next → l.clauses ≡ 0 → judge v l (words_at (drop at text) at) end ok ≡ Err (Limit start)
  unfolding judge
  judge_extra s e = rw (s.words, s.means, judge, le-ltb 0 l.clauses (omega (arith, e)))

  pub judge_zero : Seen text at nought start next → (l.clauses ≡ 0 → ⊥)
      → judge v l (words_at (drop at text) at) end ok ≡ judge v (budget (l.clauses - 1) l.literals false) (words_at (drop next text) next) end ok
  unfolding judge
  judge_zero s n = rw (s.words, s.means, judge, lt-ltb 0 l.clauses (omega (arith, n)))

  module _ {negative : Bool} {magnitude : ℕ} (s : SeenLiteral text at negative magnitude start next) (small : v < 65535) where
    -- the three tests at once, as the definition makes them: v is below the number at which a magnitude is cut
    leb_cut : leb magnitude v ≡ leb s.exact v
    leb_cut = go (leb s.exact v) refl
      where
        go : (t : Bool) → leb s.exact v ≡ t → leb magnitude v ≡ leb s.exact v
        go true e = le-leb magnitude v (omega (arith, s.known, leb-true s.exact v e)) ∙ sym e
        go false e = lt-leb magnitude v (omega (arith, s.known, leb-false s.exact v e)) ∙ sym e

    tests : (t : Bool) → (ltb 0 l.clauses && (leb magnitude v && ltb 0 l.literals)) ≡ t → (ltb 0 l.clauses && (leb s.exact v && ltb 0 l.literals)) ≡ t
    tests t e = subst (λ (b : Bool). (ltb 0 l.clauses && (b && ltb 0 l.literals)) ≡ t) leb_cut e

    pub judge_fits : (ltb 0 l.clauses && (leb magnitude v && ltb 0 l.literals)) ≡ true
        → judge v l (words_at (drop at text) at) end ok ≡ judge v (budget l.clauses (l.literals - 1) true) (words_at (drop next text) next) end ok
    unfolding judge
    judge_fits e = rw (s.seen.words, s.seen.means, judge, tests true e)

    pub judge_unfit : (ltb 0 l.clauses && (leb magnitude v && ltb 0 l.literals)) ≡ false → judge v l (words_at (drop at text) at) end ok ≡ Err (Limit start)
    unfolding judge
    judge_unfit e = rw (s.seen.words, s.seen.means, judge, tests false e)

-- where a literal fits, one is left, and its variable is at most v
fits_tests : (v clauses literals magnitude : ℕ) → (ltb 0 clauses && (leb magnitude v && ltb 0 literals)) ≡ true → (magnitude ≤ v) × (0 < literals)
fits_tests v clauses literals magnitude e =
    let both : (leb magnitude v && ltb 0 literals) ≡ true = and_right (ltb 0 clauses) (leb magnitude v && ltb 0 literals) e in
    (leb-true magnitude v (and_left (leb magnitude v) (ltb 0 literals) both), ltb-true 0 literals (and_right (leb magnitude v) (ltb 0 literals) both))

pub fits_left : (v clauses literals magnitude : ℕ) → (ltb 0 clauses && (leb magnitude v && ltb 0 literals)) ≡ true → 0 < literals
fits_left v clauses literals magnitude e = (fits_tests v clauses literals magnitude e).1

pub fits_small : (v clauses literals magnitude : ℕ) → (ltb 0 clauses && (leb magnitude v && ltb 0 literals)) ≡ true → magnitude ≤ v
fits_small v clauses literals magnitude e = (fits_tests v clauses literals magnitude e).0

pub judge_end_lem : (v : ℕ) (l : Budget) (end : ℕ) (ok : Result Header Refusal) (text : List ℕ) (at : ℕ) → words_at (drop at text) at ≡ []
    → judge v l (words_at (drop at text) at) end ok ≡ judge_end l end ok
unfolding judge
judge_end_lem v l end ok text at e = rw e

-- ---- a header's V is at most 1,024
after_ok : {A : Type 0} (p : Result A Refusal) (k : A → Result Header Refusal) (v n at : ℕ) → and_then p k ≡ fitting v n at → (x : A) × (p ≡ Ok x) × (k x ≡ fitting v n at)
after_ok (Err r) k v n at e = absurd (let z : ◌≡◌ {A = ℕ} 0 1 = cc in omega arith)
after_ok (Ok x) k v n at e = (x, refl, e)

within_le : (limit : ℕ) (ds : List ℕ) (at : ℕ) (d : Digits) → within_limit limit ds at ≡ Ok d → d.value ≤ limit
within_le limit ds at d e = go (leb (decimal ds) limit) refl
  where
    go : (t : Bool) → leb (decimal ds) limit ≡ t → d.value ≤ limit
    go true t =
        let q = rw (t, within_limit) at e in
        let k : record { value = decimal ds; next = at + length ds } ≡ d = cc in
        let w : decimal ds ≡ d.value = ap (λ (x : Digits). x.value) k in
        omega (arith, leb-true (decimal ds) limit t, w)
    go false t =
        let q = rw (t, within_limit) at e in
        absurd (let z : ◌≡◌ {A = ℕ} 0 1 = cc in omega arith)

number_le : (limit : ℕ) (s : List ℕ) (at : ℕ) (d : Digits) → number limit s at ≡ Ok d → d.value ≤ limit
number_le limit [] at d e = absurd (let z : ◌≡◌ {A = ℕ} 0 1 = cc in omega arith)
number_le limit (b ∷ s) at d e = go (eqb b 48) refl (is_digit b) refl
  where
    go : (t : Bool) → eqb b 48 ≡ t → (u : Bool) → is_digit b ≡ u → d.value ≤ limit
    go true t u _ =
        let q = rw (t, number) at e in
        let k : record { value = 0; next = at + 1 } ≡ d = cc in
        let w : 0 ≡ d.value = ap (λ (x : Digits). x.value) k in
        omega (arith, w)
    go false t true u = within_le limit (take (span is_digit (b ∷ s)) (b ∷ s)) at d (rw (t, number, u) at e)
    go false t false u =
        let q = rw (t, number, u) at e in
        absurd (let z : ◌≡◌ {A = ℕ} 0 1 = cc in omega arith)

-- the parts of a verdict that fits
pub fitting_is : {v n body w m at : ℕ} → fitting v n body ≡ fitting w m at → (v ≡ w) × ((n ≡ m) × (body ≡ at))
fitting_is {v} {n} {body} {w} {m} {at} e =
    let k : ◌≡◌ {A = Header} (record { v = v; n = n; body = body }) (record { v = w; n = m; body = at }) = cc in
    (ap (λ (x : Header). x.v) k, (ap (λ (x : Header). x.n) k, ap (λ (x : Header). x.body) k))

-- V and N come through the rest of the header as they are, and N is at most 4,096
rest_is : (w : ℕ) (text : List ℕ) (at v n body : ℕ) → header_rest w text at ≡ fitting v n body → (w ≡ v) × (n ≤ 4096)
unfolding header_rest
rest_is w text at v n body e =
    let a = after_ok (expect (32 ∷ []) (drop at text) at) _ v n body e in
    let b = after_ok (number 4096 (drop a.0 text) a.0) _ v n body a.2 in
    let d = after_ok (line_end (drop b.0.next text) b.0.next) _ v n body b.2 in
    let q = fitting_is d.2 in
    (q.0, subst (λ (i : ℕ). i ≤ 4096) q.1.0 (number_le 4096 (drop a.0 text) a.0 b.0 b.1))

pub header_small : (text : List ℕ) (v n body : ℕ) → header text ≡ fitting v n body → (v ≤ 1024) × (n ≤ 4096)
unfolding header
header_small text v n body e =
    let a = after_ok (comments false text 0) _ v n body e in
    let b = after_ok (expect p_cnf (drop a.0 text) a.0) _ v n body a.2 in
    let d = after_ok (number 1024 (drop b.0 text) b.0) _ v n body b.2 in
    let q = rest_is d.0.value text d.0.next v n body d.2 in
    (subst (λ (k : ℕ). k ≤ 1024) q.0 (number_le 1024 (drop b.0 text) b.0 d.0 d.1), q.1)

-- ---- the judgement of the words is a refusal, or the verdict that it was handed
pub judge_is : (v : ℕ) (l : Budget) (ws : List Word) (end : ℕ) (ok : Result Header Refusal) → (judge v l ws end ok ≡ ok) ⊎ ((r : Refusal) × (judge v l ws end ok ≡ Err r))
unfolding judge
judge_is v l [] end ok = go l.unfinished refl l.clauses refl
  where
    go : (t : Bool) → l.unfinished ≡ t → (k : ℕ) → l.clauses ≡ k → (judge_end l end ok ≡ ok) ⊎ ((r : Refusal) × (judge_end l end ok ≡ Err r))
    go true t k e = inr (Grammar end, rw (t, judge_end))
    go false t zero e = inl (rw (t, judge_end, e))
    go false t (suc k) e = inr (Limit end, rw (t, judge_end, e))
judge_is v l (w ∷ ws) end ok = go (meaning w.bytes) refl (ltb 0 l.clauses) refl
    (judge_is v (budget (l.clauses - 1) l.literals false) ws end ok) (judge_is v (budget l.clauses (l.literals - 1) true) ws end ok)
  where
    go : (m : Meaning) → meaning w.bytes ≡ m → (t : Bool) → ltb 0 l.clauses ≡ t
        → (judge v (budget (l.clauses - 1) l.literals false) ws end ok ≡ ok) ⊎ ((r : Refusal) × (judge v (budget (l.clauses - 1) l.literals false) ws end ok ≡ Err r))
        → (judge v (budget l.clauses (l.literals - 1) true) ws end ok ≡ ok) ⊎ ((r : Refusal) × (judge v (budget l.clauses (l.literals - 1) true) ws end ok ≡ Err r))
        → (judge v l (w ∷ ws) end ok ≡ ok) ⊎ ((r : Refusal) × (judge v l (w ∷ ws) end ok ≡ Err r))
    go bad m t e a b = inr (Grammar w.at, rw (m, judge))
    go nought m true e a b = rw (m, judge, e) a
    go nought m false e a b = inr (Limit w.at, rw (m, judge, e))
    go (literal c n) m t e a b = lit (ltb 0 l.clauses && (leb n v && ltb 0 l.literals)) refl
      where
        lit : (u : Bool) → (ltb 0 l.clauses && (leb n v && ltb 0 l.literals)) ≡ u → (judge v l (w ∷ ws) end ok ≡ ok) ⊎ ((r : Refusal) × (judge v l (w ∷ ws) end ok ≡ Err r))
        lit true q = rw (m, judge, q) b
        lit false q = inr (Limit w.at, rw (m, judge, q))

-- ---- a text is not both refused and accepted

pub not_fits : (x : Result Header Refusal) (r : Refusal) (v n body : ℕ) → x ≡ Err r → x ≡ fitting v n body → ⊥
not_fits x r v n body p q = let z : ◌≡◌ {A = ℕ} 0 1 = cc in omega arith
