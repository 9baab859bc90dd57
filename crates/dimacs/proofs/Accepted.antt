-- The clauses of a text that is accepted: N of them, at most 16,384 literals, each of a variable 1 to V. Assumes nothing.
use Prim.Native.Nat.{ℕ, zero, suc, ◌+◌, ◌-◌, ◌≤◌, ◌<◌}
use native.Mathlib.Omega.{arith}
use mathlib.Core.Path.{◌≡◌, refl, sym, ap, ◌∙◌, subst, subst₃}
use mathlib.Core.Bool.{Bool, true, false, ◌&&◌}
use mathlib.Core.List.{List, [], ◌∷◌, ◌++◌}
use mathlib.Core.Logic.{⊎_elim}
use lib.ListN.{length, drop, length-append}
use lib.Dec.{leb, ltb}
use lib.Seq.{append_snoc}
use lib.IntN.{ℤ, nat_abs, pos}
use borrow.Author.Tests.{leb-true, ltb-true}
use Rattle.base.proofs.Booleans.{and_left, and_right}
use Rattle.literal.specs.Literals.{eq_z}
use Rattle.literal.specs.Ranged.{InClause, InClauses, total}
use Rattle.literal.proofs.Signed.{ne_eq_z}
use Rattle.state.specs.declared.Refusal.TheVariants.{Grammar, Limit}
use Rattle.dimacs.specs.Words.{Word, words_at}
use Rattle.dimacs.specs.Tokens.{Meaning, bad, nought, literal, meaning}
use Rattle.dimacs.specs.Header.{header, fitting}
use Rattle.dimacs.specs.Text.{budget, judge, judge_end, judge_body, judge_text, literal_of, clauses_of, text_clauses}
use Rattle.dimacs.specs.Numbers.{word_numbers, first_clause, clauses_in}
use Rattle.dimacs.proofs.Judge.{fitting_is, header_small, judge_is, not_fits}
use Rattle.dimacs.proofs.Literals.{literal_pos, abs_literal}
use Rattle.std.specs.Prelude.{Result, Ok, Err}
use Rattle.dimacs.specs.declared.Header.{Header}
use Rattle.state.specs.declared.Refusal.{Refusal}

-- ---- the clauses of words that are accepted

pub record Within (v k room : ℕ) (cs : List (List ℤ)) : Type 0 where
  pub count : length cs ≡ k
  pub size : total cs ≤ room
  pub each : InClauses v cs

pub in_snoc : (v : ℕ) (c : List ℤ) (l : ℤ) → InClause v c → 0 < nat_abs l → nat_abs l ≤ v → InClause v (c ++ (l ∷ []))
unfolding InClause
in_snoc v [] l h a b = (a, (b, tt))
in_snoc v (x ∷ c) l h a b = (h.0, (h.1.0, in_snoc v c l h.1.1 a b))

-- ---- the numbers that are kept of a clause

clause_at : (v : ℕ) (c rest : List ℤ) → InClause v c → first_clause (c ++ (pos 0 ∷ rest)) ≡ c
unfolding InClause
clause_at v [] rest h = refl
clause_at v (x ∷ c) rest h =
    let not : eq_z x (pos 0) ≡ false = ne_eq_z x (pos 0) (λ e. omega (arith, ap nat_abs e, h.0)) in
    rw (not, first_clause) (ap (λ (d : List ℤ). x ∷ d) (clause_at v c rest h.1.1))

pub clauses_next : (v k : ℕ) (c rest : List ℤ) → InClause v c → clauses_in (suc k) (c ++ (pos 0 ∷ rest)) ≡ c ∷ clauses_in k rest
unfolding clauses_in
clauses_next v k c rest h =
    let e : first_clause (c ++ (pos 0 ∷ rest)) ≡ c = clause_at v c rest h in
    let d : drop (suc (length c)) (c ++ (pos 0 ∷ rest)) ≡ rest = drop_past c (pos 0) rest in
    rw (e, d)
  where
    drop_past : (c : List ℤ) (z : ℤ) (rest : List ℤ) → drop (suc (length c)) (c ++ (z ∷ rest)) ≡ rest
    drop_past [] z rest = refl
    drop_past (x ∷ c) z rest = drop_past c z rest

-- ---- words that are accepted: their clauses, which are also those in the numbers that were kept, whatever stands behind
pub record Spelled (v k room : ℕ) (begun : List ℤ) (ws : List Word) : Type 0 where
  pub within : Within v k room (clauses_of begun ws)
  pub kept : (rest : List ℤ) → clauses_in k (begun ++ (word_numbers ws ++ rest)) ≡ clauses_of begun ws

pub accepted : (v n body end : ℕ) (ws : List Word) (k r : ℕ) (u : Bool) (begun : List ℤ) → judge v (budget k r u) ws end (fitting v n body) ≡ fitting v n body → InClause v begun
    → Spelled v k (length begun + r) begun ws
unfolding judge clauses_of InClauses InClause total word_numbers clauses_in
accepted v n body end [] k r u begun acc B = go u refl k refl acc
  where
    go : (t : Bool) → u ≡ t → (m : ℕ) → k ≡ m → judge_end (budget k r u) end (fitting v n body) ≡ fitting v n body → Spelled v k (length begun + r) begun []
    go true t m e acc = absurd (not_fits (judge_end (budget k r u) end (fitting v n body)) (Grammar end) v n body (rw (t, judge_end)) acc)
    go false t zero e acc = record { within = record { count = sym e; size = omega arith; each = tt }; kept = λ rest. rw e }
    go false t (suc m) e acc = absurd (not_fits (judge_end (budget k r u) end (fitting v n body)) (Limit end) v n body (rw (t, judge_end, e)) acc)
accepted v n body end (w ∷ ws) k r u begun acc B =
    go (meaning w.bytes) refl (accepted v n body end ws (k - 1) r false []) (λ x. accepted v n body end ws k (r - 1) true (begun ++ (x ∷ [])))
  where
    ok : Result Header Refusal
    ok = fitting v n body

    all : Result Header Refusal
    all = judge v (budget k r u) (w ∷ ws) end ok

    go : (m : Meaning) → meaning w.bytes ≡ m
        → (judge v (budget (k - 1) r false) ws end ok ≡ ok → InClause v [] → Spelled v (k - 1) (length {A = ℤ} [] + r) [] ws)
        → ((x : ℤ) → judge v (budget k (r - 1) true) ws end ok ≡ ok → InClause v (begun ++ (x ∷ [])) → Spelled v k (length (begun ++ (x ∷ [])) + (r - 1)) (begun ++ (x ∷ [])) ws)
        → Spelled v k (length begun + r) begun (w ∷ ws)
    go bad m a b = absurd (not_fits all (Grammar w.at) v n body (rw (m, judge)) acc)
    go nought m a b = zero_word (ltb 0 k) refl
      where
        zero_word : (t : Bool) → ltb 0 k ≡ t → Spelled v k (length begun + r) begun (w ∷ ws)
        zero_word true t =
            let h : 0 < k = ltb-true 0 k t in
            let q : k ≡ suc (k - 1) = omega arith in
            let R : Spelled v (k - 1) (length {A = ℤ} [] + r) [] ws = a (rw (m, judge, t) at acc) tt in
            record {
              within = rw (m, clauses_of) (record { count = omega (arith, R.within.count); size = omega (arith, R.within.size); each = (B, R.within.each) });
              kept = λ rest. rw (m, clauses_of, word_numbers) (ap (λ (i : ℕ). clauses_in i (begun ++ (pos 0 ∷ (word_numbers ws ++ rest)))) q ∙ clauses_next v (k - 1) begun (word_numbers ws ++ rest) B ∙ ap (λ (ds : List (List ℤ)). begun ∷ ds) (R.kept rest));
            }
        zero_word false t = absurd (not_fits all (Limit w.at) v n body (rw (m, judge, t)) acc)
    go (literal c i) m a b = literal_word (ltb 0 k && (leb i v && ltb 0 r)) refl
      where
        literal_word : (t : Bool) → (ltb 0 k && (leb i v && ltb 0 r)) ≡ t → Spelled v k (length begun + r) begun (w ∷ ws)
        literal_word true t =
            let x : ℤ = literal_of c i in
            let e : nat_abs (literal_of c i) ≡ i = abs_literal c i in
            let fits : (leb i v && ltb 0 r) ≡ true = and_right (ltb 0 k) (leb i v && ltb 0 r) t in
            let h : i ≤ v = leb-true i v (and_left (leb i v) (ltb 0 r) fits) in
            let g : 0 < r = ltb-true 0 r (and_right (leb i v) (ltb 0 r) fits) in
            let f : 0 < i = literal_pos w.bytes c i m in
            let R : Spelled v k (length (begun ++ (x ∷ [])) + (r - 1)) (begun ++ (x ∷ [])) ws = b x (rw (m, judge, t) at acc) (in_snoc v begun x B (omega arith) (omega arith)) in
            record {
              within = rw (m, clauses_of) (record { count = R.within.count; size = omega (arith, R.within.size, length-append begun (x ∷ [])); each = R.within.each });
              kept = λ rest. rw (m, clauses_of, word_numbers) (ap (clauses_in k) (sym (append_snoc begun x (word_numbers ws ++ rest))) ∙ R.kept rest);
            }
        literal_word false t = absurd (not_fits all (Limit w.at) v n body (rw (m, judge, t)) acc)

-- ---- a text that fits: its header's numbers, and the judgement of its words
pub fits_ready : (text : List ℕ) (v n body : ℕ) → judge_text text ≡ fitting v n body
    → (v ≤ 1024) × ((n ≤ 4096) × (judge v (budget n 16384 false) (words_at (drop body text) body) (length text) (fitting v n body) ≡ fitting v n body))
unfolding judge_text
fits_ready text v n body e = go (header text) refl e
  where
    go : (h : Result Header Refusal) → header text ≡ h → judge_body text h ≡ fitting v n body
        → (v ≤ 1024) × ((n ≤ 4096) × (judge v (budget n 16384 false) (words_at (drop body text) body) (length text) (fitting v n body) ≡ fitting v n body))
    go (Err r) h e = absurd (let z : ◌≡◌ {A = ℕ} 0 1 = cc in omega arith)
    go (Ok k) h e = ⊎_elim
        (λ ok.
        let q = fitting_is (sym ok ∙ e) in
        let small = header_small text k.v k.n k.body h in (
          subst (λ (i : ℕ). i ≤ 1024) q.0 small.0,
          (
            subst (λ (i : ℕ). i ≤ 4096) q.1.0 small.1,
            subst₃ (λ (a b d : ℕ). judge a (budget b 16384 false) (words_at (drop d text) d) (length text) (fitting a b d) ≡ fitting a b d) q.0 q.1.0 q.1.1 ok,
          ),
        ))
        (λ r. absurd (not_fits (judge k.v (budget k.n 16384 false) (words_at (drop k.body text) k.body) (length text) (fitting k.v k.n k.body)) r.0 v n body r.1 e))
        (judge_is k.v (budget k.n 16384 false) (words_at (drop k.body text) k.body) (length text) (fitting k.v k.n k.body))

pub text_within : (text : List ℕ) (v n body : ℕ) → judge_text text ≡ fitting v n body → (v ≤ 1024) × ((n ≤ 4096) × Within v n 16384 (text_clauses text))
unfolding InClause
text_within text v n body e =
    let R = fits_ready text v n body e in
    let W = accepted v n body (length text) (words_at (drop body text) body) n 16384 false [] R.1.1 tt in
    (R.0, (R.1.0, rw e (record { count = W.within.count; size = omega (arith, W.within.size); each = W.within.each })))
