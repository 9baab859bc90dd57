-- Document 01: "In a load the smallest offset wins, and at equal offsets 2." A text is refused exactly if it has a violation, and then with the number and the offset of the violation that wins:
--     refused_wins, wins_refused      about the judgement of a text
--     fits_unviolated, unviolated_fits
--     load_smallest, load_refused     about the call, on tables that are long enough
--     load_loaded, load_unviolated
-- Assumes nothing.
use Prim.Native.Nat.{ℕ, ◌<◌}
use native.Mathlib.Omega.{arith}
use mathlib.Core.Path.{◌≡◌, refl, sym, ap, ◌∙◌, subst, subst₂, subst₃}
use mathlib.Core.Bool.{false}
use mathlib.Core.List.{List, [], ◌∷◌}
use mathlib.Core.Logic.{◌⊎◌, ⊎_elim, inl, inr}
use lib.ListN.{length}
use Rattle.dimacs.specs.Words.{Word}
use Rattle.dimacs.specs.Header.{header, fitting}
use Rattle.dimacs.specs.Text.{judge_body, judge_text, text_clauses}
use Rattle.dimacs.proofs.Judge.{not_fits}
use Rattle.state.specs.Answers.{Reply, reply, refusal_number, refusal_place}
use Rattle.state.specs.declared.State.{State}
use Rattle.state.specs.declared.Refusal.{Refusal}
use Rattle.state.specs.declared.Refusal.TheVariants.{Grammar, Limit}
use Rattle.tables.specs.Tables.{Tables}
use Rattle.tables.specs.Long.{Long}
use Rattle.tables.specs.Calls.{After}
use Rattle.load.specs.Load.{load_by, load_call}
use Rattle.load.proofs.Fill.{formula_lent}
use Rattle.violations.specs.Body.{WordViolation, broken, beyond, too_many, after_last, EndViolation, unfinished, too_few}
use Rattle.violations.specs.Grammar.{HeaderViolation, wrong_byte, large_v, large_n}
use Rattle.violations.specs.Violations.{body_words, Violation, in_header, at_word, at_end, Wins}
use Rattle.violations.proofs.Rising.{body_rising}
use Rattle.violations.proofs.Words.{violation_inside, Judged, stops, passes, past_words, judged_words}
use Rattle.violations.proofs.Ends.{Ended, fine, grammar, limit, ended}
use Rattle.violations.proofs.Headers.{Header-read, refused, right}
use Rattle.violations.proofs.Limits.{header_judged}
use Rattle.violations.proofs.Headed.{headed_fields, fields_headed}
use Rattle.std.specs.Prelude.{Result, Err}
use Rattle.dimacs.specs.declared.Header.{Header}
use Rattle.dimacs.proofs.Judge.{fitting_is}

-- ---- which violations a text can have
only_header : (text : List ℕ) (r : Refusal) → header text ≡ Err r → (number offset : ℕ) → Violation text number offset → HeaderViolation text number offset
only_header text r e number offset (in_header k o x) = x
only_header text r e number offset (at_word v n body k o f x) = absurd (let y = sym e ∙ headed_fields text v n body f in let z : ◌≡◌ {A = ℕ} 0 1 = cc in omega arith)
only_header text r e number offset (at_end v n body k f x) = absurd (let y = sym e ∙ headed_fields text v n body f in let z : ◌≡◌ {A = ℕ} 0 1 = cc in omega arith)

-- ---- the judgement of a text: the violation that wins, or none
data Answered (text : List ℕ) (x : Result Header Refusal) : Type 0 where
  no : (r : Refusal) → x ≡ Err r → Wins (Violation text) (refusal_number r) (refusal_place r) → Answered text x
  yes : (v n body : ℕ) → x ≡ fitting v n body → ((number offset : ℕ) → Violation text number offset → ⊥) → Answered text x

module _ (text : List ℕ) (v n body : ℕ) (e : header text ≡ fitting v n body) (headed : (number offset : ℕ) → HeaderViolation text number offset → ⊥) where
  ws : List Word
  ws = body_words text body

  -- at a word, or at the text's length
  only_body : (number offset : ℕ) → Violation text number offset → WordViolation v n 16384 ws number offset ⊎ ((offset ≡ length text) × EndViolation n ws number)
  unfolding ws
  only_body number offset (in_header k o x) = absurd (headed k o x)
  only_body number offset (at_word v' n' body' k o f x) =
      let y = fitting_is (sym (headed_fields text v' n' body' f) ∙ e) in
      inl (subst₃ (λ (i j l : ℕ). WordViolation i j 16384 (body_words text l) k o) y.0 y.1.0 y.1.1 x)
  only_body number offset (at_end v' n' body' k f x) =
      let y = fitting_is (sym (headed_fields text v' n' body' f) ∙ e) in
      inr (refl, subst₂ (λ (j l : ℕ). EndViolation j (body_words text l) k) y.1.0 y.1.1 x)

  -- a violation at a word wins over those at the text's length
  wins_word : (number offset : ℕ) → Wins (WordViolation v n 16384 ws) number offset → Wins (Violation text) number offset
  unfolding ws
  wins_word number offset W =
      let inside : offset < length text = (violation_inside v n 16384 body (length text) ws (body_rising text body) number offset W.violated).1 in
      record {
        violated = at_word v n body number offset (fields_headed text v n body e) W.violated;
        smallest = λ k place x. ⊎_elim (λ y. W.smallest k place y) (λ y. omega (arith, y.0, inside)) (only_body k place x);
        two = λ x. ⊎_elim (λ y. W.two y) (λ y. absurd (omega (arith, y.0, inside))) (only_body 2 offset x);
      }

  -- no word is one
  answered_end : (x : Result Header Refusal) → ((number offset : ℕ) → WordViolation v n 16384 ws number offset → ⊥) → Ended n ws (length text) (fitting v n body) x → Answered text x
  unfolding ws
  answered_end x none (fine q f) = yes v n body q (λ k place y. ⊎_elim (λ z. none k place z) (λ z. f k z.1) (only_body k place y))
  answered_end x none (grammar q y) = no (Grammar (length text)) q (record {
    violated = at_end v n body 2 (fields_headed text v n body e) y;
    smallest = λ k place z. ⊎_elim (λ w. absurd (none k place w)) (λ w. omega (arith, w.0)) (only_body k place z);
    two = λ z. refl;
  })
  answered_end x none (limit q y f) = no (Limit (length text)) q (record {
    violated = at_end v n body 3 (fields_headed text v n body e) y;
    smallest = λ k place z. ⊎_elim (λ w. absurd (none k place w)) (λ w. omega (arith, w.0)) (only_body k place z);
    two = λ z. ⊎_elim (λ w. absurd (none 2 (length text) w)) (λ w. absurd (f w.1)) (only_body 2 (length text) z);
  })

  answered_body : (x : Result Header Refusal) → Judged (WordViolation v n 16384 ws) (past_words n 16384 false ws (length text) (fitting v n body)) x → Answered text x
  answered_body x (stops r q W) = no r q (wins_word (refusal_number r) (refusal_place r) W)
  answered_body x (passes q none) = subst (Answered text) (sym q) (answered_end _ none (ended n 16384 (length text) ws (fitting v n body)))

-- a refused header has no body
answered_header : (text : List ℕ) (r : Refusal) → header text ≡ Err r → Wins (HeaderViolation text) (refusal_number r) (refusal_place r) → Answered text (Err r)
answered_header text r e W = no r refl (record {
  violated = in_header (refusal_number r) (refusal_place r) W.violated;
  smallest = λ k place x. W.smallest k place (only_header text r e k place x);
  two = λ x. W.two (only_header text r e 2 (refusal_place r) x);
})

answered : (text : List ℕ) → Answered text (judge_text text)
unfolding judge_text ws
answered text = go (header_judged text)
  where
    go : Header-read (HeaderViolation text) (header text) → Answered text (judge_text text)
    go (refused r e W) = subst (λ (h : Result Header Refusal). Answered text (judge_body text h)) (sym e) (answered_header text r e W)
    go (right v n body e none) =
        subst (λ (h : Result Header Refusal). Answered text (judge_body text h)) (sym e)
        (answered_body text v n body e none _ (judged_words v n 16384 body (length text) false (body_words text body) (fitting v n body) (body_rising text body)))

-- ---- a violation has number 2 or 3, so one number and one offset win
word_number : (v n most : ℕ) (ws : List Word) (number offset : ℕ) → WordViolation v n most ws number offset → (number ≡ 2) ⊎ (number ≡ 3)
word_number v n most ws number offset (broken i h e) = inl refl
word_number v n most ws number offset (beyond i c m h e lt) = inr refl
word_number v n most ws number offset (too_many i c m h e le) = inr refl
word_number v n most ws number offset (after_last i h e le) = inr refl

end_number : (n : ℕ) (ws : List Word) (number : ℕ) → EndViolation n ws number → (number ≡ 2) ⊎ (number ≡ 3)
end_number n ws number (unfinished u) = inl refl
end_number n ws number (too_few h) = inr refl

header_number : (text : List ℕ) (number offset : ℕ) → HeaderViolation text number offset → (number ≡ 2) ⊎ (number ≡ 3)
header_number text number offset (wrong_byte o w) = inl refl
header_number text number offset (large_v ds o S h) = inr refl
header_number text number offset (large_n ds o S h) = inr refl

pub violation_number : (text : List ℕ) (number offset : ℕ) → Violation text number offset → (number ≡ 2) ⊎ (number ≡ 3)
violation_number text number offset (in_header k o x) = header_number text k o x
violation_number text number offset (at_word v n body k o e x) = word_number v n 16384 (body_words text body) k o x
violation_number text number offset (at_end v n body k e x) = end_number n (body_words text body) k x

pub wins_once : (text : List ℕ) (number offset number' offset' : ℕ) → Wins (Violation text) number offset → Wins (Violation text) number' offset' → (number ≡ number') × (offset ≡ offset')
wins_once text k o k' o' W W' = (⊎_elim ours (λ e. ⊎_elim (theirs e) (λ e'. omega arith) (violation_number text k' o' W'.violated)) (violation_number text k o W.violated), same)
  where
    same : o ≡ o'
    same = omega (arith, W.smallest k' o' W'.violated, W'.smallest k o W.violated)

    ours : k ≡ 2 → k ≡ k'
    ours e = e ∙ sym (W'.two (subst₂ (Violation text) e same W.violated))

    theirs : k ≡ 3 → k' ≡ 2 → k ≡ k'
    theirs e e' = W.two (subst₂ (Violation text) e' (sym same) W'.violated) ∙ sym e'

-- ---- the theorems about the judgement
module _ (text : List ℕ) where
  -- a text that is refused is refused with the violation that wins
  pub refused_wins : (r : Refusal) → judge_text text ≡ Err r → Wins (Violation text) (refusal_number r) (refusal_place r)
  refused_wins r e = go (judge_text text) e (answered text)
    where
      go : (x : Result Header Refusal) → x ≡ Err r → Answered text x → Wins (Violation text) (refusal_number r) (refusal_place r)
      go x q (no s p W) =
          let y = sym p ∙ q in
          let z : s ≡ r = cc in
          subst (λ (i : Refusal). Wins (Violation text) (refusal_number i) (refusal_place i)) z W
      go x q (yes v n body p f) = absurd (not_fits x r v n body q p)

  -- the violation that wins is the one that the text is refused with
  pub wins_refused : (number offset : ℕ) → Wins (Violation text) number offset → (r : Refusal) × (judge_text text ≡ Err r) × (refusal_number r ≡ number) × (refusal_place r ≡ offset)
  wins_refused number offset W = go (judge_text text) refl (answered text)
    where
      go : (x : Result Header Refusal) → judge_text text ≡ x → Answered text x → (r : Refusal) × (judge_text text ≡ Err r) × (refusal_number r ≡ number) × (refusal_place r ≡ offset)
      go x q (no r p W') =
          let same = wins_once text (refusal_number r) (refusal_place r) number offset W' W in
          (r, q ∙ p, same.0, same.1)
      go x q (yes v n body p f) = absurd (f number offset W.violated)

  -- a text with a violation is refused
  pub violated_refused : (number offset : ℕ) → Violation text number offset → (r : Refusal) × (judge_text text ≡ Err r)
  violated_refused number offset y = go (judge_text text) refl (answered text)
    where
      go : (x : Result Header Refusal) → judge_text text ≡ x → Answered text x → (r : Refusal) × (judge_text text ≡ Err r)
      go x q (no r p W) = (r, q ∙ p)
      go x q (yes v n body p f) = absurd (f number offset y)

  -- a text that fits has no violation
  pub fits_unviolated : (v n body : ℕ) → judge_text text ≡ fitting v n body → (number offset : ℕ) → Violation text number offset → ⊥
  fits_unviolated v n body e = go (judge_text text) e (answered text)
    where
      go : (x : Result Header Refusal) → x ≡ fitting v n body → Answered text x → (number offset : ℕ) → Violation text number offset → ⊥
      go x q (no r p W) = absurd (not_fits x r v n body p q)
      go x q (yes _ _ _ p f) = f

  -- a text without a violation fits
  pub unviolated_fits : ((number offset : ℕ) → Violation text number offset → ⊥) → (v : ℕ) × (n : ℕ) × (body : ℕ) × (judge_text text ≡ fitting v n body)
  unviolated_fits none = go (judge_text text) refl (answered text)
    where
      go : (x : Result Header Refusal) → judge_text text ≡ x → Answered text x → (v : ℕ) × (n : ℕ) × (body : ℕ) × (judge_text text ≡ fitting v n body)
      go x q (no r p W) = absurd (none (refusal_number r) (refusal_place r) W.violated)
      go x q (yes v n body p f) = (v, n, body, q ∙ p)

-- ---- the theorems about the call, on tables that are long enough
module _ (text : List ℕ) (t : Tables) (long : Long t) (st : State) where
  called : load_call text t st ≡ load_by (judge_text text) (text_clauses text) t st
  unfolding load_call
  called = formula_lent (judge_text text) (text_clauses text) t st long

  replied_no : (r : Refusal) → judge_text text ≡ Err r → (load_call text t st).reply ≡ reply 0 (refusal_number r) (refusal_place r ∷ [])
  replied_no r e = ap (λ (a : After). a.reply) (called ∙ ap (λ x. load_by x (text_clauses text) t st) e)

  replied_yes : (v n body : ℕ) → judge_text text ≡ fitting v n body → (load_call text t st).reply ≡ reply 1 0 []
  replied_yes v n body e = ap (λ (a : After). a.reply) (called ∙ ap (λ x. load_by x (text_clauses text) t st) e)

  -- the violation that wins is answered, by number and offset, and nothing changes
  pub load_smallest : (number offset : ℕ) → Wins (Violation text) number offset → load_call text t st ≡ record { reply = reply 0 number (offset ∷ []); state = st; tables = t }
  load_smallest number offset W =
      let w = wins_refused text number offset W in
      called ∙ ap (λ x. load_by x (text_clauses text) t st) w.1 ∙ (λ i. record { reply = reply 0 (w.2 i) (w.3 i ∷ []); state = st; tables = t })

  -- what is answered as a refusal is the violation that wins
  pub load_refused : (number offset : ℕ) → (load_call text t st).reply ≡ reply 0 number (offset ∷ []) → Wins (Violation text) number offset
  load_refused number offset e = go (judge_text text) refl (answered text)
    where
      go : (x : Result Header Refusal) → judge_text text ≡ x → Answered text x → Wins (Violation text) number offset
      go x q (no r p W) =
          let y : reply 0 (refusal_number r) (refusal_place r ∷ []) ≡ reply 0 number (offset ∷ []) = sym (replied_no r (q ∙ p)) ∙ e in
          let a : refusal_number r ≡ number = ap (λ (z : Reply). z.number) y in
          let b : refusal_place r ∷ [] ≡ offset ∷ [] = ap (λ (z : Reply). z.values) y in
          let c : refusal_place r ≡ offset = cc in
          subst₂ (Wins (Violation text)) a c W
      go x q (yes v n body p f) =
          let y : reply 1 0 [] ≡ reply 0 number (offset ∷ []) = sym (replied_yes v n body (q ∙ p)) ∙ e in
          let b : [] ≡ offset ∷ [] = ap (λ (z : Reply). z.values) y in
          absurd (let z : ◌≡◌ {A = ℕ} 0 1 = cc in omega arith)

  -- a text without a violation is loaded
  pub load_loaded : ((number offset : ℕ) → Violation text number offset → ⊥) → (load_call text t st).reply ≡ reply 1 0 []
  load_loaded none =
      let w = unviolated_fits text none in
      replied_yes w.0 w.1 w.2 w.3

  -- a text that is loaded has no violation
  pub load_unviolated : (load_call text t st).reply ≡ reply 1 0 [] → (number offset : ℕ) → Violation text number offset → ⊥
  load_unviolated e number offset x =
      let w = violated_refused text number offset x in
      let y : reply 0 (refusal_number w.0) (refusal_place w.0 ∷ []) ≡ reply 1 0 [] = sym (replied_no w.0 w.1) ∙ e in
      let b : refusal_place w.0 ∷ [] ≡ [] = ap (λ (z : Reply). z.values) y in
      let z : ◌≡◌ {A = ℕ} 0 1 = cc in
      omega arith
