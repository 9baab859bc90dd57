-- The numbers that are kept of a body: one more for each token. Assumes nothing.
use mathlib.Core.Path.{◌≡◌, refl, sym, ap, ◌∙◌, subst}
use mathlib.Core.Bool.{Bool, true, false, ◌&&◌}
use mathlib.Core.List.{List, [], ◌∷◌, ◌++◌, append-nil}
use mathlib.Core.Logic.{⊎_elim}
use Prim.Native.Nat.{ℕ, ◌+◌, ◌-◌, ◌≤◌, ◌<◌}
use native.Mathlib.Omega.{arith}
use native.Mathlib.Numerals.{add-one}
use lib.ListN.{length, take, drop, set, length-set, take-append-drop}
use lib.Seq.{take-suc-set, append_snoc}
use lib.Dec.{leb, ltb}
use lib.IntN.{ℤ, pos}
use Rattle.literal.specs.Ranged.{InClause}
use Rattle.dimacs.specs.Words.{Word, words_at}
use Rattle.dimacs.specs.Tokens.{nought, literal}
use Rattle.dimacs.specs.Text.{budget, judge, judge_end, literal_of, body_of}
use Rattle.dimacs.specs.Numbers.{word_numbers, clauses_kept}
use Rattle.dimacs.proofs.Judge.{Seen, SeenLiteral, judge_end_lem, judge_zero, judge_fits, judge_is, fits_left, fits_small}
use Rattle.dimacs.proofs.Accepted.{accepted}
use Rattle.std.specs.Prelude.{Result}
use Rattle.dimacs.specs.declared.Header.{Header}
use Rattle.state.specs.declared.Refusal.{Refusal}
use Rattle.dimacs.specs.Header.{fitting}

-- ---- the number of a token
module _ {text : List ℕ} {at start next : ℕ} where
  numbers_zero : Seen text at nought start next → word_numbers (words_at (drop at text) at) ≡ pos 0 ∷ word_numbers (words_at (drop next text) next)
  unfolding word_numbers
  numbers_zero s = rw (s.words, s.means, word_numbers)

  numbers_literal : {b : Bool} {m : ℕ} → Seen text at (literal b m) start next → word_numbers (words_at (drop at text) at) ≡ literal_of b m ∷ word_numbers (words_at (drop next text) next)
  unfolding word_numbers
  numbers_literal s = rw (s.words, s.means, word_numbers)

-- ---- before a token: k numbers are kept, and what is left to the text is judged as the whole body is
pub record Keeping (text : List ℕ) (v n body : ℕ) (ns₀ ns : List ℤ) (at clauses literals : ℕ) (unfinished : Bool) (k : ℕ) : Type 0 where
  pub judged : judge v (budget clauses literals unfinished) (words_at (drop at text) at) (length text) (fitting v n body)
      ≡ judge v (budget n 16384 false) (words_at (drop body text) body) (length text) (fitting v n body)
  pub small : (v ≤ 1024) × (n ≤ 4096)
  pub count : k + (clauses + literals) ≡ n + 16384
  pub room : 20480 ≤ length ns
  pub size : length ns ≡ length ns₀
  pub front : word_numbers (words_at (drop body text) body) ≡ take k ns ++ word_numbers (words_at (drop at text) at)

module _ {text : List ℕ} {v n body : ℕ} {ns₀ ns : List ℤ} {at clauses literals : ℕ} {unfinished : Bool} {k : ℕ} (K : Keeping text v n body ns₀ ns at clauses literals unfinished k) where
  -- one number more
  more : (x : ℤ) (next : ℕ) → k < length ns → word_numbers (words_at (drop at text) at) ≡ x ∷ word_numbers (words_at (drop next text) next)
      → word_numbers (words_at (drop body text) body) ≡ take (k + 1) (set ns k x) ++ word_numbers (words_at (drop next text) next)
  more x next h e =
      let longer : take (k + 1) (set ns k x) ≡ take k ns ++ (x ∷ []) = rw (add-one k) (take-suc-set ns k x h) in
      K.front
      ∙ ap (λ (d : List ℤ). take k ns ++ d) e
      ∙ sym (append_snoc (take k ns) x (word_numbers (words_at (drop next text) next)))
      ∙ ap (λ (d : List ℤ). d ++ word_numbers (words_at (drop next text) next)) (sym longer)

  module _ {start next : ℕ} (s : Seen text at nought start next) (some : clauses ≡ 0 → ⊥) where
    pub zero_room : k < length ns
    zero_room = omega (arith, K.count, K.room, K.small.1, some)

    pub keep_zero : Keeping text v n body ns₀ (set ns k (pos 0)) next (clauses - 1) literals false (k + 1)
    keep_zero = record {
      judged = sym (judge_zero v (budget clauses literals unfinished) (length text) (fitting v n body) s some) ∙ K.judged;
      small = K.small;
      count = omega (arith, K.count, some);
      room = rw length-set K.room;
      size = length-set ns k (pos 0) ∙ K.size;
      front = more (pos 0) next zero_room (numbers_zero s);
    }

  module _ {b : Bool} {m start next : ℕ} (s : SeenLiteral text at b m start next) (fits : (ltb 0 clauses && (leb m v && ltb 0 literals)) ≡ true) where
    pub literal_left : 0 < literals
    literal_left = fits_left v clauses literals m fits

    pub literal_small : m ≤ 1024
    literal_small = omega (arith, fits_small v clauses literals m fits, K.small.0)

    pub literal_room : k < length ns
    literal_room = omega (arith, K.count, K.room, K.small.1, literal_left)

    exact : s.exact ≡ m
    exact = omega (arith, s.known, literal_small)

    pub keep_literal : Keeping text v n body ns₀ (set ns k (literal_of b m)) next clauses (literals - 1) true (k + 1)
    keep_literal = record {
      judged = sym (judge_fits v (budget clauses literals unfinished) (length text) (fitting v n body) s (omega (arith, K.small.0)) fits) ∙ K.judged;
      small = K.small;
      count = omega (arith, K.count, literal_left);
      room = rw length-set K.room;
      size = length-set ns k (literal_of b m) ∙ K.size;
      front = more (literal_of b m) next literal_room (numbers_literal (subst (λ (i : ℕ). Seen text at (literal b i) start next) exact s.seen));
    }

  -- the text's end: the clauses in the numbers are those of the text
  pub keep_end : words_at (drop at text) at ≡ [] → {r : Result Header Refusal} → r ≡ judge_end (budget clauses literals unfinished) (length text) (fitting v n body)
      → (r ≡ judge v (budget n 16384 false) (words_at (drop body text) body) (length text) (fitting v n body)) × (clauses_kept r ns ≡ body_of text r)
  unfolding InClause word_numbers
  keep_end e {r} q = (
    is,
    ⊎_elim
        (λ ok. subst (λ (x : Result Header Refusal). clauses_kept x ns ≡ body_of text x) (sym (is ∙ ok)) (spelled ok))
        (λ no. subst (λ (x : Result Header Refusal). clauses_kept x ns ≡ body_of text x) (sym (is ∙ no.1)) refl)
        (judge_is v (budget n 16384 false) (words_at (drop body text) body) (length text) (fitting v n body)),
  )
    where
      is : r ≡ judge v (budget n 16384 false) (words_at (drop body text) body) (length text) (fitting v n body)
      is = q ∙ sym (judge_end_lem v (budget clauses literals unfinished) (length text) (fitting v n body) text at e) ∙ K.judged

      all : word_numbers (words_at (drop body text) body) ≡ take k ns
      all = K.front ∙ ap (λ (ws : List Word). take k ns ++ word_numbers ws) e ∙ append-nil (take k ns)

      spelled : judge v (budget n 16384 false) (words_at (drop body text) body) (length text) (fitting v n body) ≡ fitting v n body → clauses_kept (fitting v n body) ns ≡ body_of text (fitting v n body)
      spelled ok =
          ap (clauses_kept (fitting v n body)) (sym (take-append-drop k ns) ∙ ap (λ (d : List ℤ). d ++ drop k ns) (sym all))
          ∙ (accepted v n body (length text) (words_at (drop body text) body) n 16384 false [] ok tt).kept (drop k ns)
