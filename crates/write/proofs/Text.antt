-- The whole text from its pieces, and into an output: all of it, or refusal 10. Assumes nothing.
use Rattle.std.specs.Prelude.{Ok, Err}
use Prim.Native.Nat.{ℕ, ◌+◌, ◌≤◌, ◌<◌}
use native.Mathlib.Omega.{arith}
use mathlib.Core.Path.{◌≡◌, refl, sym, ap, ◌∙◌}
use mathlib.Core.Bool.{true, false}
use mathlib.Core.List.{List, [], ◌∷◌, ◌++◌}
use lib.ListN.{length, drop, length-append}
use lib.Seq.{sets, sets-eq}
use lib.IntN.{ℤ}
use borrow.Author.Tests.{lt-leb, le-leb}
use Rattle.state.specs.declared.State.{State}
use Rattle.state.specs.declared.Answer.{Answer}
use Rattle.state.specs.declared.Refusal.TheVariants.{Shape, Short}
use Rattle.tables.specs.Tables.{Tables}
use Rattle.shape.specs.Decision.{shape_ok}
use Rattle.printing.specs.Printing.{clause_text, clauses_text, header_text, text_of}
use Rattle.printing.specs.Stored.{Stored, Wrote}
use Rattle.printing.specs.declared.Writer.{Writer}
use Rattle.literal.specs.Literals.{EachSmall}
use Rattle.printing.proofs.Storing.{sets_nil, wrote_then, wrote_as}
use Rattle.write.specs.Write.{written_clauses, write_text, after_write, text_into, write_into, write_call}
use Rattle.write.specs.Gathered.{gathered, unit_at, class_at, written_at, formula}
use Rattle.write.specs.Printable.{PrintableClauses, Printable}
use Rattle.write.proofs.Gathering.{units_gathered, classes_gathered, standing_gathered, text_append, header_then}
use Rattle.write.proofs.Bounds.{units_count, classes_count, standing_count}

pub none_small : EachSmall []
none_small = record { each = λ k h. absurd (omega arith) }

pub empty_length : length (clause_text []) ≡ 2
unfolding clause_text
empty_length = refl

pub standing_ready : (clauses : List ℕ) (literals variables : List ℤ) (v n : ℕ) → Printable clauses literals variables v n → PrintableClauses clauses literals n
standing_ready clauses literals variables v n R = record {
  n_limit = R.n_limit;
  rows = R.rows;
  places = R.places;
  parts = R.parts;
  ranged = λ i l k h. record { above = (R.ranged i l k h).above; within = omega (arith, (R.ranged i l k h).within, R.v_limit) };
}

pub formula_count : (clauses : List ℕ) (literals variables : List ℤ) (v n : ℕ)
    → length (formula clauses literals variables v n) ≡ length (gathered (unit_at variables) v 0) + length (gathered (class_at variables) v 0) + length (gathered (written_at clauses literals) n 0)
formula_count clauses literals variables v n =
    omega (
      arith,
      length-append (gathered (unit_at variables) v 0) (gathered (class_at variables) v 0 ++ gathered (written_at clauses literals) n 0),
      length-append (gathered (class_at variables) v 0) (gathered (written_at clauses literals) n 0),
    )

pub formula_below : (clauses : List ℕ) (literals variables : List ℤ) (v n : ℕ) → Printable clauses literals variables v n → length (formula clauses literals variables v n) < 10000
formula_below clauses literals variables v n R =
    omega (
      arith,
      formula_count clauses literals variables v n,
      (units_count variables v).0,
      (classes_count variables v).0,
      standing_count clauses literals n,
      R.v_limit,
      R.n_limit,
    )

-- ---- the clauses that Write gives

pub written_marked : (t : Tables) (st : State) → st.mark ≡ true → written_clauses t st ≡ [] ∷ []
unfolding written_clauses
written_marked t st e = rw e

pub written_unmarked : (t : Tables) (st : State) → st.mark ≡ false → Printable t.clauses t.literals t.variables st.v st.n
    → written_clauses t st ≡ formula t.clauses t.literals t.variables st.v st.n
unfolding written_clauses
written_unmarked t st e R = rw e (λ i.
    units_gathered t.variables st.v R.pairs i ++ (classes_gathered t.variables st.v R.pairs i ++ standing_gathered t.clauses t.literals st.n R.rows i))

-- ---- the text, piece by piece

text_marked : (t : Tables) (st : State) → st.mark ≡ true → write_text t st ≡ header_text st.v 1 ++ clause_text []
unfolding write_text clause_text clauses_text
text_marked t st e = ap (text_of st.v) (written_marked t st e) ∙ header_then st.v ([] ∷ [])

pub wrote_marked : (t : Tables) (st : State) {w v u : Writer} → st.mark ≡ true → Wrote (header_text st.v 1) w v → Wrote (clause_text []) v u → Wrote (write_text t st) w u
wrote_marked t st e a b = wrote_as (wrote_then a b) (text_marked t st e)

module _ (t : Tables) (st : State) (R : Printable t.clauses t.literals t.variables st.v st.n) where
  abbrev units : List (List ℤ)
  units = gathered (unit_at t.variables) st.v 0

  abbrev classes : List (List ℤ)
  classes = gathered (class_at t.variables) st.v 0

  abbrev standing : List (List ℤ)
  standing = gathered (written_at t.clauses t.literals) st.n 0

  text_unmarked : (count : ℕ) → st.mark ≡ false → count ≡ length (formula t.clauses t.literals t.variables st.v st.n)
      → write_text t st ≡ header_text st.v count ++ (clauses_text units ++ (clauses_text classes ++ clauses_text standing))
  unfolding write_text
  text_unmarked count e k =
      ap (text_of st.v) (written_unmarked t st e R) ∙ header_then st.v (formula t.clauses t.literals t.variables st.v st.n)
      ∙ (λ i. header_text st.v (sym k i) ++ (text_append units (classes ++ standing) ∙ ap (λ (s : List ℕ). clauses_text units ++ s) (text_append classes standing)) i)

  pub wrote_unmarked : {count : ℕ} {w₀ w₁ w₂ w₃ w₄ : Writer} → st.mark ≡ false → count ≡ length (formula t.clauses t.literals t.variables st.v st.n)
      → Wrote (header_text st.v count) w₀ w₁ → Wrote (clauses_text units) w₁ w₂ → Wrote (clauses_text classes) w₂ w₃ → Wrote (clauses_text standing) w₃ w₄
      → Wrote (write_text t st) w₀ w₄
  wrote_unmarked {count} e k a b c d = wrote_as (wrote_then a (wrote_then b (wrote_then c d))) (text_unmarked count e k)

-- ---- measured on an empty part of the output, then written

pub too_short : (answer : ℕ → Answer) {text e : List ℕ} {r : ℕ} (out : List ℕ) → Stored text 0 [] e r → length (e ++ out) < r → after_write (Err (Short r)) (e ++ out) ≡ text_into answer text out
too_short answer {text} {e} {r} out s h =
    let n : e ≡ [] = s.stored ∙ sets_nil 0 text in
    let k : r ≡ length text = s.next ∙ omega arith in
    let o : e ++ out ≡ out = ap (λ (d : List ℕ). d ++ out) n in
    rw (lt-leb (length text) (length out) (omega (arith, k, ap length o)), text_into) (λ i. after_write (Err (Short (k i))) (o i))

pub fits_out : (answer : ℕ → Answer) {text e o : List ℕ} {n r : ℕ} (out : List ℕ) → Stored text 0 [] e n → n ≤ length (e ++ out) → Stored text 0 (e ++ out) o r → after_write (Ok (answer r)) o ≡ text_into answer text out
fits_out answer {text} {e} {o} {n} {r} out s h t =
    let q : e ++ out ≡ out = ap (λ (d : List ℕ). d ++ out) (s.stored ∙ sets_nil 0 text) in
    let k : r ≡ length text = t.next ∙ omega arith in
    let m : length text ≤ length out = omega (arith, s.next, ap length q) in
    let z : 0 + length text ≡ length text = omega arith in
    let p : o ≡ text ++ drop (length text) out = t.stored ∙ ap (λ (d : List ℕ). sets d 0 text) q ∙ sets-eq text out 0 (omega arith) ∙ ap (λ (i : ℕ). text ++ drop i out) z in
    rw (le-leb (length text) (length out) m, text_into) (λ i. after_write (Ok (answer (k i))) (p i))

-- ---- the call

pub call_refused : (t : Tables) (st : State) (out : List ℕ) → shape_ok t st ≡ false → after_write (Err Shape) out ≡ write_call t st out
unfolding write_call
call_refused t st out e = rw (e, write_call)

pub call_written : (t : Tables) (st : State) (out : List ℕ) → shape_ok t st ≡ true → write_into (write_text t st) out ≡ write_call t st out
unfolding write_call
call_written t st out e = rw (e, write_call)
