-- THE THEOREM on texts: where the call on texts answers a length, the bytes that it wrote are the text of clauses which have the satisfying assignments of those that were read; so has what the program prints, unless that is a
-- refusal. Where these clauses are within the limits of a load, the text is accepted, and reading it back gives the same assignments. Assumes nothing.
use Prim.Native.Nat.{ℕ, zero, suc, ◌≤◌, ◌<◌}
use native.Mathlib.Omega.{arith}
use mathlib.Core.Path.{◌≡◌, refl, sym, ap, ◌∙◌, subst}
use mathlib.Core.Bool.{Bool, true, false}
use mathlib.Core.Logic.Iff
use mathlib.Core.Logic.{◌↔◌, ◌⊎◌, inl, inr, ⊎_elim}
use mathlib.Core.List.{List, ◌++◌}
use lib.ListN.{length, take, drop, replicate, length-replicate}
use lib.Seq.{take_at}
use lib.Dec.{leb, ltb}
use lib.IntN.{ℤ, pos}
use Rattle.literal.specs.Assignments.{Assignment, Satisfies}
use Rattle.state.specs.Answers.{refusal_number, refusal_place, result_by, first_value}
use Rattle.state.specs.declared.Refusal.TheVariants.{Short}
use Rattle.state.specs.declared.Answer.TheVariants.{Written}
use Rattle.tables.specs.Tables.{Tables}
use Rattle.tables.specs.Long.{Long}
use Rattle.tables.specs.Calls.{After}
use Rattle.dimacs.specs.Text.{judge_text, text_clauses}
use Rattle.printing.specs.Printing.{text_of, refused_line}
use Rattle.literal.specs.Ranged.{InClauses, total}
use Rattle.write.specs.Writable.{Writable}
use Rattle.write.specs.Write.{AfterWrite, after_write, written_clauses, write_text, write_into}
use Rattle.dimacs.proofs.Accepted.{text_within}
use Rattle.roundtrip.proofs.ReadBack.{body_at, judged, read_back}
use Rattle.roundtrip.proofs.Written.{written_in}
use Rattle.simplify.specs.Texts.{empty_tables, simplify_in, simplify_text, result_of, shown, shown_after, unhide_text}
use Rattle.state.proofs.Numbers.{number_bounds}
use Rattle.equivalence.specs.Equivalent.{Equivalent}
use Rattle.equivalence.specs.Returns.{RefusalLine}
use Rattle.equivalence.proofs.Standing.{written_stands}
use Rattle.equivalence.proofs.Ending.{end_from, refused_text, end_stands, end_shape, end_variables, accepted_text}
use Rattle.std.specs.Prelude.{Result, Ok, Err}
use Rattle.dimacs.specs.declared.Header.{Header}
use Rattle.state.specs.declared.Refusal.{Refusal}
use Rattle.dimacs.specs.Header.{fitting}

-- ---- reading it back

module _ {input text : List ℕ} (E : Equivalent input text) (clauses : length E.clauses ≤ 4096) (literals : total E.clauses ≤ 16384) where
  writable : Writable E.variables E.clauses
  writable = record { variables = (text_within input E.variables E.number E.body E.accepted).0; clauses = clauses; literals = literals; each = E.ranged }

  -- the text is accepted
  pub equivalent_judged : judge_text text ≡ fitting E.variables (length E.clauses) (body_at E.variables (length E.clauses))
  equivalent_judged = ap judge_text E.spelt ∙ judged E.variables E.clauses writable

  -- and its clauses have the satisfying assignments of the input's
  pub equivalent_read : (τ : Assignment) → Satisfies τ (text_clauses input) ↔ Satisfies τ (text_clauses text)
  equivalent_read τ =
      let back : text_clauses text ≡ E.clauses = ap (λ (s : List ℕ). text_clauses s) E.spelt ∙ read_back E.variables E.clauses writable in
      subst (λ (cs : List (List ℤ)). Satisfies τ (text_clauses input) ↔ Satisfies τ cs) (sym back) (E.same τ)

-- ---- the call on texts

-- a refusal's result is no length
refused_result : (number place k : ℕ) → 0 < number → result_by number place ≡ pos k → ⊥
refused_result zero place k r e = omega arith
refused_result (suc number) place k r e = let z : ◌≡◌ {A = ℕ} 0 1 = cc in omega arith

-- a text that was written stands in the output's first bytes
into_written : (text out : List ℕ) (k : ℕ) → result_of (write_into text out).reply ≡ pos k → take k (write_into text out).out ≡ text
into_written text out k = go (leb (length text) (length out))
  where
    by : Bool → AfterWrite
    by b = elim b [ true ↦ after_write (Ok (Written (length text))) (text ++ drop (length text) out) | false ↦ after_write (Err (Short (length text))) out ]

    go : (b : Bool) → result_of (by b).reply ≡ pos k → take k (by b).out ≡ text
    go true e = let size : length text ≡ k = cc in take_at text (drop (length text) out) k size
    go false e = absurd (let z : ◌≡◌ {A = ℕ} 0 1 = cc in omega arith)

module _ (t : Tables) (L : Long t) (text : List ℕ) (count : ℕ) where
  end_equivalent : (v n body : ℕ) → judge_text text ≡ fitting v n body → Equivalent text (write_text (end_from t text count).tables (end_from t text count).state)
  unfolding write_text
  end_equivalent v n body e =
      let a : After = end_from t text count in
      let S = end_shape t L text count v n body e in
      record {
        variables = v;
        number = n;
        body = body;
        accepted = e;
        clauses = written_clauses a.tables a.state;
        spelt = ap (λ (w : ℕ). text_of w (written_clauses a.tables a.state)) (end_variables t L text count v n body e);
        ranged = subst (λ (w : ℕ). InClauses w (written_clauses a.tables a.state)) (end_variables t L text count v n body e) (written_in a.tables a.state S);
        same = λ τ. Iff.trans (Iff.symm (end_stands t L text count v n body e τ)) (written_stands a.tables a.state S τ);
      }

  text_equivalent : (out : List ℕ) (k : ℕ) → result_of (simplify_in t text count out).reply ≡ pos k → Equivalent text (take k (simplify_in t text count out).out)
  text_equivalent out k = go (judge_text text) refl
    where
      left : AfterWrite
      left = simplify_in t text count out

      go : (x : Result Header Refusal) → judge_text text ≡ x → result_of left.reply ≡ pos k → Equivalent text (take k left.out)
      go (Err r) e q =
          absurd (refused_result (refusal_number r) (refusal_place r) k (number_bounds r).0 (ap (λ (a : AfterWrite). result_of a.reply) (sym (refused_text t L text count r e out)) ∙ q))
      go (Ok h) e q =
          let a : After = end_from t text count in
          let w = accepted_text t L text count h.v h.n h.body e out in
          let whole : take k left.out ≡ write_text a.tables a.state = ap (λ (x : AfterWrite). take k x.out) w ∙ into_written (write_text a.tables a.state) out k (ap (λ (x : AfterWrite). result_of x.reply) (sym w) ∙ q) in
          subst (Equivalent text) (sym whole) (end_equivalent h.v h.n h.body e)

-- the tables of the stated sizes that the call begins with
pub empty_long : Long empty_tables
empty_long = record {
  clauses = omega (arith, length-replicate {A = ℕ} 12288 0);
  literals = omega (arith, length-replicate 16384 (pos 0));
  variables = omega (arith, length-replicate 2048 (pos 0));
  times = omega (arith, length-replicate {A = ℕ} 4096 0);
  links = omega (arith, length-replicate 4096 (pos 0));
}

-- the C call: if it returns k, the first k bytes of the output are such a text
pub simplified_equivalent : (text : List ℕ) (count : ℕ) (out : List ℕ) (k : ℕ) → result_of (simplify_text text count out).reply ≡ pos k → Equivalent text (take k (simplify_text text count out).out)
unfolding simplify_text
simplified_equivalent text count out k e = text_equivalent empty_tables empty_long text count out k e

-- ---- the program

shown_equivalent : (input : List ℕ) (a : AfterWrite) → ((k : ℕ) → result_of a.reply ≡ pos k → Equivalent input (take k a.out)) → RefusalLine (shown_after a) ⊎ Equivalent input (shown_after a)
shown_equivalent input a wrote = go a.reply.number wrote
  where
    go : (m : ℕ) → ((k : ℕ) → result_by m (first_value a.reply.values) ≡ pos k → Equivalent input (take k a.out)) → RefusalLine (shown m a.reply.values a.out) ⊎ Equivalent input (shown m a.reply.values a.out)
    go zero w = inr (w (first_value a.reply.values) refl)
    go (suc m) w = inl (record { number = suc m; place = first_value a.reply.values; line = refl })

-- it prints a refusal, or such a text
pub printed : (input : List ℕ) → RefusalLine (unhide_text input) ⊎ Equivalent input (unhide_text input)
unfolding unhide_text
printed input = go (ltb 65535 (length input))
  where
    left : AfterWrite
    left = simplify_text input 1 (replicate 65536 0)

    by : Bool → List ℕ
    by b = elim b [ true ↦ refused_line 3 65535 | false ↦ shown_after left ]

    go : (b : Bool) → RefusalLine (by b) ⊎ Equivalent input (by b)
    go true = inl (record { number = 3; place = 65535; line = refl })
    go false = shown_equivalent input left (simplified_equivalent input 1 (replicate 65536 0))

pub printed_equivalent : (input : List ℕ) → (RefusalLine (unhide_text input) → ⊥) → Equivalent input (unhide_text input)
printed_equivalent input taken = ⊎_elim (λ r. absurd (taken r)) (λ E. E) (printed input)
