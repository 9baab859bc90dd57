-- From the shape rule: what Write gives is read back. The clauses are of the variables 1 to V, have no repeat and no v, -v, and the empty clause is among them exactly under the mark; so a text within the limits is loaded
-- again, and the same clauses stand. An open pass is no obstacle. Assumes nothing.
use Prim.Native.Nat.{ℕ, zero, suc, ◌+◌, ◌*◌, ◌≤◌, ◌<◌}
use native.Mathlib.Omega.{arith}
use mathlib.Core.Path.{◌≡◌, refl, sym, ap, ◌∙◌, subst}
use mathlib.Core.Bool.{Bool, true, false, false≢true}
use mathlib.Core.List.{List, [], ◌∷◌, ◌++◌}
use lib.ListN.{length, take, drop, length-drop}
use lib.Seq.{length-take-le}
use lib.IntN.{ℤ, pos, neg_ℤ, nat_abs}
use lib.Signed.{non_neg}
use lib.Dec.{eqb}
use borrow.Author.Tests.{ne_eqb}
use Rattle.base.proofs.Booleans.{or_left, or_right}
use Rattle.literal.specs.Literals.{eq_z, lit_by}
use Rattle.literal.proofs.Signed.{abs_neg, eq_z_true, eq_eq_z}
use Rattle.state.specs.States.{loaded_state}
use Rattle.state.specs.declared.State.{State}
use Rattle.state.specs.declared.Answer.TheVariants.{Loaded}
use Rattle.tables.specs.Tables.{Tables, start_of, length_of, standing, class_of, value_of}
use Rattle.tables.specs.Clauses.{literals_of}
use Rattle.tables.specs.Long.{Long}
use Rattle.tables.specs.Calls.{After, answered}
use Rattle.shape.specs.Shape.{Variable, Shape}
use Rattle.dimacs.specs.Text.{judge_text, text_clauses}
use Rattle.load.specs.Load.{any_empty, laid, load_call}
use Rattle.printing.specs.Printing.{text_of}
use Rattle.literal.specs.Ranged.{InClauses, InClause, total}
use Rattle.literal.proofs.Ranged.{in_append}
use Rattle.write.specs.Writable.{Writable}
use Rattle.write.specs.Write.{standing_clauses, written_clauses, write_text}
use Rattle.write.specs.Gathered.{own_value, unit_for, class_for, clause_for, unit_at, class_at, written_at, formula}
use Rattle.write.proofs.Gathering.{gathered_every}
use Rattle.write.proofs.Records.{class_none, class_some}
use Rattle.write.proofs.Bounds.{ready, units_in, classes_in, standing_in}
use Rattle.write.proofs.Text.{written_marked, written_unmarked}
use Rattle.roundtrip.specs.Plain.{Plain, EachPlain, read_clauses}
use Rattle.roundtrip.proofs.Plain.{varied_plain, varied_one, varied_two, varied_part}
use Rattle.roundtrip.proofs.ReadBack.{body_at, judged, read_back}
use Rattle.roundtrip.proofs.LoadBack.{kept_plain, laid_standing, laid_written, loads}
use Rattle.dimacs.specs.Header.{fitting}

-- ---- lists of clauses: each plain, none empty

record Good (cs : List (List ℤ)) : Type 0 where
  plain : EachPlain cs
  full : any_empty cs ≡ false

good_none : Good []
unfolding EachPlain
good_none = record { plain = tt; full = refl }

good_cons : (c : List ℤ) (cs : List (List ℤ)) → Plain c → 0 < length c → Good cs → Good (c ∷ cs)
unfolding EachPlain
good_cons c cs p h g = record { plain = (p, g.plain); full = rw (ne_eqb (length c) 0 (λ e. omega arith), g.full) }

good_append : (xs ys : List (List ℤ)) → Good xs → Good ys → Good (xs ++ ys)
unfolding EachPlain
good_append [] ys a b = b
good_append (c ∷ xs) ys a b =
    let r = good_append xs ys (record { plain = a.plain.1; full = or_right (eqb (length c) 0) (any_empty xs) a.full }) b in
    record { plain = (a.plain.0, r.plain); full = rw (or_left (eqb (length c) 0) (any_empty xs) a.full, r.full) }

-- ---- what one record gives

good_unit : (w : ℕ) (value : ℤ) → Good (unit_for w value)
good_unit w value = go (nat_abs value)
  where
    l : ℤ
    l = lit_by (non_neg value) w

    go : (n : ℕ) → Good (elim n [ zero ↦ [] | suc _ ↦ (l ∷ []) ∷ [] ])
    go zero = good_none
    go (suc n) = good_cons (l ∷ []) [] (varied_plain (l ∷ []) (varied_one l)) (omega arith) good_none

-- a class that is another literal is of another variable, since its variable is its own class
other_variable : (variables : List ℤ) (w : ℕ) → Variable variables w → (class_of variables w ≡ pos w → ⊥) → nat_abs (class_of variables w) ≡ w → ⊥
other_variable variables w X n e = n (subst (λ (u : ℕ). class_of variables u ≡ pos u) e X.own)

good_class : (variables : List ℤ) (w : ℕ) → Variable variables w → Good (class_for w (class_of variables w))
good_class variables w X = go (eq_z (class_of variables w) (pos w)) refl
  where
    class : ℤ
    class = class_of variables w

    go : (b : Bool) → eq_z class (pos w) ≡ b → Good (class_for w class)
    go true e = subst Good (sym (class_none w class (eq_z_true class (pos w) e))) good_none
    go false e =
        let n : class ≡ pos w → ⊥ = λ q. false≢true (sym e ∙ eq_eq_z class (pos w) q) in
        let d : nat_abs class ≡ w → ⊥ = other_variable variables w X n in
        subst Good (sym (class_some w class n))
        (good_cons (pos w ∷ neg_ℤ class ∷ []) _ (varied_plain _ (varied_two (pos w) (neg_ℤ class) (λ q. d (sym (abs_neg class) ∙ q)))) (omega arith)
        (good_cons (neg_ℤ (pos w) ∷ class ∷ []) [] (varied_plain _ (varied_two (neg_ℤ (pos w)) class (λ q. d (q ∙ abs_neg (pos w))))) (omega arith) good_none))

good_clause : (flag : ℕ) (c : List ℤ) → Plain c → ((flag ≡ 0 → ⊥) → 0 < length c) → Good (clause_for flag c)
good_clause zero c p h = good_none
good_clause (suc flag) c p h = good_cons c [] p (h (λ e. omega arith)) good_none

-- ---- tables under the shape rule

module _ (t : Tables) (st : State) (S : Shape t st) where
  part_inside : (i : ℕ) → i < st.n → start_of t.clauses i + length_of t.clauses i ≤ length t.literals
  part_inside i l = omega (arith, S.clauses.parts.inside i l, S.long.literals)

  good_at : st.mark ≡ false → (i : ℕ) → i < st.n → Good (written_at t.clauses t.literals i)
  good_at off i l =
      good_clause (standing t.clauses i) (literals_of t.clauses t.literals i)
      (varied_plain _ (varied_part t.literals (length_of t.clauses i) (start_of t.clauses i) (part_inside i l) (S.clauses.each i l).once))
      (λ n.
      let one : standing t.clauses i ≡ 1 = omega (arith, S.clauses.parts.flag i l) in
      let some : length_of t.clauses i ≡ 0 → ⊥ = λ z. false≢true (sym off ∙ S.clauses.empty i l one z) in
      let size : length (literals_of t.clauses t.literals i) ≡ length_of t.clauses i =
      length-take-le (length_of t.clauses i) (drop (start_of t.clauses i) t.literals) (omega (arith, part_inside i l, length-drop (start_of t.clauses i) t.literals)) in
      omega arith)

  good_formula : st.mark ≡ false → Good (formula t.clauses t.literals t.variables st.v st.n)
  good_formula off =
      good_append _ _ (gathered_every Good good_none good_append (unit_at t.variables) st.v st.v 0 (omega arith) (λ k l. good_unit (k + 1) (own_value (k + 1) (class_of t.variables (k + 1)) (value_of t.variables (k + 1)))))
      (good_append _ _ (gathered_every Good good_none good_append (class_at t.variables) st.v st.v 0 (omega arith) (λ k l. good_class t.variables (k + 1) (S.variables k l)))
      (gathered_every Good good_none good_append (written_at t.clauses t.literals) st.n st.n 0 (omega arith) (good_at off)))

  good_written : st.mark ≡ false → Good (written_clauses t st)
  good_written off = subst Good (sym (written_unmarked t st off (ready t st S))) (good_formula off)

  in_formula : InClauses st.v (formula t.clauses t.literals t.variables st.v st.n)
  in_formula =
      let R = ready t st S in
      in_append st.v _ _ (units_in t.clauses t.literals t.variables st.v st.n R)
      (in_append st.v _ _ (classes_in t.clauses t.literals t.variables st.v st.n R) (standing_in t.clauses t.literals t.variables st.v st.n R))

  -- every literal that is written is of a variable 1 to V
  pub written_in : InClauses st.v (written_clauses t st)
  unfolding InClauses InClause
  written_in = go st.mark refl
    where
      go : (b : Bool) → st.mark ≡ b → InClauses st.v (written_clauses t st)
      go true e = subst (InClauses st.v) (sym (written_marked t st e)) (tt, tt)
      go false e = subst (InClauses st.v) (sym (written_unmarked t st e (ready t st S))) in_formula

  -- no clause that is written has a repeat, or v and -v
  pub written_plain : EachPlain (written_clauses t st)
  unfolding EachPlain
  written_plain = go st.mark refl
    where
      go : (b : Bool) → st.mark ≡ b → EachPlain (written_clauses t st)
      go true e = subst EachPlain (sym (written_marked t st e)) (record { once = refl; consistent = refl }, tt)
      go false e = (good_written e).plain

  -- the empty clause is written exactly under the mark
  pub written_mark : any_empty (written_clauses t st) ≡ st.mark
  written_mark = go st.mark refl
    where
      go : (b : Bool) → st.mark ≡ b → any_empty (written_clauses t st) ≡ st.mark
      go true e = ap any_empty (written_marked t st e) ∙ sym e
      go false e = (good_written e).full ∙ sym e

  -- what is written is what a load keeps of it
  pub written_kept : read_clauses (written_clauses t st) ≡ written_clauses t st
  unfolding read_clauses
  written_kept = go st.mark refl
    where
      go : (b : Bool) → st.mark ≡ b → read_clauses (written_clauses t st) ≡ written_clauses t st
      go true e = rw (written_mark ∙ e, read_clauses) (sym (written_marked t st e))
      go false e = rw (written_mark ∙ e, read_clauses) (kept_plain (written_clauses t st) written_plain)

  module _ (few : length (written_clauses t st) ≤ 4096) (within : total (written_clauses t st) ≤ 16384) where
    pub written_writable : Writable st.v (written_clauses t st)
    written_writable = record { variables = S.v_limit; clauses = few; literals = within; each = written_in }

    -- the text is accepted, with the same V and the number of clauses written
    pub written_judged : judge_text (write_text t st) ≡ fitting st.v (length (written_clauses t st)) (body_at st.v (length (written_clauses t st)))
    unfolding write_text
    written_judged = judged st.v (written_clauses t st) written_writable

    -- its clauses are those that were written
    pub written_read : text_clauses (write_text t st) ≡ written_clauses t st
    unfolding write_text
    written_read = read_back st.v (written_clauses t st) written_writable

    module _ (t₂ : Tables) (L : Long t₂) (st₂ : State) where
      -- a load of it into any tables is answered by Loaded; V and the mark are as they were, and N is the number of clauses written
      pub written_loads : load_call (write_text t st) t₂ st₂ ≡ answered Loaded (loaded_state st.v (length (written_clauses t st)) st.mark) (laid st.v (written_clauses t st) t₂)
      unfolding write_text
      written_loads =
          loads st.v (written_clauses t st) written_writable t₂ L st₂
          ∙ ap (λ (b : Bool). answered Loaded (loaded_state st.v (length (written_clauses t st)) b) (laid st.v (written_clauses t st) t₂)) written_mark

      -- the clauses that stand then are those that were written, in order
      pub written_stand : standing_clauses (take (3 * length (written_clauses t st)) (load_call (write_text t st) t₂ st₂).tables.clauses) (load_call (write_text t st) t₂ st₂).tables.literals ≡ written_clauses t st
      written_stand =
          ap (λ (a : After). standing_clauses (take (3 * length (written_clauses t st)) a.tables.clauses) a.tables.literals) written_loads
          ∙ laid_standing st.v (written_clauses t st) t₂ ∙ kept_plain (written_clauses t st) written_plain

      -- and they are written alike
      pub written_again : write_text (load_call (write_text t st) t₂ st₂).tables (load_call (write_text t st) t₂ st₂).state ≡ write_text t st
      unfolding write_text
      written_again =
          ap (λ (a : After). text_of a.state.v (written_clauses a.tables a.state)) (loads st.v (written_clauses t st) written_writable t₂ L st₂)
          ∙ ap (text_of st.v) (laid_written st.v (written_clauses t st) t₂ ∙ written_kept)
