-- Reading what was read gives the same formula. After an accepted load or join Write gives its clauses with repeats removed and those with v and -v left out, or the empty clause alone under the mark;
-- and a load of that text gives just these clauses again. Assumes nothing.
use Prim.Native.Nat.{ℕ, ◌*◌, ◌≤◌}
use native.Mathlib.Omega.{arith}
use mathlib.Core.Path.{◌≡◌, refl, sym, ap, ◌∙◌, subst}
use mathlib.Core.Bool.{Bool, true, false, false≢true}
use mathlib.Core.List.{List, [], ◌∷◌, ◌++◌}
use lib.ListN.{length, take}
use lib.IntN.{ℤ}
use lib.Dec.{eqb}
use Rattle.literal.specs.Clauses.{has, distinct_from, tautology}
use Rattle.state.specs.States.{loaded_state}
use Rattle.state.specs.declared.State.{State}
use Rattle.state.specs.declared.Answer.TheVariants.{Loaded}
use Rattle.tables.specs.Tables.{Tables}
use Rattle.tables.specs.Long.{Long}
use Rattle.tables.specs.Calls.{After, answered}
use Rattle.dimacs.specs.Text.{judge_text, text_clauses}
use Rattle.load.specs.Load.{any_empty, laid, accept, load_call}
use Rattle.literal.proofs.Distinct.{from_sized, distinct_empty}
use Rattle.printing.specs.Printing.{text_of}
use Rattle.literal.specs.Ranged.{InClause, InClauses, total}
use Rattle.write.specs.Writable.{Writable}
use Rattle.write.specs.Write.{standing_clauses, written_clauses, write_text}
use Rattle.roundtrip.specs.Plain.{EachPlain, kept_clauses, read_clauses}
use Rattle.roundtrip.proofs.Plain.{distinct_plain}
use Rattle.roundtrip.proofs.ReadBack.{body_at, judged, read_back}
use Rattle.roundtrip.proofs.LoadBack.{kept_plain, laid_standing, laid_written, loads}
use Rattle.dimacs.proofs.Accepted.{Within, in_snoc}
use Rattle.dimacs.specs.Header.{fitting}

-- ---- what is kept of a clause

distinct_in : (v : ℕ) (kept xs : List ℤ) → InClause v kept → InClause v xs → InClause v (distinct_from kept xs)
unfolding InClause
distinct_in v kept [] a b = a
distinct_in v kept (x ∷ xs) a b = go (has x kept) refl (distinct_in v kept xs a b.1.1) (distinct_in v (kept ++ (x ∷ [])) xs (in_snoc v kept x a b.0 b.1.0) b.1.1)
  where
    go : (t : Bool) → has x kept ≡ t → InClause v (distinct_from kept xs) → InClause v (distinct_from (kept ++ (x ∷ [])) xs) → InClause v (distinct_from kept (x ∷ xs))
    go true e p q = rw (e, distinct_from) p
    go false e p q = rw (e, distinct_from) q

-- ---- what is kept of clauses

record Kept (v : ℕ) (cs ks : List (List ℤ)) : Type 0 where
  fewer : length ks ≤ length cs
  smaller : total ks ≤ total cs
  each : InClauses v ks
  plain : EachPlain ks

kept_all : (v : ℕ) (cs : List (List ℤ)) → InClauses v cs → Kept v cs (kept_clauses cs)
unfolding kept_clauses InClauses InClause EachPlain total
kept_all v [] h = record { fewer = omega arith; smaller = omega arith; each = tt; plain = tt }
kept_all v (c ∷ cs) h = go (tautology c) refl (kept_all v cs h.1)
  where
    go : (b : Bool) → tautology c ≡ b → Kept v cs (kept_clauses cs) → Kept v (c ∷ cs) (kept_clauses (c ∷ cs))
    go true e K = rw (e, kept_clauses) (record { fewer = omega (arith, K.fewer); smaller = omega (arith, K.smaller); each = K.each; plain = K.plain })
    go false e K =
        rw (e, kept_clauses) (record {
          fewer = omega (arith, K.fewer);
          smaller = omega (arith, K.smaller, (from_sized [] c).1);
          each = (distinct_in v [] c tt h.0, K.each);
          plain = (distinct_plain c e, K.plain);
        })

kept_full : (cs : List (List ℤ)) → any_empty cs ≡ false → any_empty (kept_clauses cs) ≡ false
unfolding kept_clauses
kept_full [] e = refl
kept_full (c ∷ cs) e = go (tautology c) refl (eqb (length c) 0) refl (kept_full cs)
  where
    go : (b : Bool) → tautology c ≡ b → (z : Bool) → eqb (length c) 0 ≡ z → (any_empty cs ≡ false → any_empty (kept_clauses cs) ≡ false) → any_empty (kept_clauses (c ∷ cs)) ≡ false
    go b t true z ih = absurd (false≢true (sym e ∙ rw z))
    go true t false z ih = rw (t, kept_clauses) (ih (rw z at e))
    go false t false z ih =
        rw (t, kept_clauses, distinct_empty c ∙ z) (ih (rw z at e))

-- ---- what is read of clauses

module _ (v : ℕ) (cs : List (List ℤ)) where
  read_kept : any_empty cs ≡ false → read_clauses cs ≡ kept_clauses cs
  unfolding read_clauses
  read_kept e = rw (e, read_clauses)

  read_empty : any_empty cs ≡ true → read_clauses cs ≡ [] ∷ []
  unfolding read_clauses
  read_empty e = rw (e, read_clauses)

  pub read_writable : v ≤ 1024 → length cs ≤ 4096 → total cs ≤ 16384 → InClauses v cs → Writable v (read_clauses cs)
  unfolding InClauses InClause total
  read_writable a b c h = go (any_empty cs) refl
    where
      go : (t : Bool) → any_empty cs ≡ t → Writable v (read_clauses cs)
      go true e = subst (Writable v) (sym (read_empty e)) (record { variables = a; clauses = omega arith; literals = omega arith; each = (tt, tt) })
      go false e =
          let K = kept_all v cs h in
          subst (Writable v) (sym (read_kept e)) (record { variables = a; clauses = omega (arith, K.fewer); literals = omega (arith, K.smaller); each = K.each })

  pub read_plain : InClauses v cs → EachPlain (read_clauses cs)
  unfolding EachPlain
  read_plain h = go (any_empty cs) refl
    where
      go : (t : Bool) → any_empty cs ≡ t → EachPlain (read_clauses cs)
      go true e = subst EachPlain (sym (read_empty e)) (record { once = refl; consistent = refl }, tt)
      go false e = subst EachPlain (sym (read_kept e)) (kept_all v cs h).plain

  pub read_mark : any_empty (read_clauses cs) ≡ any_empty cs
  read_mark = go (any_empty cs) refl
    where
      go : (t : Bool) → any_empty cs ≡ t → any_empty (read_clauses cs) ≡ any_empty cs
      go true e = ap any_empty (read_empty e) ∙ sym e
      go false e = ap any_empty (read_kept e) ∙ kept_full cs e ∙ sym e

  -- what is read is kept as it is
  pub read_twice : InClauses v cs → read_clauses (read_clauses cs) ≡ read_clauses cs
  unfolding read_clauses
  read_twice h = go (any_empty cs) refl
    where
      go : (t : Bool) → any_empty cs ≡ t → read_clauses (read_clauses cs) ≡ read_clauses cs
      go true e = ap read_clauses (read_empty e) ∙ sym (read_empty e)
      go false e = rw (read_mark ∙ e, read_clauses) (kept_plain (read_clauses cs) (read_plain h))

-- ---- clauses that were accepted, by a load or by a join

-- the clauses that Write gives after a call, and their text
abbrev pub clauses_after : After → List (List ℤ)
clauses_after a = written_clauses a.tables a.state

abbrev pub text_after : After → List ℕ
text_after a = write_text a.tables a.state

module _ (v n : ℕ) (cs : List (List ℤ)) (few : v ≤ 1024) (most : n ≤ 4096) (W : Within v n 16384 cs) (t : Tables) (made : After) (is : made ≡ accept v n cs t) where
  -- V, N, the mark and the tables
  pub accepted_laid : made ≡ answered Loaded (loaded_state v (length cs) (any_empty cs)) (laid v cs t)
  accepted_laid = is ∙ ap (λ (m : ℕ). answered Loaded (loaded_state v m (any_empty cs)) (laid v cs t)) (sym W.count)

  -- the clauses that stand are these, with repeats removed and those with v and -v left out
  pub accepted_stand : standing_clauses (take (3 * n) made.tables.clauses) made.tables.literals ≡ kept_clauses cs
  accepted_stand =
      ap (λ (a : After). standing_clauses (take (3 * n) a.tables.clauses) a.tables.literals) is
      ∙ ap (λ (m : ℕ). standing_clauses (take (3 * m) (laid v cs t).clauses) (laid v cs t).literals) (sym W.count) ∙ laid_standing v cs t

  -- what Write gives after it
  pub accepted_written : clauses_after made ≡ read_clauses cs
  accepted_written = ap clauses_after accepted_laid ∙ laid_written v cs t

  text_is : text_after made ≡ text_of v (read_clauses cs)
  unfolding write_text
  text_is = ap (λ (a : After). text_of a.state.v (written_clauses a.tables a.state)) accepted_laid ∙ ap (text_of v) (laid_written v cs t)

  read_fits : Writable v (read_clauses cs)
  read_fits = read_writable v cs few (omega (arith, W.count, most)) W.size W.each

  -- that text is accepted, and has just these clauses
  pub reread_judged : judge_text (text_after made) ≡ fitting v (length (read_clauses cs)) (body_at v (length (read_clauses cs)))
  reread_judged = ap judge_text text_is ∙ judged v (read_clauses cs) read_fits

  pub reread_clauses : text_clauses (text_after made) ≡ read_clauses cs
  reread_clauses = ap (λ (s : List ℕ). text_clauses s) text_is ∙ read_back v (read_clauses cs) read_fits

  module _ (t₂ : Tables) (L₂ : Long t₂) (st₂ : State) where
    reloads : load_call (text_after made) t₂ st₂ ≡ answered Loaded (loaded_state v (length (read_clauses cs)) (any_empty (read_clauses cs))) (laid v (read_clauses cs) t₂)
    reloads = ap (λ (s : List ℕ). load_call s t₂ st₂) text_is ∙ loads v (read_clauses cs) read_fits t₂ L₂ st₂

    -- reading what was read: the same clauses stand, in the same order
    pub reread_stand : standing_clauses (take (3 * length (read_clauses cs)) (load_call (text_after made) t₂ st₂).tables.clauses) (load_call (text_after made) t₂ st₂).tables.literals ≡ read_clauses cs
    reread_stand =
        ap (λ (a : After). standing_clauses (take (3 * length (read_clauses cs)) a.tables.clauses) a.tables.literals) reloads
        ∙ laid_standing v (read_clauses cs) t₂ ∙ kept_plain (read_clauses cs) (read_plain v cs W.each)

    -- and they are written alike
    pub reread_written : clauses_after (load_call (text_after made) t₂ st₂) ≡ clauses_after made
    reread_written = ap clauses_after reloads ∙ laid_written v (read_clauses cs) t₂ ∙ read_twice v cs W.each ∙ sym accepted_written
