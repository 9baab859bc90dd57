-- Loading what was written: the same clauses stand in the tables, in the same order. Assumes nothing.
use Prim.Native.Nat.{ℕ, zero, suc, ◌+◌, ◌*◌, ◌-◌}
use mathlib.Core.Path.{◌≡◌, refl, sym, ap, ◌∙◌}
use mathlib.Core.Bool.{Bool, true, false}
use mathlib.Core.List.{List, [], ◌∷◌, ◌++◌, append_assoc}
use lib.ListN.{length, take, drop, replicate, length-append}
use lib.Seq.{take_at, drop_at}
use lib.IntN.{ℤ, pos, neg_ℤ}
use lib.Dec.{eqb}
use borrow.Author.Tests.{eq-eqb}
use Rattle.literal.specs.Literals.{eq_z}
use Rattle.literal.specs.Clauses.{tautology}
use Rattle.state.specs.States.{loaded_state}
use Rattle.state.specs.declared.State.{State}
use Rattle.state.specs.declared.Answer.TheVariants.{Loaded}
use Rattle.tables.specs.Tables.{Tables, tables}
use Rattle.tables.specs.Long.{Long}
use Rattle.tables.specs.Calls.{After, answered}
use Rattle.dimacs.specs.Text.{judge_text, text_clauses}
use Rattle.load.specs.Load.{kept_of, clause_records, literal_places, variable_records, any_empty, laid, load_by, load_call}
use Rattle.load.proofs.Fill.{formula_lent}
use Rattle.load.proofs.Sizes.{records_length, variables_length}
use Rattle.printing.specs.Printing.{text_of}
use Rattle.write.specs.Writable.{Writable}
use Rattle.write.specs.Write.{units_of, class_clauses, standing_clauses, written_by, written_clauses}
use Rattle.roundtrip.specs.Plain.{EachPlain, kept_clauses, read_clauses}
use Rattle.roundtrip.proofs.ReadBack.{judged, read_back}

-- ---- what a load keeps

pub kept_plain : (cs : List (List ℤ)) → EachPlain cs → kept_clauses cs ≡ cs
unfolding EachPlain kept_clauses
kept_plain [] p = refl
kept_plain (c ∷ cs) p = rw (p.0.consistent, kept_clauses) (λ i. p.0.once i ∷ kept_plain cs p.1 i)

standing_laid : (cs : List (List ℤ)) (at : ℕ) (front tail : List ℤ) → length front ≡ at
    → standing_clauses (clause_records at cs) (front ++ (literal_places cs ++ tail)) ≡ kept_clauses cs
unfolding clause_records literal_places kept_clauses
standing_laid [] at front tail e = refl
standing_laid (c ∷ cs) at front tail e =
    go (tautology c) refl (standing_laid cs (at + length (kept_of c)) (front ++ kept_of c) tail (length-append front (kept_of c) ∙ ap (λ (k : ℕ). k + length (kept_of c)) e))
  where
    kept : List ℤ
    kept = kept_of c

    rest : List ℤ
    rest = literal_places cs ++ tail

    l : List ℤ
    l = front ++ ((kept ++ literal_places cs) ++ tail)

    l_is : l ≡ front ++ (kept ++ rest)
    l_is = ap (λ (d : List ℤ). front ++ d) (append_assoc kept (literal_places cs) tail)

    view : take (length kept) (drop at l) ≡ kept
    view = ap (λ (d : List ℤ). take (length kept) (drop at d)) l_is ∙ ap (take (length kept)) (drop_at front (kept ++ rest) at e) ∙ take_at kept rest (length kept) refl

    Rest : Type 0
    Rest = standing_clauses (clause_records (at + length kept) cs) ((front ++ kept) ++ rest) ≡ kept_clauses cs

    more : Rest → standing_clauses (clause_records (at + length kept) cs) l ≡ kept_clauses cs
    more ih = ap (standing_clauses (clause_records (at + length kept) cs)) (l_is ∙ sym (append_assoc front kept rest)) ∙ ih

    go : (b : Bool) → tautology c ≡ b → Rest → standing_clauses (clause_records at (c ∷ cs)) l ≡ kept_clauses (c ∷ cs)
    go true t ih =
        let f : ◌≡◌ {A = ℕ} (elim (tautology c) [ true ↦ 0 | false ↦ 1 ]) 0 = rw t in
        ap (λ (x : ℕ). standing_clauses (at ∷ length kept ∷ x ∷ clause_records (at + length kept) cs) l) f ∙ more ih ∙ rw (t, kept_clauses)
    go false t ih =
        let f : ◌≡◌ {A = ℕ} (elim (tautology c) [ true ↦ 0 | false ↦ 1 ]) 1 = rw t in
        ap (λ (x : ℕ). standing_clauses (at ∷ length kept ∷ x ∷ clause_records (at + length kept) cs) l) f ∙ (λ i. view i ∷ more ih i) ∙ rw (t, kept_clauses, kept_of)

-- the clauses that stand in the tables which hold the clauses cs
pub laid_standing : (v : ℕ) (cs : List (List ℤ)) (t : Tables) → standing_clauses (take (3 * length cs) (laid v cs t).clauses) (laid v cs t).literals ≡ kept_clauses cs
unfolding laid
laid_standing v cs t =
    let tail : List ℤ = replicate (16384 - length (literal_places cs)) (pos 0) ++ drop 16384 t.literals in
    ap (λ (rs : List ℕ). standing_clauses rs (literal_places cs ++ tail)) (take_at (clause_records 0 cs) _ (3 * length cs) (records_length 0 cs))
    ∙ standing_laid cs 0 [] tail refl

-- ---- no unit and no class clause comes of a load

no_value : (w : ℕ) (class : ℤ) (rs : List ℤ) → units_of w (class ∷ pos 0 ∷ rs) ≡ units_of (suc w) rs
no_value w class rs = go (eq_z class (pos w))
  where
    go : (b : Bool) → elim b [ true ↦ units_of (suc w) rs | false ↦ units_of (suc w) rs ] ≡ units_of (suc w) rs
    go true = refl
    go false = refl

no_units : (w v : ℕ) → units_of w (variable_records w v) ≡ []
unfolding variable_records
no_units w zero = refl
no_units w (suc v) = no_value w (pos w) (variable_records (suc w) v) ∙ no_units (suc w) v

own_class : (w : ℕ) (value : ℤ) (rs : List ℤ) → class_clauses w (pos w ∷ value ∷ rs) ≡ class_clauses (suc w) rs
own_class w value rs = go (eqb w w) (eq-eqb w w refl)
  where
    two : List (List ℤ)
    two = (pos w ∷ neg_ℤ (pos w) ∷ []) ∷ (neg_ℤ (pos w) ∷ pos w ∷ []) ∷ class_clauses (suc w) rs

    go : (b : Bool) → b ≡ true → elim b [ true ↦ class_clauses (suc w) rs | false ↦ two ] ≡ class_clauses (suc w) rs
    go b e = rw e

no_classes : (w v : ℕ) → class_clauses w (variable_records w v) ≡ []
unfolding variable_records
no_classes w zero = refl
no_classes w (suc v) = own_class w (pos 0) (variable_records (suc w) v) ∙ no_classes (suc w) v

laid_variables : (v : ℕ) (cs : List (List ℤ)) (t : Tables) → take (2 * v) (laid v cs t).variables ≡ variable_records 1 v
unfolding laid
laid_variables v cs t = take_at (variable_records 1 v) _ (2 * v) (variables_length 1 v)

-- what Write gives after a load of the clauses cs
pub laid_written : (v : ℕ) (cs : List (List ℤ)) (t : Tables) → written_clauses (laid v cs t) (loaded_state v (length cs) (any_empty cs)) ≡ read_clauses cs
unfolding written_clauses read_clauses
laid_written v cs t = go (any_empty cs)
  where
    go : (b : Bool) → written_by b v (length cs) (laid v cs t) ≡ elim b [ true ↦ [] ∷ [] | false ↦ kept_clauses cs ]
    go true = refl
    go false = λ i. (ap (units_of 1) (laid_variables v cs t) ∙ no_units 1 v) i ++ ((ap (class_clauses 1) (laid_variables v cs t) ∙ no_classes 1 v) i ++ laid_standing v cs t i)

module _ (v : ℕ) (cs : List (List ℤ)) (h : Writable v cs) (t : Tables) (L : Long t) (st : State) where
  -- the load is not refused; V, N and the mark are those of the formula, no pass is open, and the tables hold it
  pub loads : load_call (text_of v cs) t st ≡ answered Loaded (loaded_state v (length cs) (any_empty cs)) (laid v cs t)
  unfolding load_call
  loads =
      formula_lent (judge_text (text_of v cs)) (text_clauses (text_of v cs)) t st L
      ∙ ap (λ (ds : List (List ℤ)). load_by (judge_text (text_of v cs)) ds t st) (read_back v cs h) ∙ ap (λ x. load_by x cs t st) (judged v cs h)

  -- the clauses that stand after it are the formula's
  pub load_back : EachPlain cs
      → standing_clauses (take (3 * length cs) (load_call (text_of v cs) t st).tables.clauses) (load_call (text_of v cs) t st).tables.literals ≡ cs
  load_back p = ap (λ (a : After). standing_clauses (take (3 * length cs) a.tables.clauses) a.tables.literals) loads ∙ laid_standing v cs t ∙ kept_plain cs p
