-- What a load lays keeps the shape rule, and is what stands after it: the clauses without repeats, those with v and -v dropped. Assumes nothing.
use Prim.Native.Nat.{ℕ, zero, suc, ◌+◌, ◌*◌, ◌-◌, ◌≤◌, ◌<◌}
use native.Mathlib.Omega.{arith}
use native.Mathlib.Nat.{le_refl}
use mathlib.Core.Path.{◌≡◌, refl, sym, ap, subst, ◌∙◌}
use mathlib.Core.Bool.{Bool, true, false, ◌||◌}
use mathlib.Core.List.{List, [], ◌∷◌, ◌++◌}
use lib.ListN.{length, get_or, drop, replicate, length-append, length-replicate}
use lib.Dec.{ltb, eqb}
use lib.IntN.{ℤ, pos, nat_abs}
use borrow.Author.Tests.{eq-eqb}
use Rattle.literal.specs.Literals.{Literal}
use Rattle.literal.specs.Clauses.{distinct, tautology}
use Rattle.tables.specs.Tables.{Tables, start_of, length_of, class_of, value_of}
use Rattle.tables.specs.Values.{own_truth}
use Rattle.shape.specs.Shape.{Parts, Literals, Variable, Spread}
use Rattle.visits.specs.Formed.{Formed, FitClause}
use Rattle.visits.proofs.Fitting.{fit_none}
use Rattle.repeats.proofs.Repeats.{All, distinct_short, distinct_none, distinct_all, distinct_once}
use Rattle.merge_visits.proofs.Repeats.{Own, once_fits}
use Rattle.literal.specs.Ranged.{InClause, InClauses, total}
use Rattle.roundtrip.proofs.Plain.{distinct_plain}
use Rattle.load.specs.Load.{kept_of, clause_records, literal_places, variable_records, filled, any_empty, laid}
use Rattle.refinement.proofs.Laid.{nth, before, flagged, Recorded, record_at_lem, place_at, before_rises, before_all, own_at}

-- what is kept of a clause, and its flag, by whether it has v and -v
abbrev kept_by : Bool → List ℤ → List ℤ
kept_by b c = elim b [ true ↦ [] | false ↦ distinct c ]

abbrev flag_by : Bool → ℕ
flag_by b = elim b [ true ↦ 0 | false ↦ 1 ]

-- ---- sizes

kept_short : (c : List ℤ) → length (kept_of c) ≤ length c
kept_short c = go (tautology c)
  where
    go : (b : Bool) → length (kept_by b c) ≤ length c
    go true = omega arith
    go false = distinct_short c

places_short : (cs : List (List ℤ)) → length (literal_places cs) ≤ total cs
unfolding literal_places total
places_short [] = omega arith
places_short (c ∷ cs) = omega (arith, length-append (kept_of c) (literal_places cs), kept_short c, places_short cs)

-- a filled table is as long as stated
filled_long : {A : Type 0} (z : A) (size : ℕ) (xs old : List A) → size ≤ length (filled z size xs old)
filled_long z size xs old =
    omega (arith, length-append xs (replicate (size - length xs) z ++ drop size old), length-append (replicate (size - length xs) z) (drop size old), length-replicate (size - length xs) z)

-- ---- a clause

-- every clause of the list, by its number
pub in_nth : (v : ℕ) (cs : List (List ℤ)) (i : ℕ) → InClauses v cs → i < length cs → InClause v (nth cs i)
unfolding InClauses
in_nth v [] i I h = absurd (omega arith)
in_nth v (c ∷ cs) zero I h = I.0
in_nth v (c ∷ cs) (suc i) I h = in_nth v cs i I.1 (omega arith)

any_empty_lem : (cs : List (List ℤ)) (i : ℕ) → i < length cs → length (nth cs i) ≡ 0 → any_empty cs ≡ true
any_empty_lem [] i h e = absurd (omega arith)
any_empty_lem (c ∷ cs) zero h e = ap (λ (b : Bool). b || any_empty cs) (eq-eqb (length c) 0 e)
any_empty_lem (c ∷ cs) (suc i) h e = by (eqb (length c) 0) (any_empty_lem cs i (omega arith) e)
  where
    by : (b : Bool) → any_empty cs ≡ true → (b || any_empty cs) ≡ true
    by true q = refl
    by false q = q

module _ (v : ℕ) (w : List ℤ) (own : (u : ℕ) → 0 < u → u ≤ v → class_of w u ≡ pos u) where
  all_own : (c : List ℤ) → InClause v c → All (Own v w) c
  unfolding InClause
  all_own [] I = tt
  all_own (l ∷ c) I = (record { ranged = record { above = I.0; within = I.1.0 }; own = own (nat_abs l) I.0 I.1.0 }, all_own c I.1.1)

  kept_fits : (b : Bool) (c : List ℤ) → InClause v c → FitClause v w b (kept_of c)
  kept_fits b c I = go (tautology c) refl
    where
      go : (x : Bool) → tautology c ≡ x → FitClause v w b (kept_by x c)
      go true e = fit_none
      go false e = once_fits v w b (distinct c) (distinct_all (Own v w) c (all_own c I)) (distinct_once c) (distinct_plain c e).consistent

-- ---- the tables

module _ (v : ℕ) (cs : List (List ℤ)) (t : Tables) (few : v ≤ 1024) (many : length cs ≤ 4096) (fits : total cs ≤ 16384) (each : InClauses v cs) where
  abbrev t' : Tables
  t' = laid v cs t

  abbrev n : ℕ
  n = length cs

  pub rec : (i : ℕ) → i < n → Recorded t'.clauses i (before cs i) (length (kept_of (nth cs i))) (flagged (nth cs i))
  unfolding laid
  rec i h = let r = record_at_lem cs 0 i (replicate (12288 - length (clause_records 0 cs)) 0 ++ drop 12288 t.clauses) h in
      record { start_is = r.start_is ∙ (let e : 0 + before cs i ≡ before cs i = omega arith in e); length_is = r.length_is; flag_is = r.flag_is }

  place : (i k : ℕ) → i < n → k < length (kept_of (nth cs i)) → get_or t'.literals (start_of t'.clauses i + k) (pos 0) ≡ get_or (kept_of (nth cs i)) k (pos 0)
  unfolding laid
  place i k h l = ap (λ (s : ℕ). get_or t'.literals (s + k) (pos 0)) (rec i h).start_is ∙ place_at cs (replicate (16384 - length (literal_places cs)) (pos 0) ++ drop 16384 t.literals) i k h l

  pub laid_class : (u : ℕ) → 0 < u → u ≤ v → class_of t'.variables u ≡ pos u
  unfolding laid
  laid_class zero a b = absurd (omega arith)
  laid_class (suc u) a b =
      ap (λ (k : ℕ). get_or t'.variables k (pos 0)) (let e : 2 * suc u - 2 ≡ 2 * u = omega arith in e)
      ∙ (own_at v 1 u (replicate (2048 - length (variable_records 1 v)) (pos 0) ++ drop 2048 t.variables) (omega arith)).0 ∙ ap pos (let e : 1 + u ≡ suc u = omega arith in e)

  pub laid_value : (u : ℕ) → 0 < u → u ≤ v → value_of t'.variables u ≡ pos 0
  unfolding laid
  laid_value zero a b = absurd (omega arith)
  laid_value (suc u) a b =
      ap (λ (k : ℕ). get_or t'.variables k (pos 0)) (let e : 2 * suc u - 1 ≡ 2 * u + 1 = omega arith in e)
      ∙ (own_at v 1 u (replicate (2048 - length (variable_records 1 v)) (pos 0) ++ drop 2048 t.variables) (omega arith)).1

  fit : (b : Bool) (i : ℕ) → i < n → FitClause v t'.variables b (kept_of (nth cs i))
  fit b i h = kept_fits v t'.variables laid_class b (nth cs i) (in_nth v cs i each h)

  -- the flag is 0 for a clause with v and -v, of which nothing is kept
  flag_dropped : (c : List ℤ) → flagged c ≡ 0 → length (kept_of c) ≡ 0
  flag_dropped c e = go (tautology c) e
    where
      go : (b : Bool) → flag_by b ≡ 0 → length (kept_by b c) ≡ 0
      go true e = refl
      go false e = absurd (omega (arith, e))

  flag_most : (c : List ℤ) → flagged c ≤ 1
  flag_most c = go (tautology c)
    where
      go : (b : Bool) → flag_by b ≤ 1
      go true = omega arith
      go false = le_refl _

  stands_empty : (c : List ℤ) → flagged c ≡ 1 → length (kept_of c) ≡ 0 → length c ≡ 0
  stands_empty c e z = go (tautology c) e z
    where
      go : (b : Bool) → flag_by b ≡ 1 → length (kept_by b c) ≡ 0 → length c ≡ 0
      go true e z = absurd (omega (arith, e))
      go false e z = distinct_none c z

  laid_parts : Parts n t'.clauses
  laid_parts = record {
    flag = λ i h. subst (λ (x : ℕ). x ≤ 1) (sym (rec i h).flag_is) (flag_most (nth cs i));
    dropped = λ i h e. (rec i h).length_is ∙ flag_dropped (nth cs i) (sym (rec i h).flag_is ∙ e);
    inside = λ i h. omega (arith, (rec i h).start_is, (rec i h).length_is, before_rises cs i n h (le_refl n), before_all cs, places_short cs, fits);
    rising = λ j h i lt. omega (arith, (rec i (omega (arith, h, lt))).start_is, (rec j h).start_is, before_rises cs i j lt (omega (arith, h)));
    apart = λ j h i lt a b. omega (arith, (rec i (omega (arith, h, lt))).start_is, (rec i (omega (arith, h, lt))).length_is, (rec j h).start_is, before_rises cs i j lt (omega (arith, h)));
  }

  laid_literals : (i : ℕ) → i < n → Literals v t'.literals t'.variables (ltb i n) (start_of t'.clauses i) (length_of t'.clauses i)
  laid_literals i h = record {
    ranged = λ k l. subst (Literal v) (sym (place i k h (short k l))) (F.ranged k (short k l));
    once = λ k l j lt e. F.once k (short k l) j lt (ap nat_abs (sym (place i j h (omega (arith, lt, short k l)))) ∙ e ∙ ap nat_abs (place i k h (short k l)));
    own = λ s k l. subst (λ (z : ℤ). class_of t'.variables (nat_abs z) ≡ pos (nat_abs z)) (sym (place i k h (short k l))) (F.own s k (short k l));
  }
    where
      F : FitClause v t'.variables (ltb i n) (kept_of (nth cs i))
      F = fit (ltb i n) i h

      short : (k : ℕ) → k < length_of t'.clauses i → k < length (kept_of (nth cs i))
      short k l = omega (arith, l, (rec i h).length_is)

  laid_variable : (u : ℕ) → u < v → Variable t'.variables (u + 1)
  laid_variable u h =
      let c = laid_class (u + 1) (omega arith) (omega arith) in
      let x = laid_value (u + 1) (omega arith) (omega arith) in
      record {
        class = subst (Literal (u + 1)) (sym c) (record { above = omega arith; within = le_refl (u + 1) });
        own = ap (λ (z : ℤ). class_of t'.variables (nat_abs z)) c ∙ c ∙ ap (λ (z : ℤ). pos (nat_abs z)) (sym c);
        value = subst (λ (z : ℤ). nat_abs z ≤ 1) (sym x) (omega arith);
      }

  -- each variable is its own class, so that its value is that of its class literal
  pub laid_spread : Spread v t'.variables
  laid_spread u h = sym (ap (own_truth t'.variables) (laid_class (u + 1) (omega arith) (omega arith)))

  pub laid_formed : Formed v n n (any_empty cs) t'.clauses t'.literals t'.variables
  unfolding laid
  laid_formed = record {
    number = many;
    records = filled_long 0 12288 (clause_records 0 cs) t.clauses;
    places = filled_long (pos 0) 16384 (literal_places cs) t.literals;
    rule = record {
      parts = laid_parts;
      each = laid_literals;
      empty = λ i h s z. any_empty_lem cs i h (stands_empty (nth cs i) (sym (rec i h).flag_is ∙ s) (sym (rec i h).length_is ∙ z));
    };
    vars = record { few = few; room = filled_long (pos 0) 2048 (variable_records 1 v) t.variables; each = laid_variable };
  }
