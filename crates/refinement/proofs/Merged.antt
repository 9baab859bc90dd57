-- A visit of Merge is a list of moves: class literals are put in and repeats go, and a clause with v and −v is dropped. Assumes nothing.
use Prim.Native.Nat.{ℕ, ◌+◌, ◌≤◌, ◌<◌}
use native.Mathlib.Omega.{arith}
use mathlib.Core.Path.{◌≡◌, refl, sym, ap, subst, ◌∙◌}
use mathlib.Core.Bool.{Bool, true, false, ◌||◌, false≢true}
use mathlib.Core.Logic.{⊎_elim}
use mathlib.Core.List.Memᴰ
use mathlib.Core.List.Sublistᴰ
use mathlib.Core.List.{List, [], ◌∷◌, ◌++◌, map, Memᴰ, Sublistᴰ, append_assoc, append-nil}
use lib.ListN.{length, length-map}
use lib.Seq.{get_or-set_same, set-set}
use lib.IntN.{ℤ, neg_ℤ, nat_abs}
use Rattle.base.proofs.Booleans.{or_either}
use Rattle.base.proofs.Lists.{sub_mem}
use Rattle.literal.specs.Literals.{slot_of, eq_z}
use Rattle.literal.specs.Clauses.{has, distinct_from, distinct, tautology}
use Rattle.literal.proofs.Laws.{slot_twin}
use Rattle.literal.proofs.Signed.{eq_z_true, eq_eq_z}
use Rattle.tables.specs.Tables.{Tables, tables, length_of}
use Rattle.tables.specs.Tables as T
use Rattle.tables.specs.Values.{class_literal}
use Rattle.tables.specs.Fates.{shortened, dropped_at}
use Rattle.visits.specs.Formed.{Formed}
use Rattle.visits.proofs.Stores.{recorded, stored_at}
use Rattle.visits.proofs.Forming.{clause_fits, part_length, recorded_same}
use Rattle.visits.proofs.Fitting.{fit_member}
use Rattle.sound.specs.Formula.{Clause, dropped, standing}
use Rattle.moves.specs.Core as core
use Rattle.moves.specs.Moves as moves
use Rattle.repeats.proofs.Repeats.{distinct_short}
use Rattle.literal.proofs.Distinct.{has_distinct}
use Rattle.refinement.specs.Represented.{Represented}
use Rattle.refinement.proofs.Literals.{class_is, class_lit}
use Rattle.refinement.proofs.Propagated.{Simulated, literals_at, stands_as, put_represented, mem_map, map_sub}

-- ---- lists without repeats

mem_has : (l : ℤ) (xs : List ℤ) → Memᴰ l xs → has l xs ≡ true
mem_has l [] m = absurd (Memᴰ.not-nil m)
mem_has l (x ∷ xs) m = ⊎_elim (λ (e : l ≡ x). ap (λ (b : Bool). b || has l xs) (eq_eq_z x l (sym e))) (λ r. by (eq_z x l) (mem_has l xs r)) (Memᴰ.cases_cons m)
  where
    by : (b : Bool) → has l xs ≡ true → (b || has l xs) ≡ true
    by true e = refl
    by false e = e

has_mem : (l : ℤ) (xs : List ℤ) → has l xs ≡ true → Memᴰ l xs
has_mem l [] e = absurd (false≢true e)
has_mem l (x ∷ xs) e = ⊎_elim (λ h. Memᴰ.head (sym (eq_z_true x l h))) (λ h. Memᴰ.tail (has_mem l xs h)) (or_either (eq_z x l) (has l xs) e)

distinct_mem : (l : ℤ) (xs : List ℤ) → Memᴰ l xs → Memᴰ l (distinct xs)
distinct_mem l xs m = has_mem l (distinct xs) (has_distinct l xs ∙ mem_has l xs m)

-- what is kept stands in the same order
kept_sub : (kept xs : List ℤ) → Sublistᴰ (distinct_from kept xs) (kept ++ xs)
kept_sub kept [] = subst (Sublistᴰ kept) (sym (append-nil kept)) (Sublistᴰ.refl kept)
kept_sub kept (x ∷ xs) = by (has x kept) (kept_sub kept xs) (kept_sub (kept ++ (x ∷ [])) xs)
  where
    by : (b : Bool) → Sublistᴰ (distinct_from kept xs) (kept ++ xs) → Sublistᴰ (distinct_from (kept ++ (x ∷ [])) xs) ((kept ++ (x ∷ [])) ++ xs)
        → Sublistᴰ (elim b as (λ y. List ℤ) [ true ↦ distinct_from kept xs | false ↦ distinct_from (kept ++ (x ∷ [])) xs ]) (kept ++ (x ∷ xs))
    by true s r = Sublistᴰ.trans s (Sublistᴰ.append (Sublistᴰ.refl kept) (Sublistᴰ.cons (Sublistᴰ.refl xs)))
    by false s r = subst (Sublistᴰ (distinct_from (kept ++ (x ∷ [])) xs)) (append_assoc kept (x ∷ []) xs) r

-- a literal and its complement
both_in_lem : (D : List ℤ) → tautology D ≡ true → (l : ℤ) × Memᴰ l D × Memᴰ (neg_ℤ l) D
both_in_lem [] e = absurd (false≢true e)
both_in_lem (x ∷ D) e =
    ⊎_elim
    (λ h. (x, Memᴰ.head refl, Memᴰ.tail (has_mem (neg_ℤ x) D h)))
    (λ h. let r = both_in_lem D h in (r.0, Memᴰ.tail r.1, Memᴰ.tail r.2))
    (or_either (has (neg_ℤ x) D) (tautology D) e)

-- ---- one visit

module _ {v n sl : ℕ} {t : Tables} {k : core.Core} (F : Formed v n sl false t.clauses t.literals t.variables) (R : Represented v n false t k) (i : ℕ) (lt : i < n) (stands : T.standing t.clauses i ≡ 1) where
  -- the class literals of the clause
  unfoldable pub classed : List ℤ
  classed = map (class_literal t.variables) (literals_at t i)

  -- on slots they are the classes of the slots
  classed_slots : map slot_of classed ≡ map k.class (map slot_of (literals_at t i))
  unfolding classed
  classed_slots = by (literals_at t i) (λ l m. class_is R F.vars l (fit_member (clause_fits F i lt) m))
    where
      by : (C : List ℤ) → ((l : ℤ) → Memᴰ l C → k.class (slot_of l) ≡ slot_of (class_literal t.variables l)) → map slot_of (map (class_literal t.variables) C) ≡ map k.class (map slot_of C)
      by [] h = refl
      by (x ∷ C) h = λ z. sym (h x (Memᴰ.head refl)) z ∷ by C (λ l m. h l (Memᴰ.tail m)) z

  substituting : moves.Change k (core.put i (standing (map slot_of (distinct classed))) k)
  substituting =
      moves.substituted i (stands_as F R i lt stands) (subst (Sublistᴰ (map slot_of (distinct classed))) classed_slots (map_sub (kept_sub [] classed)))
      (λ s m. let r = mem_map classed (subst (Memᴰ s) (sym classed_slots) m) in subst (λ (x : ℕ). Memᴰ x (map slot_of (distinct classed))) (sym r.2) (Memᴰ.map slot_of (distinct_mem r.0 classed r.1)))

  short : length (distinct classed) ≤ length_of t.clauses i
  unfolding classed
  short = omega (arith, distinct_short classed, length-map (literals_at t i) (class_literal t.variables), part_length F i lt)

  pub merged_left : Simulated v n false (shortened i (distinct classed) t) k
  unfolding shortened
  merged_left = record {
    to = core.put i (standing (map slot_of (distinct classed))) k;
    moves = moves.go moves.stay (moves.change substituting);
    tied = subst (λ (x : List ℕ). Represented v n false (tables x (stored_at t.clauses t.literals i (distinct classed)) t.variables t.times t.links) (core.put i (standing (map slot_of (distinct classed))) k))
        (ap (recorded t.clauses i (length (distinct classed))) (sym stands) ∙ recorded_same t.clauses i (length (distinct classed)))
        (put_represented F R i lt (distinct classed) 1 (standing (map slot_of (distinct classed))) short refl);
  }

  pub merged_dropped : tautology (distinct classed) ≡ true → Simulated v n false (dropped_at i t.variables t) k
  unfolding dropped_at classed
  merged_dropped e =
      let b = both_in_lem (distinct classed) e in
      record {
        to = core.put i dropped (core.put i (standing (map slot_of (distinct classed))) k);
        moves = moves.go (moves.go moves.stay (moves.change substituting))
            (moves.change (moves.tautology i (get_or-set_same k.clauses i (standing (map slot_of (distinct classed))) dropped (omega (arith, R.number, lt))) (Memᴰ.map slot_of b.1)
            (subst (λ (x : ℕ). Memᴰ x (map slot_of (distinct classed))) (slot_twin b.0 (above b.0 b.1)) (Memᴰ.map slot_of b.2))));
        tied = subst (Represented v n false (tables (recorded t.clauses i 0 0) (stored_at t.clauses t.literals i []) t.variables t.times t.links))
            (ap (λ (f : List Clause). core.with_clauses f k) (sym (set-set k.clauses i (standing (map slot_of (distinct classed))) dropped))) (put_represented F R i lt [] 0 dropped (omega arith) refl);
      }
    where
      -- a class literal is not 0
      above : (l : ℤ) → Memᴰ l (distinct classed) → 0 < nat_abs l
      above l m =
          let r = of_map (literals_at t i) (sub_mem (kept_sub [] classed) m) in
          subst (λ (x : ℤ). 0 < nat_abs x) (sym r.2) (class_lit R F.vars r.0 (fit_member (clause_fits F i lt) r.1)).above
        where
          of_map : (C : List ℤ) {x : ℤ} → Memᴰ x (map (class_literal t.variables) C) → (l : ℤ) × Memᴰ l C × (x ≡ class_literal t.variables l)
          of_map [] m = absurd (Memᴰ.not-nil m)
          of_map (y ∷ C) m = ⊎_elim (λ e. (y, Memᴰ.head refl, e)) (λ q. let r = of_map C q in (r.0, Memᴰ.tail r.1, r.2)) (Memᴰ.cases_cons m)
