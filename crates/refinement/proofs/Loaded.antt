-- What an accepted load or join leaves begins the invariant of a list of calls: what stands is the clauses as written without repeats, those with v and -v dropped; and the same assignments satisfy both. Assumes nothing.
use Prim.Native.Nat.{ℕ, zero, suc, ◌+◌, ◌*◌, ◌-◌, ◌≤◌, ◌<◌}
use native.Mathlib.Omega.{arith}
use mathlib.Core.Path.{◌≡◌, refl, sym, ap, subst, ◌∙◌}
use mathlib.Core.Bool.{Bool, true, false, ◌||◌, false≢true}
use mathlib.Core.Logic.{⊎_elim}
use mathlib.Core.List.Memᴰ
use mathlib.Core.List.{List, [], ◌∷◌, ◌++◌, map, Memᴰ, append_assoc}
use lib.ListN.{length, get_or, drop, take, replicate, length-map}
use lib.Dec.{eqb}
use lib.IntN.{ℤ, pos, nat_abs}
use lib.Signed.{non_neg}
use borrow.Author.Tests.{eqb-true}
use Rattle.literal.specs.Literals.{Literal, slot_of, lit_at, eq_z, sign_by}
use Rattle.literal.specs.Clauses.{distinct, tautology}
use Rattle.literal.specs.Assignments.{Assignment, some_true, Satisfies}
use Rattle.literal.proofs.Laws.{slot_lit, slot_below}
use Rattle.state.specs.States.{loaded_state}
use Rattle.programmes.proofs.Programmes.{constant_passes}
use Rattle.tables.specs.Tables.{Tables}
use Rattle.tables.specs.Tables as T
use Rattle.tables.specs.Long.{Long}
use Rattle.tables.specs.Values.{own_truth}
use Rattle.tables.specs.Clauses.{literals_of}
use Rattle.visits.specs.Formed.{Formed}
use Rattle.visits.proofs.Forming.{formed_shape}
use Rattle.literal.specs.Ranged.{InClause, InClauses, total}
use Rattle.dimacs.proofs.Accepted.{Within}
use Rattle.load.specs.Load.{kept_of, literal_places, any_empty, laid, accept}
use Rattle.merge.proofs.Truth.{some_distinct, tautology_true}
use Rattle.repeats.proofs.Repeats.{All, distinct_all}
use Rattle.sound.specs.Formula.{Clause, dropped, standing, Sat, Models}
use Rattle.moves.specs.Core.{load, marked_core}
use Rattle.moves.specs.Moves.{spent, conflict, change, stay, go}
use Rattle.refinement.specs.Represented.{clause_of, Represented}
use Rattle.refinement.proofs.Propagated.{mark_represented, mem_map}
use Rattle.refinement.proofs.Literals.{slot_literal, own_literal}
use Rattle.refinement.proofs.Standing.{Real, sat_slots, slots_sat}
use Rattle.refinement.proofs.Held.{stale, Held}
use Rattle.refinement.proofs.Laid.{nth, before}
use Rattle.refinement.proofs.LaidFormed.{rec, laid_class, laid_value, laid_spread, laid_formed}

-- the clause that stands for one of the text, on slots
unfoldable pub clause_for : List ℤ → Clause
clause_for c = elim (tautology c) [ true ↦ dropped | false ↦ standing (map slot_of (distinct c)) ]

unfoldable pub loaded_clauses : List (List ℤ) → List Clause
loaded_clauses cs = map clause_for cs

pub loaded_at : (cs : List (List ℤ)) (i : ℕ) → i < length cs → get_or (loaded_clauses cs) i dropped ≡ clause_for (nth cs i)
unfolding loaded_clauses
loaded_at [] i h = absurd (omega arith)
loaded_at (c ∷ cs) zero h = refl
loaded_at (c ∷ cs) (suc i) h = loaded_at cs i (omega arith)

-- ---- the places of a clause, as a list

take_front : (xs ys : List ℤ) → take (length xs) (xs ++ ys) ≡ xs
take_front [] ys = refl
take_front (x ∷ xs) ys = ap (λ (l : List ℤ). x ∷ l) (take_front xs ys)

drop_behind : (xs ys : List ℤ) (k : ℕ) → drop (length xs + k) (xs ++ ys) ≡ drop k ys
drop_behind [] ys k = ap (λ (j : ℕ). drop j ys) (let e : 0 + k ≡ k = omega arith in e)
drop_behind (x ∷ xs) ys k = ap (λ (j : ℕ). drop j (x ∷ (xs ++ ys))) (let e : suc (length xs) + k ≡ suc (length xs + k) = omega arith in e) ∙ drop_behind xs ys k

part_at : (cs : List (List ℤ)) (rest : List ℤ) (i : ℕ) → i < length cs → take (length (kept_of (nth cs i))) (drop (before cs i) (literal_places cs ++ rest)) ≡ kept_of (nth cs i)
unfolding literal_places before
part_at [] rest i h = absurd (omega arith)
part_at (c ∷ cs) rest zero h = ap (λ (l : List ℤ). take (length (kept_of c)) l) (append_assoc (kept_of c) (literal_places cs) rest) ∙ take_front (kept_of c) (literal_places cs ++ rest)
part_at (c ∷ cs) rest (suc i) h =
    ap (λ (l : List ℤ). take (length (kept_of (nth cs i))) (drop (length (kept_of c) + before cs i) l)) (append_assoc (kept_of c) (literal_places cs) rest)
    ∙ ap (take (length (kept_of (nth cs i)))) (drop_behind (kept_of c) (literal_places cs ++ rest) (before cs i)) ∙ part_at cs rest i (omega arith)

module _ (v : ℕ) (cs : List (List ℤ)) (t : Tables) (few : v ≤ 1024) (many : length cs ≤ 4096) (fits : total cs ≤ 16384) (each : InClauses v cs) where
  abbrev t' : Tables
  t' = laid v cs t

  literals_are : (i : ℕ) → i < length cs → literals_of t'.clauses t'.literals i ≡ kept_of (nth cs i)
  unfolding laid
  literals_are i h =
      let r = rec v cs t few many fits each i h in
      ap (λ (k : ℕ). take k (drop (T.start_of t'.clauses i) t'.literals)) r.length_is ∙ ap (λ (k : ℕ). take (length (kept_of (nth cs i))) (drop k t'.literals)) r.start_is
      ∙ part_at cs (replicate (16384 - length (literal_places cs)) (pos 0) ++ drop 16384 t.literals) i h

  loaded_clause : (i : ℕ) → i < length cs → clause_for (nth cs i) ≡ clause_of t'.clauses t'.literals i
  unfolding clause_for clause_of
  loaded_clause i h =
      by (tautology (nth cs i))
      ∙ sym (λ z. elim ((rec v cs t few many fits each i h).flag_is z) as (λ y. Clause) [ zero ↦ dropped | suc _ ↦ standing (map slot_of (literals_are i h z)) ])
    where
      by : (b : Bool) → ◌≡◌ {A = Clause} (elim b as (λ y. Clause) [ true ↦ dropped | false ↦ standing (map slot_of (distinct (nth cs i))) ])
          (elim (elim b as (λ y. ℕ) [ true ↦ 0 | false ↦ 1 ]) as (λ y. Clause) [ zero ↦ dropped | suc _ ↦ standing (map slot_of (elim b as (λ y. List ℤ) [ true ↦ [] | false ↦ distinct (nth cs i) ])) ])
      by true = refl
      by false = refl

  pub loaded_represented : Represented v (length cs) false t' (load (loaded_clauses cs))
  unfolding loaded_clauses
  loaded_represented = record {
    number = length-map cs clause_for;
    clauses = λ i h. loaded_at cs i h ∙ loaded_clause i h;
    classes = λ s h.
        let L = slot_literal v s h in
        sym (ap slot_of (own_literal t'.variables (lit_at s) L.above (laid_class v cs t few many fits each (nat_abs (lit_at s)) L.above L.within)) ∙ slot_lit s);
    facts = λ s h.
        let L = slot_literal v s h in
        sym (ap (λ (z : ℤ). eq_z (own_truth t'.variables z) (pos 1)) (own_literal t'.variables (lit_at s) L.above (laid_class v cs t few many fits each (nat_abs (lit_at s)) L.above L.within))
        ∙ ap (λ (z : ℤ). eq_z (sign_by (non_neg (lit_at s)) z) (pos 1)) (laid_value v cs t few many fits each (nat_abs (lit_at s)) L.above L.within) ∙ nought (non_neg (lit_at s)));
    beyond = λ s h. (refl, refl);
    marks = refl;
  }
    where
      nought : (b : Bool) → eq_z (sign_by b (pos 0)) (pos 1) ≡ false
      nought true = refl
      nought false = refl

-- ---- the same assignments

-- no literal is 0
pub above : (v : ℕ) (c : List ℤ) → InClause v c → All (λ x. 0 < nat_abs x) c
unfolding InClause
above v [] I = tt
above v (l ∷ c) I = (I.0, above v c I.1.1)

pub loaded_length : (cs : List (List ℤ)) → length (loaded_clauses cs) ≡ length cs
unfolding loaded_clauses
loaded_length cs = length-map cs clause_for

module _ (v : ℕ) (τ : Assignment) where
  real_in : (c : List ℤ) → All (λ x. 0 < nat_abs x) c → Real c
  real_in c A = record { each = by c A }
    where
      by : (c : List ℤ) → All (λ x. 0 < nat_abs x) c → (l : ℤ) → Memᴰ l c → 0 < nat_abs l
      by [] A l m = absurd (Memᴰ.not-nil m)
      by (x ∷ c) A l m = ⊎_elim (λ (e : l ≡ x). subst (λ (z : ℤ). 0 < nat_abs z) (sym e) A.0) (λ r. by c A.1 l r) (Memᴰ.cases_cons m)

  -- what is kept of a clause is as true as the clause
  kept_real : (c : List ℤ) → InClause v c → Real (distinct c)
  kept_real c I = real_in (distinct c) (distinct_all (λ x. 0 < nat_abs x) c (above v c I))

  -- a clause that was dropped is true, one that stands is as true as its kept literals
  models_one : (c : List ℤ) → InClause v c → ((C : List ℕ) → clause_for c ≡ standing C → Sat τ C) → some_true τ c ≡ true
  unfolding clause_for
  models_one c I m = by (tautology c) refl m
    where
      by : (b : Bool) → tautology c ≡ b → ((C : List ℕ) → elim b as (λ y. Clause) [ true ↦ dropped | false ↦ standing (map slot_of (distinct c)) ] ≡ standing C → Sat τ C) → some_true τ c ≡ true
      by true e m = tautology_true τ c (above v c I) e
      by false e m = sym (some_distinct τ c) ∙ slots_sat τ (distinct c) (kept_real c I) (m (map slot_of (distinct c)) refl)

  one_models : (c : List ℤ) → InClause v c → some_true τ c ≡ true → (C : List ℕ) → clause_for c ≡ standing C → Sat τ C
  unfolding clause_for
  one_models c I h C e = by (tautology c) e
    where
      by : (b : Bool) → elim b as (λ y. Clause) [ true ↦ dropped | false ↦ standing (map slot_of (distinct c)) ] ≡ standing C → Sat τ C
      by true e = absurd (let z : ◌≡◌ {A = ℕ} 0 1 = cc in omega arith)
      by false e = subst (Sat τ) (let q : map slot_of (distinct c) ≡ C = cc in q) (sat_slots τ (distinct c) (kept_real c I) (some_distinct τ c ∙ h))

  -- THE LAW: what stands after a load is satisfied by the assignments that satisfy the text's clauses
  pub models_satisfies : (cs : List (List ℤ)) → InClauses v cs → Models τ (loaded_clauses cs) → Satisfies τ cs
  unfolding Satisfies loaded_clauses InClauses
  models_satisfies [] I M = tt
  models_satisfies (c ∷ cs) I M = (models_one c I.0 (λ C e. M C (Memᴰ.head (sym e))), models_satisfies cs I.1 (λ C m. M C (Memᴰ.tail m)))

  pub satisfies_models : (cs : List (List ℤ)) → InClauses v cs → Satisfies τ cs → Models τ (loaded_clauses cs)
  unfolding Satisfies loaded_clauses InClauses
  satisfies_models [] I S C m = absurd (Memᴰ.not-nil m)
  satisfies_models (c ∷ cs) I S C m = ⊎_elim (λ (e : standing C ≡ clause_for c). one_models c I.0 S.0 C (sym e)) (λ r. satisfies_models cs I.1 S.1 C r) (Memᴰ.cases_cons m)

-- ---- the literals that were loaded

pub for_standing : (c : List ℤ) {C : List ℕ} → clause_for c ≡ standing C → (tautology c ≡ false) × (map slot_of (distinct c) ≡ C)
unfolding clause_for
for_standing c {C} e = by (tautology c) refl e
  where
    by : (b : Bool) → tautology c ≡ b → elim b as (λ y. Clause) [ true ↦ dropped | false ↦ standing (map slot_of (distinct c)) ] ≡ standing C → (tautology c ≡ false) × (map slot_of (distinct c) ≡ C)
    by true q e = absurd (let z : ◌≡◌ {A = ℕ} 0 1 = cc in omega arith)
    by false q e = (q, let r : map slot_of (distinct c) ≡ C = cc in r)

in_literals : (v : ℕ) (c : List ℤ) → InClause v c → All (Literal v) c
unfolding InClause
in_literals v [] I = tt
in_literals v (l ∷ c) I = (record { above = I.0; within = I.1.0 }, in_literals v c I.1.1)

pub all_member : (P : ℤ → Type 0) (c : List ℤ) → All P c → (l : ℤ) → Memᴰ l c → P l
all_member P [] A l m = absurd (Memᴰ.not-nil m)
all_member P (x ∷ c) A l m = ⊎_elim (λ (e : l ≡ x). subst P (sym e) A.0) (λ r. all_member P c A.1 l r) (Memᴰ.cases_cons m)

loaded_within : (v : ℕ) (cs : List (List ℤ)) → InClauses v cs → (C : List ℕ) → Memᴰ (standing C) (loaded_clauses cs) → (s : ℕ) → Memᴰ s C → s < 2 * v
unfolding loaded_clauses InClauses
loaded_within v [] I C m s k = absurd (Memᴰ.not-nil m)
loaded_within v (c ∷ cs) I C m s k =
    ⊎_elim
    (λ (e : standing C ≡ clause_for c).
    let q = for_standing c (sym e) in
    let r = mem_map (distinct c) (subst (Memᴰ s) (sym q.1) k) in
    let L = all_member (Literal v) (distinct c) (distinct_all (Literal v) c (in_literals v c I.0)) r.0 r.1 in
    subst (λ (x : ℕ). x < 2 * v) (sym r.2) (slot_below r.0 v L.above L.within))
    (λ r. loaded_within v cs I.1 C r s k)
    (Memᴰ.cases_cons m)

-- a clause that was loaded has a number
pub loaded_below : (cs : List (List ℤ)) (i : ℕ) {C : List ℕ} → get_or (loaded_clauses cs) i dropped ≡ standing C → i < length cs
unfolding loaded_clauses
loaded_below [] i e = absurd (let z : ◌≡◌ {A = ℕ} 0 1 = cc in omega arith)
loaded_below (c ∷ cs) zero e = omega arith
loaded_below (c ∷ cs) (suc i) e = omega (arith, loaded_below cs i e)

-- ---- the call

-- an empty clause stands, and the mark is right
empty_at : (cs : List (List ℤ)) → any_empty cs ≡ true → (i : ℕ) × (i < length cs) × (get_or (loaded_clauses cs) i dropped ≡ standing [])
unfolding loaded_clauses clause_for
empty_at [] e = absurd (false≢true e)
empty_at (c ∷ cs) e = by c (eqb (length c) 0) refl e (empty_at cs)
  where
    by : (d : List ℤ) (b : Bool) → eqb (length d) 0 ≡ b → (b || any_empty cs) ≡ true → (any_empty cs ≡ true → (i : ℕ) × (i < length cs) × (get_or (map clause_for cs) i dropped ≡ standing []))
        → (i : ℕ) × (i < suc (length cs)) × (get_or (clause_for d ∷ map clause_for cs) i dropped ≡ standing [])
    by [] true q e rest = (0, omega arith, refl)
    by (x ∷ d) true q e rest = absurd (omega (arith, eqb-true (suc (length d)) 0 q))
    by d false q e rest = let r = rest e in (suc r.0, omega (arith, r.1), r.2)

-- clauses within the limits, laid in the tables: what an accepted load or join leaves
module _ (v n : ℕ) (cs : List (List ℤ)) (few : v ≤ 1024) (most : n ≤ 4096) (W : Within v n 16384 cs) (t : Tables) (L : Long t) where
  many : length cs ≤ 4096
  many = omega (arith, most, W.count)

  fits : total cs ≤ 16384
  fits = W.size

  each : InClauses v cs
  each = W.each

  laid_held : (b : Bool) → any_empty cs ≡ b → Held (loaded_clauses cs) (laid v cs t) (loaded_state v (length cs) b)
  unfolding laid
  laid_held true e =
      let z = empty_at cs e in
      record {
        core = marked_core (load (loaded_clauses cs));
        stamped = spent;
        so = record { moves = go stay (change (conflict z.0 z.2)); within = loaded_within v cs each };
        shape = formed_shape (laid v cs t) (loaded_state v (length cs) true) (subst (λ (b : Bool). Formed v (length cs) (length cs) b (laid v cs t).clauses (laid v cs t).literals (laid v cs t).variables) e (laid_formed v cs t few many fits each)) L.times L.links (laid_spread v cs t few many fits each) tt (λ q. absurd (false≢true q)) constant_passes;
        tied = mark_represented (loaded_represented v cs t few many fits each);
        stamps = stale refl;
      }
  laid_held false e = record {
    core = load (loaded_clauses cs);
    stamped = spent;
    so = record { moves = stay; within = loaded_within v cs each };
    shape = formed_shape (laid v cs t) (loaded_state v (length cs) false) (subst (λ (b : Bool). Formed v (length cs) (length cs) b (laid v cs t).clauses (laid v cs t).literals (laid v cs t).variables) e (laid_formed v cs t few many fits each)) L.times L.links (laid_spread v cs t few many fits each) tt (λ q. absurd (false≢true q)) constant_passes;
    tied = loaded_represented v cs t few many fits each;
    stamps = stale refl;
  }

  pub accept_held : Held (loaded_clauses cs) (accept v n cs t).tables (accept v n cs t).state
  accept_held = subst (λ (m : ℕ). Held (loaded_clauses cs) (laid v cs t) (loaded_state v m (any_empty cs))) W.count (laid_held (any_empty cs) refl)
