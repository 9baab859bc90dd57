-- Which clauses are pending: after a visit to a pending clause, a clause that is not pending is still settled; and with every clause pending it is so at the start. Assumes nothing.
use Prim.Native.Nat.{ℕ, ◌+◌, ◌*◌, ◌/◌, ◌≤◌, ◌<◌}
use native.Mathlib.Omega.{arith}
use mathlib.Core.Path.{◌≡◌, refl, sym, ap, subst, ◌∙◌}
use mathlib.Core.Bool.{Bool, true, false, not, ◌&&◌, ◌||◌, false≢true}
use mathlib.Core.Logic.{inl, inr, ⊎_elim}
use mathlib.Core.List.{List, [], Memᴰ}
use lib.ListN.{length, get_or, set, drop, replicate, length-set, length-replicate, get_or-replicate}
use lib.Seq.{get_or-set_other, get_or-take, get_or-drop}
use lib.Dec.{eqb}
use lib.IntN.{ℤ, pos, nat_abs}
use Rattle.base.specs.Decide.{same_or}
use Rattle.base.specs.Lists.{any}
use Rattle.base.proofs.Lists.{any_same, mem_get_d, get_d_zeros}
use Rattle.literal.specs.Literals.{eq_z}
use Rattle.tables.specs.Tables.{Tables, tables, start_of, length_of, standing, value_of}
use Rattle.tables.specs.Clauses.{literals_of}
use Rattle.tables.specs.Fates.{Fate, kept, left, dropped, unit, conflict, store, fate_at}
use Rattle.tables.specs.Passes.{valued, unsettled}
use Rattle.visits.proofs.Forming.{part_length, clause_fits}
use Rattle.visits.proofs.Fitting.{fit_member}
use Rattle.visits.proofs.StoreKeeps.{FormedIn}
use Rattle.occurrences.specs.Chains.{owner_of, Before, Linking, Linkable}
use Rattle.occurrences.specs.Pending.{Covered, HasChain, PendingAll}
use Rattle.occurrences.proofs.Pending.{covered_clear}
use Rattle.occurrences.proofs.Linking.{linking_none}
use Rattle.propagate_visits.specs.Visits.{propagate_clause}
use Rattle.visits.specs.Visited.{visited_as, Visit, visit_of, visit_at}
use Rattle.propagate_visits.specs.Steps.{StandsBefore}
use Rattle.propagate.specs.Listed.{Listed}
use Rattle.visits.specs.declared.Visited.{Visited}
use Rattle.visits.specs.declared.Visited.TheVariants.{MadeTrue, Conflict}
use Rattle.propagate.proofs.Quiet.{Values, same, one, Left, visit_left}

-- ---- a visit

-- the tables t with their lists, and the tables u after the visit to clause k
module _ {v n k : ℕ} {t : Tables} {heads places : List ℕ} {pending blocks : List Bool} (F : FormedIn v n t) (lt : k < n) (L : Listed n heads places pending blocks t.clauses t.literals t.variables)
    {f : Fate} {u : Tables} (A : Left v n k t f u) (pending' blocks' : List Bool) (room : (4096 ≤ length pending') × (64 ≤ length blocks')) (covered : Covered pending' blocks')
    (still : (i : ℕ) → (i ≡ k → ⊥) → get_or pending i false ≡ true → get_or pending' i false ≡ true)
    (new : (l : ℤ) → f ≡ unit l → (q : ℕ) → get_or L.vs q 0 ≡ nat_abs l → get_or pending' (owner_of places q) false ≡ true) where
  -- a clause whose literals have the values that they had is settled if it was
  unchanged : (i : ℕ) → i < n → (i ≡ k → ⊥) → ((x : ℤ) → Memᴰ x (literals_of t.clauses t.literals i) → value_of u.variables (nat_abs x) ≡ value_of t.variables (nat_abs x)) → unsettled u i ≡ unsettled t i
  unchanged i li d eq =
      let O = A.others i li d in
      (λ j. eqb (O.0 j) 1 && (eqb (O.1.0 j) 1 || any (valued u.variables) (O.1.1 j)))
      ∙ ap (λ (b : Bool). eqb (standing t.clauses i) 1 && (eqb (length_of t.clauses i) 1 || b))
      (any_same (valued u.variables) (valued t.variables) (literals_of t.clauses t.literals i) (λ x m. ap (λ (z : ℤ). not (eq_z z (pos 0))) (eq x m)))

  -- a clause that is not pending was not before
  skippable : (i : ℕ) → (i ≡ k → ⊥) → get_or pending' i false ≡ false → get_or pending i false ≡ false
  skippable i d e = by (get_or pending i false) refl
    where
      by : (b : Bool) → get_or pending i false ≡ b → b ≡ false
      by true z = sym (still i d z) ∙ e
      by false z = refl

  quiet_other : (i : ℕ) → i < n → (i ≡ k → ⊥) → get_or pending' i false ≡ false → (g : Fate) → f ≡ g → Values v t u g → unsettled u i ≡ false
  quiet_other i li d e g z (same ev none) = unchanged i li d (λ x m. ap (λ (w : List ℤ). value_of w (nat_abs x)) ev) ∙ L.quiet i li (skippable i d e)
  quiet_other i li d e g z (one l ranged ev) =
      unchanged i li d
      (λ x m.
      ev (nat_abs x) (fit_member (clause_fits F i li) m).above
      (λ y. let (q, a, o) = L.occurs i li x m in false≢true (sym e ∙ ap (λ (j : ℕ). get_or pending' j false) (sym o) ∙ new l z q (a ∙ y))))
      ∙ L.quiet i li (skippable i d e)

  pub listed_after : Listed n heads places pending' blocks' u.clauses u.literals u.variables
  listed_after = record {
    vs = L.vs;
    walkable = L.walkable;
    rows = L.rows;
    occurs = λ i li x m.
        ⊎_elim
        (λ (e : i ≡ k). L.occurs i li x (subst (λ (j : ℕ). Memᴰ x (literals_of t.clauses t.literals j)) (sym e) (A.shrinks x (subst (λ (j : ℕ). Memᴰ x (literals_of u.clauses u.literals j)) e m))))
        (λ (d : i ≡ k → ⊥). L.occurs i li x (subst (Memᴰ x) (A.others i li d).1.1 m))
        (same_or i k);
    room = room;
    covered = covered;
    quiet = λ i li e.
        ⊎_elim
        (λ (z : i ≡ k). subst (λ (j : ℕ). unsettled u j ≡ false) (sym z) A.here)
        (λ (d : i ≡ k → ⊥). quiet_other i li d e f refl A.values)
        (same_or i k);
  }

-- ---- as the code sees it

unit_of : (f : Fate) (w : ℕ) → visited_as f ≡ MadeTrue w → (l : ℤ) × (f ≡ unit l) × (nat_abs l ≡ w)
unit_of (unit l) w e = (l, refl, number e)
  where
    number : MadeTrue (nat_abs l) ≡ MadeTrue w → nat_abs l ≡ w
    number e = cc
unit_of kept w e = absurd (let q : ◌≡◌ {A = ℕ} 0 1 = cc in omega arith)
unit_of (left C) w e = absurd (let q : ◌≡◌ {A = ℕ} 0 1 = cc in omega arith)
unit_of dropped w e = absurd (let q : ◌≡◌ {A = ℕ} 0 1 = cc in omega arith)
unit_of conflict w e = absurd (let q : ◌≡◌ {A = ℕ} 0 1 = cc in omega arith)

module _ {n k : ℕ} {c : List ℕ} {l w : List ℤ} {heads places : List ℕ} {pending blocks : List Bool} (R : StandsBefore n k c l w) (L : Listed n heads places pending blocks c l w)
    (r : Visited) (c' : List ℕ) (l' w' : List ℤ) (is : visit_of r (tables c' l' w' [] []) ≡ visit_at (propagate_clause w) k (tables c l w [] [])) where
  abbrev t : Tables
  t = tables c l w [] []

  abbrev fate : Fate
  fate = fate_at (propagate_clause w) k t

  answer : r ≡ visited_as fate
  unfolding visit_at
  answer = ap (λ (x : Visit). x.visited) is

  after : tables c' l' w' [] [] ≡ store k fate t
  unfolding visit_at
  after = ap (λ (x : Visit). x.tables) is

  no_conflict : (r ≡ Conflict → ⊥) → fate ≡ conflict → ⊥
  no_conflict d e = d (answer ∙ ap visited_as e)

  leaves : (r ≡ Conflict → ⊥) → Left R.vars n k t fate (tables c' l' w' [] [])
  leaves d = subst (Left R.vars n k t fate) (sym after) (visit_left t R.formed k R.below (no_conflict d))

  in_pending : k < length pending
  in_pending = omega (arith, R.below, R.formed.number, L.room.0)

  cleared : Covered (set pending k false) blocks
  cleared = covered_clear L.covered k in_pending

  rest : (i : ℕ) → (i ≡ k → ⊥) → get_or pending i false ≡ true → get_or (set pending k false) i false ≡ true
  rest i d e = get_or-set_other pending k i false false d ∙ e

  -- no value is set
  pub listed_plain : (r ≡ Conflict → ⊥) → ((x : ℕ) → r ≡ MadeTrue x → ⊥) → Listed n heads places (set pending k false) blocks c' l' w'
  listed_plain d none =
      listed_after R.formed R.below L (leaves d) (set pending k false) blocks (simp length-set L.room.0, L.room.1) cleared rest (λ y e q z. absurd (none (nat_abs y) (answer ∙ ap visited_as e)))

  module _ (x : ℕ) (unit_is : r ≡ MadeTrue x) where
    solid : r ≡ Conflict → ⊥
    solid e = let z : MadeTrue x ≡ Conflict = sym unit_is ∙ e in let q : ◌≡◌ {A = ℕ} 0 1 = cc in omega arith

    small : Values R.vars t (tables c' l' w' [] []) fate → (0 < x) × (x ≤ R.vars)
    small V' = let (y, e, a) = unit_of fate x (sym answer ∙ unit_is) in by y e a fate refl V'
      where
        by : (y : ℤ) → fate ≡ unit y → nat_abs y ≡ x → (g : Fate) → fate ≡ g → Values R.vars t (tables c' l' w' [] []) g → (0 < x) × (x ≤ R.vars)
        by y e a g z (same ev none) = absurd (none y (sym z ∙ e))
        by y e a g z (one m ranged ev) =
            let s : unit m ≡ unit y = sym z ∙ e in
            let p : nat_abs m ≡ nat_abs y = ap (λ (f : Fate). elim f as (λ o. ℕ) [ kept ↦ 0 | left C ↦ 0 | dropped ↦ 0 | unit o ↦ nat_abs o | conflict ↦ 0 ]) s in
            (omega (arith, a, p, ranged.above), omega (arith, a, p, ranged.within))

    pub has_chain_unit : HasChain x heads places (set pending k false) blocks
    has_chain_unit =
        let S = small (leaves solid).values in
        record {
          vs = L.vs;
          walkable = L.walkable;
          variable = (S.0, omega (arith, S.1, R.formed.vars.few, L.rows));
          room = (simp length-set L.room.0, L.room.1);
          covered = cleared;
        }

    pub listed_unit : (pending' blocks' : List Bool) → 4096 ≤ length pending' → 64 ≤ length blocks' → PendingAll x heads places (set pending k false) pending' blocks' → Listed n heads places pending' blocks' c' l' w'
    listed_unit pending' blocks' ef eb A =
        listed_after R.formed R.below L (leaves solid) pending' blocks' (ef, eb) A.covered (λ i d e. A.still i (rest i d e))
        (λ y e q z. A.all L.vs L.walkable q (z ∙ number y e))
      where
        number : (y : ℤ) → fate ≡ unit y → nat_abs y ≡ x
        number y e = let s : MadeTrue (nat_abs y) ≡ MadeTrue x = sym (ap visited_as e) ∙ sym answer ∙ unit_is in cc

-- ---- the start

module _ {n k : ℕ} {c : List ℕ} {l w : List ℤ} (R : StandsBefore n k c l w) where
  pub linkable : Linkable n c l
  linkable = record {
    number = R.formed.number;
    records = R.formed.records;
    room = R.formed.places;
    parts = R.formed.rule.parts;
    ranged = λ i lt j h. let X = (R.formed.rule.each i lt).ranged j h in record { above = X.above; within = omega (arith, X.within, R.formed.vars.few) };
  }

  pub linking_start : (places : List ℕ) → Linking 0 0 c l (replicate 1025 0) places
  linking_start places = linking_none c l (replicate 1025 0) places (λ i. get_d_zeros 1025 i)

  pub listed_start : (heads places : List ℕ) → 1025 ≤ length heads → 32768 ≤ length places → Linking n 0 c l heads places → Listed n heads places (replicate 4096 true) (replicate 64 true) c l w
  listed_start heads places rows records K = record {
    vs = K.vs;
    walkable = record { chained = K.chained; inside = λ q h. let (i, j, e, within, b) = K.from q h in inside q i j e within b };
    rows = rows;
    occurs = λ i li x m. found i li x (mem_get_d (literals_of c l i) (pos 0) m);
    room = (omega (arith, length-replicate {A = Bool} 4096 true), omega (arith, length-replicate {A = Bool} 64 true));
    covered = record { block = λ i li e. get_or-replicate {A = Bool} 64 (i / 64) true false (omega arith) };
    quiet = λ i li e. absurd (false≢true (sym e ∙ get_or-replicate {A = Bool} 4096 i true false (omega (arith, li, R.formed.number))));
  }
    where
      numbered : (i j : ℕ) → Before i j n 0 → i < n
      numbered i j (inl b) = b
      numbered i j (inr b) = absurd (omega (arith, b.1))

      inside : (q i j : ℕ) → q ≡ start_of c i + j → j < length_of c i → Before i j n 0 → (2 * q + 1 < length places) × (owner_of places q < 4096)
      inside q i j e within b =
          let li = numbered i j b in
          (omega (arith, e, within, R.formed.rule.parts.inside i li, records), omega (arith, ap (owner_of places) e, (K.to i j within b).1, li, R.formed.number))

      found : (i : ℕ) → i < n → (x : ℤ) → (j : ℕ) × (j < length (literals_of c l i)) × (get_or (literals_of c l i) j (pos 0) ≡ x) → (q : ℕ) × (get_or K.vs q 0 ≡ nat_abs x) × (owner_of places q ≡ i)
      found i li x (j, h, e) =
          let within : j < length_of c i = omega (arith, h, part_length R.formed i li) in
          let T = K.to i j within (inl li) in
          (start_of c i + j, T.0 ∙ ap nat_abs (sym (get_or-take (length_of c i) (drop (start_of c i) l) j (pos 0) within ∙ get_or-drop (start_of c i) l j (pos 0)) ∙ e), T.1)
