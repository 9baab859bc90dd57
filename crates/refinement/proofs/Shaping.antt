-- What formed tables represent is a shaped formula, every literal its own class once all clauses are settled, with the graph of the tables. Assumes nothing.
use Prim.Native.Nat.{ℕ, zero, suc, ◌+◌, ◌*◌, ◌<◌}
use native.Mathlib.Nat.{add-zero}
use native.Mathlib.Omega.{arith}
use mathlib.Core.Path.{◌≡◌, refl, sym, ap, subst, ◌∙◌}
use mathlib.Core.Bool.{Bool, false}
use mathlib.Core.List.{List, [], ◌∷◌, map, Memᴰ}
use lib.ListN.{length, get_or}
use lib.IntN.{ℤ, pos, nat_abs}
use borrow.Author.Tests.{lt-ltb}
use Rattle.stamp_walk.proofs.Graphing.{once_slots}
use Rattle.base.proofs.Lists.{mem_get_d}
use Rattle.literal.specs.Literals.{slot_of}
use Rattle.literal.proofs.Laws.{slot_below}
use Rattle.implications.specs.Clauses.{Once, implications}
use Rattle.tables.specs.Tables.{Tables, class_of}
use Rattle.tables.specs.Tables as T
use Rattle.tables.specs.Clauses.{slots_at, slots_from}
use Rattle.visits.specs.Formed.{Formed}
use Rattle.visits.proofs.Forming.{clause_fits, part_length}
use Rattle.visits.proofs.Fitting.{fit_member}
use Rattle.sound.specs.Formula.{Clause, dropped, standing, literals_in, graph}
use Rattle.sound.specs.Kept.{Shaped}
use Rattle.moves.specs.Core as core
use Rattle.moves.specs.Moves.{Owned}
use Rattle.refinement.specs.Represented.{clause_of, Represented}
use Rattle.refinement.proofs.Literals.{own_literal, class_is}
use Rattle.refinement.proofs.Propagated.{literals_at, mem_map, mem_at}
use Rattle.refinement.proofs.Standing.{clause_stands}

-- the clauses, one by one
same_slots : (c : List ℕ) (l : List ℤ) (f : List Clause) (m i : ℕ) → length f ≡ m → ((j : ℕ) → j < m → literals_in (get_or f j dropped) ≡ slots_at c l (i + j)) → map literals_in f ≡ slots_from c l m i
unfolding slots_from
same_slots c l [] zero i e h = refl
same_slots c l [] (suc m) i e h = absurd (omega (arith, e))
same_slots c l (x ∷ f) zero i e h = absurd (omega (arith, e))
same_slots c l (x ∷ f) (suc m) i e h =
    let a : literals_in x ≡ slots_at c l i = h 0 (omega arith) ∙ ap (slots_at c l) (add-zero i) in
    let b = same_slots c l f m (suc i) (let q : length f ≡ m = omega (arith, e) in q) (λ j lt. h (suc j) (omega (arith, lt)) ∙ ap (slots_at c l) (let q : i + suc j ≡ suc i + j = omega arith in q)) in
    λ z. a z ∷ b z

module _ {v n sl : ℕ} {mark : Bool} {t : Tables} {k : core.Core} (F : Formed v n sl mark t.clauses t.literals t.variables) (R : Represented v n mark t k) where
  -- a standing clause is that of a record
  pub clause_number : {C : List ℕ} → Memᴰ (standing C) k.clauses → (i : ℕ) × (i < n) × (map slot_of (literals_at t i) ≡ C)
  clause_number m =
      let r = mem_get_d k.clauses dropped m in
      let lt : r.0 < n = omega (arith, r.1, R.number) in
      (r.0, lt, (clause_stands t.clauses t.literals r.0 (sym (R.clauses r.0 lt) ∙ r.2)).1)

  pub shaped_of : Shaped v k.clauses
  shaped_of = record {
    below = λ C m l q.
        let r = clause_number m in
        let s = mem_map (literals_at t r.0) (subst (Memᴰ l) (sym r.2) q) in
        let L = fit_member (clause_fits F r.0 r.1) s.1 in
        subst (λ (x : ℕ). x < 2 * v) (sym s.2) (slot_below s.0 v L.above L.within);
    once = λ C m.
        let r = clause_number m in
        let fit = clause_fits F r.0 r.1 in
        subst Once r.2 (once_slots (literals_at t r.0) (λ j h. (fit.ranged j h).above) fit.once);
  }

  -- the graph of the formula is that of the tables
  pub slots_of : map literals_in k.clauses ≡ slots_from t.clauses t.literals n 0
  unfolding clause_of slots_at literals_in
  slots_of = same_slots t.clauses t.literals k.clauses n 0 R.number (λ j lt. ap literals_in (R.clauses j lt) ∙ by j lt (T.standing t.clauses j) refl ∙ ap (slots_at t.clauses t.literals) (let q : j ≡ 0 + j = omega arith in q))
    where
      none : (C : List ℤ) → length C ≡ 0 → [] ≡ map slot_of C
      none [] e = refl
      none (x ∷ C) e = absurd (omega (arith, e))

      by : (j : ℕ) → j < n → (x : ℕ) → T.standing t.clauses j ≡ x → literals_in (elim x as (λ y. Clause) [ zero ↦ dropped | suc _ ↦ standing (map slot_of (literals_at t j)) ]) ≡ map slot_of (literals_at t j)
      by j lt zero e = none (literals_at t j) (part_length F j lt ∙ F.rule.parts.dropped j lt e)
      by j lt (suc x) e = refl

  pub graph_of : graph k.clauses ≡ implications (slots_from t.clauses t.literals n 0)
  unfolding graph
  graph_of = ap implications slots_of

-- where all clauses are settled, every literal that stands is its own class
pub owned_of : {v n : ℕ} {t : Tables} {k : core.Core} → Formed v n n false t.clauses t.literals t.variables → Represented v n false t k → Owned k
owned_of {v} {n} {t} {k} F R C m l q =
    let r = clause_number F R m in
    let s = mem_map (literals_at t r.0) (subst (Memᴰ l) (sym r.2) q) in
    let j = mem_at (literals_at t r.0) s.1 in
    let L = fit_member (clause_fits F r.0 r.1) s.1 in
    let own = (clause_fits F r.0 r.1).own (lt-ltb r.0 n r.1) j.0 j.1 in
    ap k.class s.2 ∙ class_is R F.vars s.0 L ∙ ap slot_of (own_literal t.variables s.0 L.above (subst (λ (x : ℤ). class_of t.variables (nat_abs x) ≡ pos (nat_abs x)) (sym j.2) own)) ∙ sym s.2
