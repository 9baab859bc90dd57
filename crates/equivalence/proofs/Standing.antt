-- THE THEOREM on Write: an assignment satisfies what stands exactly if it satisfies the clauses that Write gives. Under the mark none satisfies either. Assumes nothing.
use Prim.Native.Nat.{ℕ, zero, suc, ◌+◌, ◌-◌, ◌<◌}
use native.Mathlib.Omega.{arith}
use mathlib.Core.Path.{◌≡◌, refl, sym, ap, ◌∙◌, subst}
use mathlib.Core.Bool.{Bool, true, false, not, false≢true}
use mathlib.Core.Logic.{◌↔◌}
use mathlib.Core.List.{List, ◌++◌}
use lib.IntN.{ℤ, pos, negsuc, neg_ℤ, nat_abs}
use lib.Signed.{non_neg}
use Rattle.base.proofs.Booleans.{clash}
use Rattle.literal.specs.Literals.{sign_by}
use Rattle.literal.specs.Assignments.{Assignment, truth_by, true_under, some_true, Satisfies}
use Rattle.state.specs.declared.State.{State}
use Rattle.tables.specs.Tables.{Tables, standing, class_of, value_of}
use Rattle.tables.specs.Values.{own_truth}
use Rattle.tables.specs.Clauses.{literals_of}
use Rattle.tables.specs.Stands.{Stands}
use Rattle.shape.specs.Shape.{Shape}
use Rattle.write.specs.Write.{written_clauses}
use Rattle.write.specs.Gathered.{gathered, unit_at, class_at, written_at, formula}
use Rattle.write.proofs.Bounds.{ready}
use Rattle.write.proofs.Text.{written_marked, written_unmarked}
use Rattle.equivalence.proofs.Stands.{Own as OwnBy, Valued as ValuedBy, Classed as ClassedBy}
use Rattle.equivalence.proofs.Satisfying.{satisfies_both, satisfies_each, gathered_satisfies, satisfies_gathered}
use Rattle.equivalence.proofs.Records.{own_unit_says, class_says, clause_says}

-- ---- a value carried to another variable

neg_one : (x : ℤ) → neg_ℤ x ≡ pos 1 → x ≡ negsuc 0
neg_one (pos zero) e = absurd (let z : ◌≡◌ {A = ℕ} 0 1 = cc in omega arith)
neg_one (pos (suc n)) e = absurd (let z : ◌≡◌ {A = ℕ} 0 1 = cc in omega arith)
neg_one (negsuc n) e = cc

neg_minus : (x : ℤ) → neg_ℤ x ≡ negsuc 0 → x ≡ pos 1
neg_minus (pos zero) e = absurd (let z : ◌≡◌ {A = ℕ} 0 1 = cc in omega arith)
neg_minus (pos (suc n)) e = cc
neg_minus (negsuc n) e = absurd (let z : ◌≡◌ {A = ℕ} 0 1 = cc in omega arith)

-- a value and a truth that agree, with the same sign carried to both
carried : (s : Bool) (x : ℤ) (b : Bool) → (x ≡ pos 1 → b ≡ true) × (x ≡ negsuc 0 → b ≡ false) → (sign_by s x ≡ pos 1 → truth_by s b ≡ true) × (sign_by s x ≡ negsuc 0 → truth_by s b ≡ false)
carried true x b f = f
carried false x b f = (λ e. ap not (f.1 (neg_one x e)), λ e. ap not (f.0 (neg_minus x e)))

module _ (t : Tables) (st : State) (S : Shape t st) (τ : Assignment) where
  -- ---- the units, the class clauses and the standing clauses of all records

  abbrev units : List (List ℤ)
  units = gathered (unit_at t.variables) st.v 0

  abbrev classes : List (List ℤ)
  classes = gathered (class_at t.variables) st.v 0

  abbrev clauses : List (List ℤ)
  clauses = gathered (written_at t.clauses t.literals) st.n 0

  -- variable w + 1 is its own class; has the value that its record says, if any; equals its class literal
  abbrev Own : ℕ → Type 0
  Own = OwnBy t τ

  abbrev Valued : ℕ → Type 0
  Valued = ValuedBy t τ

  abbrev Classed : ℕ → Type 0
  Classed = ClassedBy t τ

  unit_at_lem : (w : ℕ) → w < st.v → Satisfies τ (unit_at t.variables w) ↔ (Own w → Valued w)
  unit_at_lem w h = own_unit_says τ (w + 1) (class_of t.variables (w + 1)) (value_of t.variables (w + 1)) (omega arith) (S.variables w h).value

  class_at_lem : (w : ℕ) → w < st.v → Satisfies τ (class_at t.variables w) ↔ Classed w
  class_at_lem w h = class_says τ (w + 1) (class_of t.variables (w + 1)) (omega arith) (S.variables w h).class.above

  clause_at : (i : ℕ) → i < st.n → Satisfies τ (written_at t.clauses t.literals i) ↔ (standing t.clauses i ≡ 1 → some_true τ (literals_of t.clauses t.literals i) ≡ true)
  clause_at i h = clause_says τ (standing t.clauses i) (literals_of t.clauses t.literals i) (S.clauses.parts.flag i h)

  -- a variable has its value if those that are their own class have theirs and each equals its class literal, since its value is that of its class literal
  values_follow : ((u : ℕ) → u < st.v → Own u → Valued u) → ((u : ℕ) → u < st.v → Classed u) → (w : ℕ) → w < st.v → Valued w
  values_follow valued classed w h = (λ e. classed w h ∙ says.0 (sym (S.values w h) ∙ e), λ e. classed w h ∙ says.1 (sym (S.values w h) ∙ e))
    where
      c : ℤ
      c = class_of t.variables (w + 1)

      place : nat_abs c - 1 + 1 ≡ nat_abs c
      place = omega (arith, (S.variables w h).class.above)

      own : Valued (nat_abs c - 1)
      own = valued (nat_abs c - 1) (omega (arith, (S.variables w h).class.above, (S.variables w h).class.within)) (rw place (S.variables w h).own)

      says : (own_truth t.variables c ≡ pos 1 → true_under τ c ≡ true) × (own_truth t.variables c ≡ negsuc 0 → true_under τ c ≡ false)
      says = carried (non_neg c) (value_of t.variables (nat_abs c)) (τ (nat_abs c)) (rw place at own)

  formula_stands : st.mark ≡ false → Stands t st τ ↔ Satisfies τ (formula t.clauses t.literals t.variables st.v st.n)
  formula_stands off = (
    λ s. satisfies_both τ units (classes ++ clauses)
        (gathered_satisfies τ (unit_at t.variables) st.v (λ w h. (unit_at_lem w h).1 (λ own. (s.truths w h, s.falsehoods w h))))
        (satisfies_both τ classes clauses
        (gathered_satisfies τ (class_at t.variables) st.v (λ w h. (class_at_lem w h).1 (s.classes w h)))
        (gathered_satisfies τ (written_at t.clauses t.literals) st.n (λ i h. (clause_at i h).1 (s.clauses i h)))),
    λ s.
        let front = satisfies_each τ units (classes ++ clauses) s in
        let back = satisfies_each τ classes clauses front.1 in
        let valued : (w : ℕ) → w < st.v → Own w → Valued w = λ w h. (unit_at_lem w h).0 (satisfies_gathered τ (unit_at t.variables) st.v front.0 w h) in
        let classed : (w : ℕ) → w < st.v → Classed w = λ w h. (class_at_lem w h).0 (satisfies_gathered τ (class_at t.variables) st.v back.0 w h) in
        record {
          unmarked = off;
          clauses = λ i h. (clause_at i h).0 (satisfies_gathered τ (written_at t.clauses t.literals) st.n back.1 i h);
          classes = classed;
          truths = λ w h. (values_follow valued classed w h).0;
          falsehoods = λ w h. (values_follow valued classed w h).1;
        },
  )

  -- ---- the clauses that Write gives

  pub written_stands : Stands t st τ ↔ Satisfies τ (written_clauses t st)
  unfolding Satisfies
  written_stands = go st.mark refl
    where
      go : (b : Bool) → st.mark ≡ b → Stands t st τ ↔ Satisfies τ (written_clauses t st)
      go true e = (λ s. clash e s.unmarked, λ s. absurd (false≢true (subst (Satisfies τ) (written_marked t st e) s).0))
      go false e = subst (λ (cs : List (List ℤ)). Stands t st τ ↔ Satisfies τ cs) (sym (written_unmarked t st e (ready t st S))) (formula_stands e)
