-- The call test by test; exactly when it answers (`compare_given`), and its answer the other way round (`compared_exchanged`). Assumes nothing.
use Prim.Native.Nat.{ℕ, ◌≤◌, ◌<◌}
use native.Mathlib.Omega.{arith}
use mathlib.Core.Path.{◌≡◌, refl, sym, ap, ◌∙◌}
use mathlib.Core.Bool.{Bool, true, false, ◌&&◌, and-false, and_comm}
use mathlib.Core.List.{List, []}
use lib.Dec.{leb}
use lib.ListN.{length}
use lib.IntN.{ℤ, nat_abs}
use borrow.Author.Tests.{leb-true, le-leb, lt-leb, lt-ltb}
use Rattle.std.specs.Prelude.{Result, Ok, Err}
use Rattle.base.proofs.Booleans.{and_left, and_right, and_both}
use Rattle.literal.specs.Literals.{Literal, in_range, slot_of}
use Rattle.literal.proofs.Signed.{InRange, in_range_lem}
use Rattle.literal.proofs.Laws.{literal_tested}
use Rattle.state.specs.declared.Refusal.{Refusal}
use Rattle.state.specs.declared.Refusal.TheVariants.{Shape}
use Rattle.intervals.specs.declared.Relation.{Relation}
use Rattle.intervals.specs.Intervals.{interval, compare}
use Rattle.intervals.proofs.Comparing.{compare_exchanged}
use Rattle.stamp_columns.specs.Columns.{columns}
use Rattle.stamp_columns.specs.Intervals.{relation}
use Rattle.stamp_columns.proofs.Columns.{column_discovery, column_finishes}
use Rattle.compare.specs.Compare.{interval_of, has_record, comparable, compare_call, MayCompare, other_way}

-- ---- refused

module _ (times : List ℕ) (v : ℕ) (p q : ℤ) where
  refused : comparable times v p q ≡ false → Err Shape ≡ compare_call times v p q
  unfolding compare_call
  refused e = sym (rw (e, compare_call))

  pub refused_short : length times < 4096 → Err Shape ≡ compare_call times v p q
  refused_short lt = refused (ap (λ (b : Bool). b && (has_record v p && has_record v q)) (lt-leb 4096 (length times) lt))

  pub refused_first : has_record v p ≡ false → Err Shape ≡ compare_call times v p q
  refused_first e = refused (ap (λ (b : Bool). leb 4096 (length times) && (b && has_record v q)) e ∙ and-false (leb 4096 (length times)))

  pub refused_second : has_record v q ≡ false → Err Shape ≡ compare_call times v p q
  refused_second e = refused (ap (λ (b : Bool). leb 4096 (length times) && (has_record v p && b)) e ∙ ap (λ (b : Bool). leb 4096 (length times) && b) (and-false (has_record v p)) ∙ and-false (leb 4096 (length times)))

  -- ---- answered

  pub answered : 4096 ≤ length times → has_record v p ≡ true → has_record v q ≡ true → compare_call times v p q ≡ Ok (compare (interval_of times p) (interval_of times q))
  unfolding compare_call
  answered le e f = rw (and_both (leb 4096 (length times)) (has_record v p && has_record v q) (le-leb 4096 (length times) le) (and_both (has_record v p) (has_record v q) e f), compare_call)

-- the records of two literals
relation_is : (times : List ℕ) (p q : ℤ) → relation (columns times []) (slot_of p) (slot_of q) ≡ compare (interval_of times p) (interval_of times q)
relation_is times p q = λ i. compare (interval (column_discovery times [] (slot_of p) i) (column_finishes times [] (slot_of p) i)) (interval (column_discovery times [] (slot_of q) i) (column_finishes times [] (slot_of q) i))

pub answered_by : (times : List ℕ) (v : ℕ) (p q : ℤ) → 4096 ≤ length times → has_record v p ≡ true → has_record v q ≡ true → {a b : ℕ} → a ≡ slot_of p → b ≡ slot_of q → {r : Relation} → r ≡ relation (columns times []) a b
    → Ok r ≡ compare_call times v p q
answered_by times v p q le e f i j k = ap Ok (k ∙ (λ d. relation (columns times []) (i d) (j d)) ∙ relation_is times p q) ∙ sym (answered times v p q le e f)

-- ---- the other way round: the viewer need not ask twice

pub compared_exchanged : (times : List ℕ) (v : ℕ) (p q : ℤ) → compare_call times v q p ≡ other_way (compare_call times v p q)
unfolding compare_call
compared_exchanged times v p q = ap (λ (b : Bool). elim b as (λ _. Result Relation Refusal) [ true ↦ Ok (compare (interval_of times q) (interval_of times p)) | false ↦ Err Shape ]) (ap (λ (b : Bool). leb 4096 (length times) && b) (and_comm (has_record v q) (has_record v p))) ∙ go (comparable times v p q)
  where
    go : (b : Bool) → ◌≡◌ {A = Result Relation Refusal} (elim b [ true ↦ Ok (compare (interval_of times q) (interval_of times p)) | false ↦ Err Shape ]) (other_way (elim b [ true ↦ Ok (compare (interval_of times p) (interval_of times q)) | false ↦ Err Shape ]))
    go true = ap Ok (compare_exchanged (interval_of times p) (interval_of times q))
    go false = refl

-- ---- a literal that has a record

pub record_known : (v : ℕ) (p : ℤ) → has_record v p ≡ true → InRange p 1024
record_known v p e = in_range_lem p 1024 (and_left (in_range p 1024) (in_range p v) e)

has_record_lem : {v : ℕ} {p : ℤ} → Literal 1024 p → Literal v p → has_record v p ≡ true
has_record_lem {v} {p} R L =
    and_both (in_range p 1024) (in_range p v) (literal_tested {l = p} {v = 1024} (omega arith) R)
    (rw (lt-ltb 0 (nat_abs p) L.above, lt-ltb (nat_abs p) 2147483648 (omega (arith, R.within)), le-leb (nat_abs p) v L.within))

-- every literal of at most 1,024 variables does
pub literal_has_record : {v : ℕ} {p : ℤ} → v ≤ 1024 → Literal v p → has_record v p ≡ true
literal_has_record {v} {p} few L = has_record_lem {v = v} {p = p} (record { above = L.above; within = omega (arith, L.within, few) }) L

-- ---- exactly when an answer is given

ranged : (v : ℕ) (p : ℤ) → in_range p v ≡ true → Literal v p
ranged v p e = let R = in_range_lem p v e in record { above = R.above; within = R.within }

record_literals : (v : ℕ) (p : ℤ) → has_record v p ≡ true → Literal 1024 p × Literal v p
record_literals v p e = (ranged 1024 p (and_left (in_range p 1024) (in_range p v) e), ranged v p (and_right (in_range p 1024) (in_range p v) e))

comparable_rule : (times : List ℕ) (v : ℕ) (p q : ℤ) → comparable times v p q ≡ true → MayCompare times v p q
comparable_rule times v p q e =
    let both = and_right (leb 4096 (length times)) (has_record v p && has_record v q) e in
    let f = record_literals v p (and_left (has_record v p) (has_record v q) both) in
    let g = record_literals v q (and_right (has_record v p) (has_record v q) both) in
    record { long = leb-true 4096 (length times) (and_left (leb 4096 (length times)) _ e); first = f.1; second = g.1; first_record = f.0; second_record = g.0 }

-- the answer where the rule holds, refusal 1 where it does not
pub compare_given : (times : List ℕ) (v : ℕ) (p q : ℤ)
    → (MayCompare times v p q → compare_call times v p q ≡ Ok (compare (interval_of times p) (interval_of times q)))
    × ((MayCompare times v p q → ⊥) → compare_call times v p q ≡ Err Shape)
compare_given times v p q = (
  λ M. answered times v p q M.long (has_record_lem {v = v} {p = p} M.first_record M.first) (has_record_lem {v = v} {p = q} M.second_record M.second),
  λ none. go (comparable times v p q) refl none,
)
  where
    go : (b : Bool) → comparable times v p q ≡ b → (MayCompare times v p q → ⊥) → compare_call times v p q ≡ Err Shape
    go true e none = absurd (none (comparable_rule times v p q e))
    go false e none = sym (refused times v p q e)
