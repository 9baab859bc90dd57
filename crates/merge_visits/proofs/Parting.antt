-- The returns of a visit to a part: what stands in it, and what the test of the kept literals has shown. Assumes nothing.
use Prim.Native.Nat.{ℕ, ◌-◌, ◌≤◌}
use native.Mathlib.Omega.{arith}
use mathlib.Core.Path.{◌≡◌, sym, ap, subst, ◌∙◌}
use mathlib.Core.Bool.{Bool, true, false}
use mathlib.Core.List.{List, ◌++◌, map}
use lib.ListN.{length, take, replicate, length-map, length-append, length-replicate}
use lib.IntN.{ℤ, pos}
use Rattle.literal.specs.Literals.{Literal}
use Rattle.literal.specs.Clauses.{distinct, tautology}
use Rattle.tables.specs.Values.{class_literal}
use Rattle.tables.specs.Fates.{left, dropped}
use Rattle.repeats.specs.Marks.{Markable, no_marks}
use Rattle.repeats.proofs.Repeats.{All, all_at, all_map, distinct_short}
use Rattle.visits.specs.Formed.{Known, EachKnown}
use Rattle.literal.specs.Holding.{holding}
use Rattle.visits.proofs.Known.{known_class}
use Rattle.visits.specs.Visited.{Part, part_of, part_after}
use Rattle.visits.specs.declared.Visited.TheVariants.{Left, Dropped}
use Rattle.merge_visits.specs.Clause.{merge_clause}
use Rattle.merge_visits.specs.Visits.{substituted}

-- class literals are literals of at most 1,024 variables
pub part_markable : (w p : List ℤ) {marks : List ℕ} {classes : List ℤ} → EachKnown w p → marks ≡ no_marks → classes ≡ map (class_literal w) p → Markable classes marks
part_markable w p {marks} {classes} K blank e = record {
  literals = all_at (Literal 1024) classes (subst (All (Literal 1024)) (sym e) (all_map (Literal 1024) (class_literal w) p (λ k h. ranged (known_class (K.each k h)))));
  blank = blank;
}
  where
    ranged : {l : ℤ} → Known w l → Literal 1024 l
    ranged k = record { above = k.ranged.above; within = omega (arith, k.ranged.within, k.rows.few) }

-- class literals in, and repeats out: q holds the r literals that are left of p, and b tells whether they have v and −v
pub record Reduced (w p q : List ℤ) (r : ℕ) (b : Bool) : Type 0 where
  pub classes : List ℤ
  pub substitutes : classes ≡ map (class_literal w) p
  pub count : r ≡ length (distinct classes)
  pub both : b ≡ tautology (distinct classes)
  pub held : q ≡ holding (distinct classes) classes

module _ {w p q : List ℤ} {r : ℕ} {b : Bool} (R : Reduced w p q r b) where
  abbrev p₁ : List ℤ
  p₁ = R.classes

  size : length p₁ ≡ length p
  size = ap length R.substitutes ∙ length-map p (class_literal w)

  kept : distinct p₁ ≡ substituted w p
  kept = ap distinct R.substitutes

  short : length (distinct p₁) ≤ length p
  short = omega (arith, distinct_short p₁, size)

  holds : q ≡ holding (substituted w p) p
  holds = R.held ∙ (λ j. kept j ++ replicate (size j - length (kept j)) (pos 0))

  long : length q ≡ length p
  long = ap length R.held ∙ length-append (distinct p₁) (replicate (length p₁ - length (distinct p₁)) (pos 0)) ∙ omega (arith, length-replicate (length p₁ - length (distinct p₁)) (pos 0), short, size)

  pub part_count : length p ≤ 16384 → r ≤ 16384
  part_count few = omega (arith, short, R.count)

  by_test : Bool → Part
  by_test t = part_after (elim t [ true ↦ dropped | false ↦ left (substituted w p) ]) p

  tested : {t : Bool} → b ≡ t → t ≡ tautology (substituted w p)
  tested e = sym e ∙ R.both ∙ ap tautology kept

  pub part_dropped : (q' : List ℤ) → b ≡ true → q' ≡ take 0 q ++ replicate (length q - 0) (pos 0) → part_of Dropped q' ≡ part_after (merge_clause w p) p
  unfolding by_test merge_clause
  part_dropped q' e h = ap (part_of Dropped) (h ∙ ap (λ (m : ℕ). replicate (m - 0) (pos 0)) long) ∙ ap by_test (tested e)

  pub part_left : b ≡ false → part_of (Left r) q ≡ part_after (merge_clause w p) p
  unfolding by_test merge_clause
  part_left e = (λ j. part_of (Left ((R.count ∙ ap length kept) j)) (holds j)) ∙ ap by_test (tested e)
