-- The removal, of its three steps: the firsts are kept, their marks are taken back, and 0 is put behind them. Assumes nothing.
use Prim.Native.Nat.{ℕ, ◌-◌, ◌≤◌}
use native.Mathlib.Omega.{arith}
use mathlib.Core.Path.{◌≡◌, sym, ap, subst, ◌∙◌}
use mathlib.Core.List.{List, ◌++◌}
use lib.ListN.{length, take, drop, replicate, length-append, length-drop, length-replicate}
use lib.Seq.{take_at}
use lib.IntN.{ℤ, pos}
use Rattle.literal.specs.Literals.{Literal}
use Rattle.literal.specs.Clauses.{distinct}
use Rattle.literal.specs.Holding.{holding}
use Rattle.repeats.specs.Marks.{Markable, Unmarkable, FirstsKept, with_mark, no_marks}
use Rattle.repeats.specs.declared.Distinct.{Distinct}
use Rattle.repeats.proofs.Repeats.{All, all_of, all_at, distinct_all, distinct_short}
use Rattle.repeats.proofs.Marks.{with_mark_length, marks_back}

module _ {p : List ℤ} {m : List ℕ} {q : List ℤ} {m' : List ℕ} {r : Distinct} (M : Markable p m) (F : FirstsKept p m q m' r) where
  same : length q ≡ length p
  same = ap length F.front ∙ length-append (distinct p) (drop (length (distinct p)) p) ∙ omega (arith, length-drop (length (distinct p)) p, distinct_short p)

  pub front_within : r.count ≤ length q
  front_within = omega (arith, same, F.count, distinct_short p)

  front_is : take r.count q ≡ distinct p
  front_is = ap (take r.count) F.front ∙ take_at (distinct p) (drop (length (distinct p)) p) r.count (sym F.count)

  literals : All (Literal 1024) (distinct p)
  literals = distinct_all (Literal 1024) p (all_of (Literal 1024) p M.literals)

  marks_are : m' ≡ with_mark 1 (distinct p) no_marks
  marks_are = F.marks_set ∙ ap (with_mark 1 (distinct p)) M.blank

  pub front_unmarkable : Unmarkable (take r.count q) m'
  front_unmarkable = record {
    literals = all_at (Literal 1024) (take r.count q) (subst (All (Literal 1024)) (sym front_is) literals);
    places = ap length marks_are ∙ with_mark_length 1 (distinct p) no_marks ∙ length-replicate {A = ℕ} 2049 0;
  }

  pub marks_again : {m'' : List ℕ} → m'' ≡ with_mark 0 (take r.count q) m' → m'' ≡ m
  marks_again e = e ∙ (λ j. with_mark 0 (front_is j) (marks_are j)) ∙ marks_back (distinct p) literals ∙ sym M.blank

  pub firsts_held : {q' : List ℤ} → q' ≡ take r.count q ++ replicate (length q - r.count) (pos 0) → q' ≡ holding (distinct p) p
  firsts_held e = e ∙ (λ j. front_is j ++ replicate (same j - F.count j) (pos 0))
