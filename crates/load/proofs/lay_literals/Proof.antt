-- `load::lay_literals` meets its contract. Assumes nothing.
use Prim.Native.Nat.{ℕ, ◌-◌, ◌<◌}
use mathlib.Core.Path.{◌≡◌, sym, ap, subst, ◌∙◌}
use mathlib.Core.List.{List}
use lib.ListN.{length, take, drop, get_or}
use lib.IntN.{ℤ, pos}
use borrow.Rule.Slice.PartMut.{put_mid}
use Rattle.literal.specs.Literals.{Literal}
use Rattle.literal.specs.Clauses.{distinct, tautology}
use Rattle.literal.specs.Holding.{holding}
use Rattle.dimacs.specs.Numbers.{first_clause}
use Rattle.load.proofs.Steps.{part_is, part_back, literal_at, holding_length, written_is}
use borrow.Author.Rules.{rules}
use Rattle.load.proofs.lay_literals.Statement.{statement}
use Rattle.load.proofs.lay_literals.Tie as tie

-- the clause, as it was collected
abbrev clause : tie.Start → List ℤ
clause s = first_clause (drop s.args.at s.args.numbers.now)

module _ (c : tie.After-collect-end) where
  abbrev s : tie.Start
  s = c.before.before.before

  -- the part that is lent on
  lent : take (c.collect-end.result - s.args.start) (drop s.args.start c.collect-end.new.literals) ≡ clause s
  lent = ap (λ (l : List ℤ). take (c.collect-end.result - s.args.start) (drop s.args.start l)) c.collect-end.ensures.1 ∙ part_is (clause s) s.args.literals.now s.args.start c.collect-end.result c.collect-end.ensures.0 s.requires.0.room

collect-requires : tie.Need-collect-end-requires
collect-requires c κs = search rules

mul-remove-repeats : tie.Need-offset_bounds-literals-start
mul-remove-repeats c = search rules

sub-remove-repeats : tie.Need-slice_bounds-remove_repeats-count
sub-remove-repeats c = search rules

part-remove-repeats-start : tie.Need-slice_bounds-remove_repeats-start
part-remove-repeats-start c = search rules

part-remove-repeats-end : tie.Need-slice_bounds-remove_repeats-end
part-remove-repeats-end c = search rules

remove-repeats-requires : tie.Need-remove_repeats-kept-requires
remove-repeats-requires c κs = record {
  literals = subst (λ (p : List ℤ). (k : ℕ) → k < length p → Literal 1024 (get_or p k (pos 0))) (sym (lent c.before.before.before)) (literal_at 1024 (clause c.before.before.before.before.before.before) c.requires.0.ranged);
  blank = c.requires.1;
}

sub-t10 : tie.Need-overflow_sub-result
sub-t10 c = search rules

same_length : tie.Need-shape_of-literals
same_length c = search rules

same-length-2 : tie.Need-shape_of-marks
same-length-2 c = search rules

returns : tie.Need-returns
returns c = let r = c.remove_repeats-kept in let e = lent c.before.before.before.before.before.before.before in
    let d : r.new.part ≡ holding (distinct (clause c.before.before.before.before.before.before.before.before.before.before)) (clause c.before.before.before.before.before.before.before.before.before.before) = r.ensures.2 ∙ ap (λ (p : List ℤ). holding (distinct p) p) e in (
      written_is (clause c.before.before.before.before.before.before.before.before.before.before) c.args.start c.collect-end.ensures.0 (r.ensures.0 ∙ ap (λ (p : List ℤ). length (distinct p)) e) (r.ensures.1 ∙ ap (λ (p : List ℤ). tautology (distinct p)) e) (literal_at 1024 (clause c.before.before.before.before.before.before.before.before.before.before) c.requires.0.ranged),
      (
        (λ i. put_mid c.args.start (c.collect-end.result - c.args.start) (c.collect-end.ensures.1 i) (d i)) ∙ part_back (clause c.before.before.before.before.before.before.before.before.before.before) c.args.literals.now c.args.start c.collect-end.result c.collect-end.ensures.0 c.requires.0.room (holding (distinct (clause c.before.before.before.before.before.before.before.before.before.before)) (clause c.before.before.before.before.before.before.before.before.before.before)) (holding_length (clause c.before.before.before.before.before.before.before.before.before.before)),
        r.ensures.3,
      ),
    )

pub lay_literals_spec : {M : Type 1} → statement M
lay_literals_spec =
    tie.close
    (tie.spec
    collect-requires
    mul-remove-repeats
    sub-remove-repeats
    part-remove-repeats-start
    part-remove-repeats-end
    remove-repeats-requires
    sub-t10
    same_length
    same-length-2
    returns)
