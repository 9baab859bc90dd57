-- The tests of both sides of a pair.
use Rattle.std.proofs.Common.{◌≡◌, ℕ, get_or, ◌*◌, drop, length, sym, ap, subst, ◌∙◌, rules, arith, length-drop}
use Rattle.std.specs.Slice.Iter.{chunks_rest, chunks_size}
use Rattle.std.specs.Iterator.Adapters.{enumerate_source, enumerate_count}
use Rattle.join.specs.Links.{first_bad}
use Rattle.join.proofs.Linking.{Linking, piece_is, more_pairs, left_is, right_is, next_piece, linking_none, told, stops_left, stops_right, two, linking_more, linked_all}
use Rattle.join.proofs.link.Goals as goal
use Rattle.join.proofs.link.Goals.{then-bad_side-via-then-bad_side, then-bad_side-via-else-bad_side+then-bad_side-2}

pub loop-i-init : goal.loop-i-init
loop-i-init c = let it = c.into_iter-i-iterator.result in
    let none : enumerate_count it ≡ 0 = search rules in
    let size : chunks_size (enumerate_source it) ≡ 2 = search rules in
    let rest : chunks_rest (enumerate_source it) ≡ c.args.pairs.now = search rules in (
      subst (Linking c.args.v c.args.w c.args.pairs.now c.args.numbering.now _ _) (sym none) (linking_none c.args.v c.args.w c.args.pairs.now c.args.numbering.now c.requires.1.1),
      size,
      rest ∙ ap (λ (k : ℕ). drop (2 * k) c.args.pairs.now) (sym none),
    )

pub returns-then-bad_side : goal.returns-then-bad_side
returns-then-bad_side c = let I = c.loop-i.invariant in let k = enumerate_count c.loop-i.i-iterator in let s = c.in-Some.ensures.steps in
    let r : c.unwrap_or-r.result ≡ get_or c.in-Some.pair.now 1 0 = search rules in
    let P = piece_is I.2 I.1 s.0.1.0 s.0.1.1 s.0.1.2 in
    let left = told c.requires.0 I.0.lefts_are (left_is P) c.bad_side.ensures in
    let bad : k ≡ first_bad c.args.v c.args.w c.args.pairs.now = elim c.then-bad_side.branch [
      | then-bad_side-via-then-bad_side w ↦ stops_left I.0 (more_pairs P) (sym left ∙ w.if-bad_side.true)
      | then-bad_side-via-else-bad_side+then-bad_side-2 w ↦
          let right = told c.requires.1.0 I.0.rights_are (r ∙ right_is P) w.bad_side-else-bad_side.ensures in
          stops_right I.0 (more_pairs P) (sym left ∙ w.if-bad_side.false) (sym right ∙ w.if-bad_side-2.true)
    ] in
    (s.1 ∙ bad, omega (arith, s.1, more_pairs P))

pub loop-i-preserved : goal.loop-i-preserved
loop-i-preserved c = let I = c.loop-i.invariant in let a = c.args in let s = c.in-Some.ensures.steps in
    let r : c.unwrap_or-r.result ≡ get_or c.in-Some.pair.now 1 0 = search rules in
    let P = piece_is I.2 I.1 s.0.1.0 s.0.1.1 s.0.1.2 in
    let left = sym (told c.requires.0 I.0.lefts_are (left_is P) c.bad_side.ensures) ∙ c.if-bad_side.false in
    let right = sym (told c.requires.1.0 I.0.rights_are (r ∙ right_is P) c.bad_side-else-bad_side.ensures) ∙ c.if-bad_side-2.false in (
      subst (Linking a.v a.w a.pairs.now _ _ _) (sym s.2) (linking_more I.0 (more_pairs P) c.requires.0 c.requires.1.0 left right (left_is P) (r ∙ right_is P)),
      s.0.0 ∙ I.1,
      next_piece P (two I.0 (more_pairs P) c.requires.0 c.requires.1.0 left right) ∙ ap (λ (k : ℕ). drop (2 * k) a.pairs.now) (sym s.2),
    )

pub returns : goal.returns
returns c = let I = c.loop-i.invariant in let k = enumerate_count c.loop-i.i-iterator in
    linked_all I.0 (omega (arith, c.in-None.ensures.steps.0.1.0, ap length I.2, length-drop (2 * k) c.args.pairs.now))
