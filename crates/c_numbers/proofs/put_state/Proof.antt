-- `c_numbers::put_state` meets its contract: the programme's numbers and seven stores before them are forty numbers over the front. Assumes nothing.
use native.Mathlib.Omega.{arith}
use mathlib.Core.Path.{◌∙◌}
use mathlib.Core.List.{[], ◌∷◌}
use lib.ListN.{length-set}
use Rattle.c_numbers.specs.StateNumbers.{put_front, put_state}
use Rattle.c_numbers.proofs.Over.{seven_over, before_programme}
use borrow.Author.Rules.{rules}
use Rattle.c_numbers.proofs.put_state.Statement.{statement}
use Rattle.c_numbers.proofs.put_state.Tie as tie

put-programme-requires : tie.Need-put_programme-requires
put-programme-requires c κs = search rules

slice-write-state : tie.Need-bounds-state-0
slice-write-state c = search rules

slice-write-state-2 : tie.Need-bounds-state-1
slice-write-state-2 c = simp length-set (omega (arith, c.put_programme.auto.state, c.requires))

pass-number-requires : tie.Need-pass_number-requires
pass-number-requires c κs = search rules

slice-write-state-3 : tie.Need-bounds-state-2
slice-write-state-3 c = simp length-set (omega (arith, c.put_programme.auto.state, c.requires))

cursor-number-requires : tie.Need-cursor_number-requires
cursor-number-requires c κs = search rules

slice-write-state-4 : tie.Need-bounds-state-3
slice-write-state-4 c = simp length-set (omega (arith, c.put_programme.auto.state, c.requires))

changed-number-requires : tie.Need-changed_number-requires
changed-number-requires c κs = search rules

slice-write-state-5 : tie.Need-bounds-state-4
slice-write-state-5 c = simp length-set (omega (arith, c.put_programme.auto.state, c.requires))

digit-requires : tie.Need-digit-requires
digit-requires c κs = search rules

slice-write-state-6 : tie.Need-bounds-state-5
slice-write-state-6 c = simp length-set (omega (arith, c.put_programme.auto.state, c.requires))

digit-requires-2 : tie.Need-digit-requires-2
digit-requires-2 c κs = search rules

slice-write-state-7 : tie.Need-bounds-state-6
slice-write-state-7 c = simp length-set (omega (arith, c.put_programme.auto.state, c.requires))

same_length : tie.Need-shape_of-state
same_length c = search rules

returns : tie.Need-returns
unfolding put_state
returns c =
    let st = c.args.st in
    let old = c.args.state.now in
    seven_over _ _ _ _ _ _ _ c.put_programme.new.state (omega (arith, c.put_programme.auto.state, c.requires))
    ∙ (λ i. put_front (st.v ∷ st.n ∷ c.pass_number.ensures i ∷ c.cursor_number.ensures i ∷ c.changed_number.ensures i ∷ c.digit.ensures i ∷ c.digit-2.ensures i ∷ []) (c.put_programme.ensures i))
    ∙ before_programme _ _ _ _ _ _ _ st.programme old (omega (arith, c.requires))

pub put_state_spec : {M : Type 1} → statement M
put_state_spec =
    tie.close
    (tie.spec
    put-programme-requires
    slice-write-state
    slice-write-state-2
    pass-number-requires
    slice-write-state-3
    cursor-number-requires
    slice-write-state-4
    changed-number-requires
    slice-write-state-5
    digit-requires
    slice-write-state-6
    digit-requires-2
    slice-write-state-7
    same_length
    returns)
