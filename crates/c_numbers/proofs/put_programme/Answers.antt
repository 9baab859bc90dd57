-- The length at the eighth place and the codes behind it. Assumes nothing.
use Rattle.std.proofs.Common.{◌≡◌, length, arith, rules}
use Rattle.c_numbers.proofs.Over.{programme_over}
use Rattle.c_numbers.proofs.put_programme.Goals as goal

pub returns : goal.returns
returns c =
    let places : length c.args.programme.codes ≡ 32 = search rules in
    programme_over c.args.programme c.copy_from_slice.new.self c.args.state.now (omega (arith, c.requires)) c.copy_from_slice.ensures.after places
