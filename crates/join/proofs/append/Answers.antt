-- One number more.
use Rattle.std.proofs.Common.{◌<◌, pos, get_or, take, sym, ap, subst, ◌∙◌, arith}
use lib.Seq.{length-take-le, get_or-take}
use lib.Signed.{mag}
use Rattle.literal.specs.Literals.{Small}
use Rattle.literal.proofs.Signed.{read, back}
use Rattle.join.specs.FunctionContracts.{numbered_by}
use Rattle.join.proofs.Appending.{append_more, numbered_by_small}
use Rattle.join.proofs.append.Goals as goal

pub loop-i-preserved : goal.loop-i-preserved
loop-i-preserved c = let a = c.args in let i = c.loop-i.i in
    let lt : i < a.size = omega (arith, length-take-le a.size a.others.now c.requires.some) in
    let fits : mag (get_or (take a.size a.others.now) i (pos 0)) < 2147483648 = omega arith in
    let item = read (take a.size a.others.now) i fits ∙ get_or-take a.size a.others.now i (pos 0) lt in
    let e = c.renumber.ensures ∙ ap (numbered_by a.numbering.now) item in
    append_more c.loop-i.invariant lt (back (subst Small (sym e) (numbered_by_small a.numbering.now (get_or a.others.now i (pos 0)) (c.requires.small i lt))) ∙ e)
