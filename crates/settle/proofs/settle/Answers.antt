-- Both passes are repeated, or they have been done for the last time. Assumes nothing.
use Rattle.std.proofs.Common.{refl, true, false}
use Rattle.settle.proofs.Settling.{settling_none, settling_done, settling_less, settling_next}
use Rattle.settle.proofs.settle.Goals as goal

pub loop-next-init : goal.loop-next-init
loop-next-init c = settling_none c.requires

pub settle_once-requires : goal.settle_once-requires
settle_once-requires c = c.loop-next.invariant.formed

pub returns-in-Break : goal.returns-in-Break
returns-in-Break c =
    let x = c.settle_once in
    settling_done c.loop-next.invariant c.in-Break.last false x.new.clauses x.new.literals x.new.variables c.in-Break.ensures refl

pub loop-next-smaller : goal.loop-next-smaller
loop-next-smaller c =
    let x = c.settle_once in
    settling_less c.loop-next.invariant c.in-Continue.next true x.new.clauses x.new.literals x.new.variables c.in-Continue.ensures refl

pub loop-next-preserved : goal.loop-next-preserved
loop-next-preserved c =
    let x = c.settle_once in
    settling_next c.loop-next.invariant c.in-Continue.next true x.new.clauses x.new.literals x.new.variables c.in-Continue.ensures refl x.auto.clauses x.auto.literals x.auto.variables
