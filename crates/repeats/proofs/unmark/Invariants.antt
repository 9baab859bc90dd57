use Rattle.std.proofs.Common.{◌≡◌, take}
use Rattle.repeats.specs.Marks.{with_mark}
use Rattle.repeats.proofs.unmark.Given as goal

-- the literals that were passed have their marks taken back
abbrev pub invariant-loop-l : goal.invariant-loop-l
invariant-loop-l l = l.marks ≡ with_mark 0 (take l.l-index l.part) l.fn.marks
