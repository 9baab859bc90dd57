-- What the records from variable w on give is still to be written (`Putting`).
use Rattle.std.proofs.Common.{◌-◌}
use Rattle.write.specs.Gathered.{class_at}
use Rattle.write.proofs.Gathering.{Putting}
use Rattle.write.proofs.put_classes.Given as goal

abbrev pub invariant-loop-w : goal.invariant-loop-w
invariant-loop-w l = Putting (class_at l.variables) l.v l.fn.writer (l.w - 1) l.writer
