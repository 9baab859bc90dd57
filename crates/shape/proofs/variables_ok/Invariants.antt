-- The loop of `shape::variables_ok`: each variable before w is right, and its value is that of its class literal.
use Rattle.std.proofs.Common.{ℕ, ◌+◌, ◌-◌, ◌<◌}
use Rattle.shape.specs.Shape.{Variable, Spread}
use Rattle.shape.proofs.variables_ok.Given as goal

abbrev pub invariant-loop-w : goal.invariant-loop-w
invariant-loop-w l = ((u : ℕ) → u < l.w - 1 → Variable l.variables (u + 1)) × Spread (l.w - 1) l.variables
