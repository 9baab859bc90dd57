-- The rule is decided by its halves: the lengths and the number, then the clauses. Assumes nothing.
use Rattle.std.proofs.Common.{refl, arith}
use Rattle.base.specs.Decide.{says_no, decides_map}
use Rattle.window.proofs.Checking.{rule_clauses, clauses_rule}
use Rattle.window.proofs.window_ok.Goals as goal
use Rattle.window.proofs.window_ok.Goals.{then-not-long_ok-via-then-not-long_ok, then-not-long_ok-via-else-not-long_ok+then-window-gt64}

pub returns-then-not-long_ok : goal.returns-then-not-long_ok
returns-then-not-long_ok c =
    elim c.then-not-long_ok.branch [
      | then-not-long_ok-via-then-not-long_ok w ↦ says_no (λ R. (c.long_ok.ensures c.args.window).fails w.if-not-long_ok.true R.long)
      | then-not-long_ok-via-else-not-long_ok+then-window-gt64 w ↦ says_no (λ R. omega (arith, R.few))
    ]

pub clauses_ok-requires : goal.clauses_ok-requires
clauses_ok-requires c = ((c.long_ok.ensures c.args.window).holds c.if-not-long_ok.false, omega arith, c.requires.0, c.requires.1, refl)

pub returns : goal.returns
returns c = decides_map (clauses_rule ((c.long_ok.ensures c.args.window).holds c.if-not-long_ok.false) (omega arith)) rule_clauses c.clauses_ok.ensures
