-- `programmes::first_offending` meets its contract: what is left from each code finds what the whole finds. Assumes nothing.
use Rattle.std.proofs.Common.{sym, ◌∙◌}
use Rattle.programmes.proofs.Judging.{walking_none, walking_found, walking_more, walking_done}
use Rattle.programmes.proofs.first_offending.Goals as goal

pub loop-i-init : goal.loop-i-init
loop-i-init c = walking_none _

pub returns-then-not-code_fits : goal.returns-then-not-code_fits
returns-then-not-code_fits c = walking_found c.loop-i.invariant c.loop-i-test.true (sym c.code_fits.ensures ∙ c.if-not-code_fits.true)

pub loop-i-preserved : goal.loop-i-preserved
loop-i-preserved c = walking_more c.loop-i.invariant c.loop-i-test.true (sym c.code_fits.ensures ∙ c.if-not-code_fits.false) c.stamped_after-stamped.result c.stamped_after-stamped.ensures

pub returns : goal.returns
returns c = walking_done c.loop-i.invariant c.loop-i-test.false
