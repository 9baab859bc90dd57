-- `programmes::programme_ok` meets its contract. Assumes nothing.
use Rattle.base.specs.Decide.{decides_map}
use Rattle.programmes.proofs.Judging.{judge_decides}
use Rattle.programmes.proofs.programme_ok.Goals as goal

pub returns-then-count-le32 : goal.returns-then-count-le32
returns-then-count-le32 c = decides_map (λ R. record { within = c.if-count-le32.true; rules = R }) (λ P. P.rules) (rw (c.is_ok.ensures.value, c.judge.ensures) (judge_decides _))
