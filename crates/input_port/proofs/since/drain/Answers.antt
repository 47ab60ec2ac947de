use Rattle.std.proofs.Common.{◌∙◌, rules}
use Rattle.input_port.proofs.Drawing.{since_more, since_none, pull_since}
use Rattle.input_port.proofs.since.drain.Goals as goal

pub loop-init : goal.loop-init
loop-init g c = (search rules, since_none _ _)

pub loop-preserved : goal.loop-preserved
loop-preserved g c = (
  c.pull.ensures.port ∙ c.loop.invariant.0,
  since_more _ _ _ _ _ _ c.loop.invariant.1 (pull_since _ _ _ _ c.pull.result c.pull.ensures.pulled),
)
