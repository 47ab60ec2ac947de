use Rattle.port_model.proofs.Ports.{coherent_left, sets_left}
use Rattle.port_model.proofs.plain_port.PlainPort.take_priority.Goals as goal

pub invariant_of-self-in-Some : goal.invariant_of-self-in-Some
invariant_of-self-in-Some c = (
  c.self.invariant.0,
  coherent_left c.in-Some.ensures.0 c.end_timer.ensures.timers c.self.invariant.1,
  sets_left c.self.inside.sets c.in-Some.got _ c.end_timer.ensures.armed c.self.invariant.2,
)
