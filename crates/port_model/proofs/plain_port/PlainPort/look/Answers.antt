use Rattle.port_model.proofs.Ports.{coherent_left, sets_left}
use Rattle.port_model.proofs.plain_port.PlainPort.look.Goals as goal

pub invariant_of-self-in-Some-take_unsaved : goal.invariant_of-self-in-Some-take_unsaved
invariant_of-self-in-Some-take_unsaved c = (
  c.self.invariant.0,
  coherent_left c.in-Some-take_unsaved.ensures.0 c.end_timer.ensures.timers c.self.invariant.1,
  sets_left c.self.inside.sets c.in-Some-take_unsaved.unsaved.got _ c.end_timer.ensures.armed c.self.invariant.2,
)
