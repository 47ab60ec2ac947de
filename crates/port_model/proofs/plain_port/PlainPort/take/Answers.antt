use Rattle.port_model.proofs.Ports.{coherent_left, head_leaves, sets_left}
use Rattle.port_model.proofs.plain_port.PlainPort.take.Goals as goal

pub invariant_of-self : goal.invariant_of-self
invariant_of-self c =
    let got = c.take_first-got.result in
    let taken = c.take_first-got.ensures in
    let leaves = head_leaves c.self.inside.waiting c.take_first-got.new.self got c.in-Some.ensures taken.rest taken.passed in (
      c.self.invariant.0,
      coherent_left leaves.0 c.end_timer.ensures.timers c.self.invariant.1,
      sets_left c.self.inside.sets got _ c.end_timer.ensures.armed c.self.invariant.2,
    )
