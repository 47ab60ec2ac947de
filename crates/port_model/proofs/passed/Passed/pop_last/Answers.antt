use Rattle.port_model.proofs.Passings.{passed_without}
use Rattle.port_model.proofs.passed.Passed.pop_last.Goals as goal

pub invariant_of-self-2 : goal.invariant_of-self-2
invariant_of-self-2 c =
    passed_without c.self.invariant c.in_ok-place.place c.in_ok-place.got c.pop_last.new.self.entries c.forget.new.self c.pop_last.ensures.ordered
    c.in_ok-place.ensures.value c.forget.ensures c.in_ok-place.ensures.updates.0
