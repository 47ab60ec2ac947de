use Rattle.std.proofs.Common.{◌+◌, subst}
use Rattle.port_model.specs.Passed.{AreBefore}
use Rattle.port_model.proofs.Passings.{behind_last}
use Rattle.port_model.proofs.passed.Passed.next_place.Goals as goal

pub returns : goal.returns
returns c = subst (AreBefore (c.in-Some.last.now + 1)) c.self.view_is (behind_last c.in-Some.last.now c.self.inside.entries.entries c.in-Some.ensures.all_up_to)
