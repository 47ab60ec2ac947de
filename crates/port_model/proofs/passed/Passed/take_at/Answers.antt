use Rattle.std.proofs.Common.{sym}
use Rattle.port_model.proofs.Passings.{loses, passed_without}
use Rattle.port_model.proofs.passed.Passed.take_at.Goals as goal

pub invariant_of-self : goal.invariant_of-self
invariant_of-self c =
    passed_without c.self.invariant c.args.place c.in-Some.got c.remove.new.self.entries c.forget.new.self c.remove.ensures.ordered
    (sym c.in-Some.ensures.value) c.forget.ensures c.remove.ensures.updates.0

pub returns : goal.returns
returns c =
    rw (sym c.self.view_is) (rw c.remove.ensures.entries (loses c.args.place c.in-Some.got c.self.inside.entries.entries c.self.invariant.ordered (sym c.in-Some.ensures.value)))
