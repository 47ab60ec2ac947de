use Rattle.std.proofs.Common.{true, sym, ap, ◌∙◌}
use Rattle.std.proofs.lemmas.Bool.{both_ways}
use Rattle.port_model.proofs.Table.{armed_in, expired_lists, expired_table, has_none, timers_of}
use Rattle.port_model.proofs.timers.Timers.expire.Goals as goal

pub unreachable-requires : goal.unreachable-requires
unreachable-requires c =
    both_ways _ (sym ((has_none c.args.key.now _ c.self.view_is c.in_default.ensures.value).is_running c.args.arm c.args.due)) c.requires

pub invariant_of-self : goal.invariant_of-self
invariant_of-self c =
    rw (c.get_mut.follows.holds (record c.in-Some.timer.now { waits = true })).0
    (expired_table c.args.key.now c.self.view_is c.self.invariant c.in-Some.ensures.value _ c.unschedule.ensures)

pub returns : goal.returns
returns c =
    let now = (c.get_mut.follows.holds (record c.in-Some.timer.now { waits = true })).0 in
    let lists = expired_lists c.args.key.now c.self.view_is c.self.invariant c.in-Some.ensures.value c.args.arm c.args.due c.requires in
    record { timers = ap timers_of now ∙ lists.0; armed = ap armed_in now ∙ lists.1 }
