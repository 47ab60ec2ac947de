use Rattle.std.proofs.Common.{ap, ◌∙◌}
use Rattle.std.proofs.lemmas.Bool.{both_ways}
use Rattle.port_model.proofs.Table.{armed_in, has_none, has_timer, renewed_lists, renewed_table, set_to, timers_of}
use Rattle.port_model.proofs.timers.Timers.renew.Goals as goal

pub unreachable-requires : goal.unreachable-requires
unreachable-requires c = both_ways _ (has_none c.args.key.now _ c.self.view_is c.in_default-get_mut.ensures.value).is_active c.requires.active

pub invariant_of-self-2 : goal.invariant_of-self-2
invariant_of-self-2 c =
    rw (c.get_mut.follows.holds (set_to c.args.arm c.args.due)).0
    (renewed_table c.args.key.now c.self.view_is c.self.invariant c.in-Some.ensures.value c.args.arm c.args.due c.requires.later
    _ _ c.in_default.ensures.updates.0 c.unschedule.ensures)

pub returns : goal.returns
returns c =
    let now = (c.get_mut.follows.holds (set_to c.args.arm c.args.due)).0 in
    let lists = renewed_lists c.args.key.now c.self.view_is c.self.invariant c.in-Some.ensures.value c.args.arm c.args.due c.requires.later in record {
      timers = ap timers_of now ∙ lists.0;
      armed = ap armed_in now ∙ lists.1;
      waited = (has_timer c.args.key.now c.self.view_is c.self.invariant c.in-Some.ensures.value).is_waiting;
    }
