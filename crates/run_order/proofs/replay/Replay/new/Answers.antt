use Rattle.std.proofs.Common.{◌≡◌, ◌∙◌, ◌++◌, ◌∷◌, [], List, ap, length, map, replicate, rules, sym}
use Rattle.std.proofs.lemmas.Iterator.Adapters.{YieldsList-from_vec}
use Rattle.std.proofs.lemmas.Iterator.Consumers.{YieldsList-end}
use Rattle.std.proofs.lemmas.List.{map-id}
use Rattle.run_order.proofs.Beginning.{all_entered-push, begun_is, fresh_push, kept_begun}
use Rattle.run_order.proofs.replay.Replay.new.Goals as goal
use Rattle.run_order.specs.OrderState.{fresh}
use Rattle.run_order.specs.Roster.{RosterValue, all_entered, with_entered}
use Rattle.sdl_interp.specs.Instance.{InstanceValue}

pub loop-instance-init : goal.loop-instance-init
loop-instance-init c = record {
  members = c.new-members.ensures.items;
  roster = c.in_ok-roster.ensures ∙ ap (λ n. replicate n []) (ap length c.processes.ensures);
}

pub loop-instance-preserved : goal.loop-instance-preserved
loop-instance-preserved c =
    let yielded = c.loop-instance.yielded in
    let i = c.in-Some.instance in
    let pushed : c.push.new.self.items ≡ c.loop-instance.members.items ++ c.fresh.result ∷ [] = search rules in
    record {
      members = pushed
          ∙ (λ k. c.loop-instance.invariant.members k ++ c.fresh.ensures k ∷ [])
          ∙ sym (fresh_push yielded i);
      roster = c.in_ok-enter.ensures
          ∙ ap (λ who. with_entered c.loop-instance.roster who.process who.pid) c.who-who.ensures
          ∙ ap (λ (roster : RosterValue). with_entered roster i.who.process i.who.pid) c.loop-instance.invariant.roster
          ∙ sym (all_entered-push (replicate (length c.args.system.now.processes) []) yielded i);
    }

pub invariant_of-result : goal.invariant_of-result
invariant_of-result c =
    let a = c.in_ok-first.first in
    let started = c.into_iter-instance-iterator.ensures.into_iter_gives in
    let end = YieldsList-end (YieldsList-from_vec a.instances.items started.0 (started.1 ∙ a.instances.ok.0))
    c.loop-instance.yielded c.loop-instance.instance-iterator c.loop-instance.yielded_by c.next.result
    c.next.new.self c.in-None.is c.next.ensures.steps in
    let all : c.loop-instance.yielded ≡ a.instances.items = sym (map-id c.loop-instance.yielded) ∙ end.0 in
    kept_begun c.begin.new.agenda.ready a c.args.system.now c.loop-instance.members.items
    c.in_ok-first.ensures.serial c.in_ok-first.ensures.system
    (c.loop-instance.invariant.members ∙ ap (λ (xs : List InstanceValue). map fresh xs) all)

pub returns : goal.returns
returns c =
    let a = c.in_ok-first.first in
    let started = c.into_iter-instance-iterator.ensures.into_iter_gives in
    let end = YieldsList-end (YieldsList-from_vec a.instances.items started.0 (started.1 ∙ a.instances.ok.0))
    c.loop-instance.yielded c.loop-instance.instance-iterator c.loop-instance.yielded_by c.next.result
    c.next.new.self c.in-None.is c.next.ensures.steps in
    let all : c.loop-instance.yielded ≡ a.instances.items = sym (map-id c.loop-instance.yielded) ∙ end.0 in
    let first = all ∙ c.in_ok-first.ensures.instances in
    begun_is c.args.system.now c.args.script.now.lines.items c.begin.new.agenda.clock c.end.result
    c.loop-instance.members.items c.loop-instance.roster c.begin.new.agenda.fuses c.as_slice.result.now
    (c.begin.ensures.clock ∙ c.new-agenda.ensures.clock) (c.begin.ensures.fuses ∙ c.new-agenda.ensures.fuses)
    (c.loop-instance.invariant.members ∙ ap (λ (xs : List InstanceValue). map fresh xs) first)
    (c.loop-instance.invariant.roster
    ∙ ap (all_entered (replicate (length c.args.system.now.processes) [])) first) c.as_slice.ensures.value c.end.ensures
