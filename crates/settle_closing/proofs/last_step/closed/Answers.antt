-- What is known of the instance as it is closed is kept.
use Rattle.std.proofs.Common.{◌∙◌, List, subst, sym, true}
use Rattle.port_model.specs.declared.values.value.Value.{Value}
use Rattle.settle_closing.proofs.Stepping.{is_left}
use Rattle.settle_closing.proofs.last_step.closed.Goals as goal
use Rattle.threads_instance.specs.RunBy.{HasRunBy}
use Rattle.threads_instance.specs.ThreadInstance.{HasPut}
use Rattle.threads_ports.specs.Peers.{PeersState}

pub new-requires : goal.new-requires
new-requires g c =
    let left = c.close-left.result in
    let i = c.args.instance.instance in
    let effects = c.args.instance.effects in
    is_left g.J.Run.system g.J.Run.ports c.args.whole i left.trace left.inbox.owner left.peers left.gifts.given
    left.gifts.children.items c.close-left.ensures.closed effects
    (subst (λ (given : List Value). HasRunBy true i given effects) (sym c.close-left.ensures.given) c.has_run.ensures.run)
    (c.close-left.ensures.children ∙ c.has_run.ensures.children) c.requires c.is_seated.ensures
    c.close-left.ensures.inbox
    (subst (λ (peers : PeersState). HasPut i peers) (sym c.close-left.ensures.peers) c.has_put.ensures.put)
