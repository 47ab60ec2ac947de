use Rattle.std.proofs.Common.{◌∙◌, sym, ap, subst}
use Rattle.port_model.specs.PlainPort.{AreUpTo, PlainPortValue}
use Rattle.port_model.specs.Port.{expires}
use Rattle.port_model.proofs.Coherence.{coherent_is, coherent_expired}
use Rattle.port_model.proofs.plain_port.PlainPort.expire_reserved.Goals as goal

pub invariant_of-self : goal.invariant_of-self
invariant_of-self c =
    let yes = ap (λ (p : PlainPortValue). expires p.state c.args.key c.args.arm c.args.due c.args.at) c.self.view_is ∙ sym c.if-not-expires.ensures in (
      c.self.invariant.0,
      coherent_is _ _ _ _ c.push_reserved.ensures c.expire.ensures.timers
          (coherent_expired c.args.key c.args.arm c.args.due c.args.at _ _ yes c.self.invariant.1),
      subst (AreUpTo c.self.inside.sets) (sym c.expire.ensures.armed) c.self.invariant.2,
    )
