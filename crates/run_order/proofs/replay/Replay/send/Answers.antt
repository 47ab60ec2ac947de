use Rattle.std.proofs.Common.{◌≡◌, subst, sym}
use Rattle.std.specs.Prelude.{OnOk}
use Rattle.run_order.proofs.Happenings.{sent_outside}
use Rattle.run_order.proofs.replay.Replay.send.Goals as goal
use Rattle.run_order.specs.OrderState.{sent_to}
use Rattle.sdl_system.specs.declared.route.Target.{Target}

pub returns-in_default-clause-leads : goal.returns-in_default-clause-leads
returns-in_default-clause-leads c = sent_outside c.args.self.now.order c.args.target c.args.item
    c.in_default.not-Instance

pub returns-clause-leads : goal.returns-clause-leads
returns-clause-leads c =
    subst (λ (t : Target). OnOk c.put.result (c.put.new.self.order ≡ sent_to c.args.self.now.order t c.args.item))
    (sym c.in-Instance.is) c.put.ensures.leads
