use Rattle.std.proofs.Common.{◌≡◌, length, subst}
use Rattle.std.specs.Prelude.{IfSome}
use Rattle.port_model.specs.Ends.{OwnerState}
use Rattle.input_port.proofs.QueueKeeping.{kept_count}
use Rattle.input_port.proofs.queue.receiver.Receiver.drawn.Goals as goal

pub returns : goal.returns
returns c =
    subst (λ (o : OwnerState). IfSome c.count.result (λ n. n ≡ length o.drawn)) c.self.view_is
    (kept_count c.self.inside.puts c.self.inside.pass.me.view.client.drawn c.count.result c.count.ensures
    c.self.invariant.3)
