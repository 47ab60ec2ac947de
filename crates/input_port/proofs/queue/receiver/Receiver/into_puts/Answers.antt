use Rattle.std.proofs.Common.{◌≡◌, subst}
use Rattle.std.specs.Prelude.{IfSome}
use Rattle.port_model.specs.Ends.{OwnerState}
use Rattle.input_port.specs.Kept.{senders_of}
use Rattle.input_port.proofs.QueueKeeping.{kept_list}
use Rattle.input_port.proofs.queue.receiver.Receiver.into_puts.Goals as goal

pub returns : goal.returns
returns c =
    subst (λ (o : OwnerState). IfSome c.into_list.result (λ list. list.items ≡ senders_of o.drawn)) c.self.view_is
    (kept_list c.self.inside.puts c.self.inside.pass.me.view.client.drawn c.into_list.result c.into_list.ensures
    c.self.invariant.3)
