-- A signal that comes back is sent by a new sender.
use Rattle.std.proofs.Common.{subst}
use Rattle.threads_instance.proofs.Puts.{sent_later}
use Rattle.threads_ports.specs.Peers.{GivesBack}
use Rattle.threads_ports.specs.declared.senders.not_put.NotPut.{NotPut}
use Rattle.threads_instance.proofs.thread_world.send.Goals as goal

pub returns-in-Err-Unknown-clause-ok : goal.returns-in-Err-Unknown-clause-ok
returns-in-Err-Unknown-clause-ok g c =
    let old = c.args.outbox.now in
    let back = subst (λ (b : NotPut). GivesBack b c.args.item c.args.number old.peers) c.in-Err-Unknown.field-0-is
    c.in-Err-Unknown.ensures.back in
    sent_later c.send_first.result old c.put.new.self c.send_first.new.outbox c.args.number c.args.item
    c.in-Err-Unknown.back back.0 c.in-Err-Unknown.ensures.sent c.send_first.ensures.ok
