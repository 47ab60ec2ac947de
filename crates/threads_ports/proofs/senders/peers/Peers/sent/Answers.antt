-- The signals that are counted are those that are listed.
use Rattle.std.proofs.Common.{◌∙◌, ap, length, Option}
use Rattle.port_model.specs.Put.{of}
use Rattle.input_port.specs.QueueEnds.{SenderState}
use Rattle.threads_ports.proofs.Signals.{count_by-signals}
use Rattle.threads_ports.proofs.SenderLemmas.{put_in}
use Rattle.threads_ports.specs.Peers.{PeersState, put_to}
use Rattle.threads_ports.proofs.senders.peers.Peers.sent.Goals as goal

pub returns-in-Some : goal.returns-in-Some
returns-in-Some g c =
    let sender = c.in-Some.sender.now in
    c.sent.ensures ∙ count_by-signals (of sender.number sender.seen)
    ∙ ap (λ (s : Option SenderState). length (put_in s)) c.in-Some.ensures.value
    ∙ ap (λ (l : PeersState). length (put_to l c.args.number)) c.self.view_is
