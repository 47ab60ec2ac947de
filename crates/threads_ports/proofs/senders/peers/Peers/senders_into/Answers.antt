-- One sender more.
use Rattle.std.proofs.Common.{◌∙◌, ap, sym, ℕ, [], ◌∷◌, ◌++◌}
use Rattle.port_model.specs.declared.course.course.SenderInto.{SenderInto}
use Rattle.threads_ports.proofs.IntoLemmas.{into_more}
use Rattle.threads_ports.proofs.senders.peers.Peers.senders_into.Goals as goal

pub loop-place-preserved : goal.loop-place-preserved
loop-place-preserved g c =
    let port = c.in-Some.port.now in
    let into : ℕ → SenderInto = λ number. record { port = port; number = number } in
    let before = c.loop-place.list.items in
    into_more c.self.inside.senders.entries c.loop-place.place (port, c.in-Some.sender.now) before
    c.push.new.self.items
    c.loop-place.invariant (sym c.in-Some.ensures.entry)
    (c.in_ok-push.ensures.items ∙ ap (λ n. before ++ into n ∷ []) (c.get.ensures ∙ c.number.ensures))
