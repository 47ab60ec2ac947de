-- Into which ports the senders put, one more at a time.
use Rattle.std.proofs.Common.{◌≡◌, ◌∙◌, ◌+◌, ap, arith, slice_get, sym, take, zero, suc, ℕ, List, [], ◌∷◌, ◌++◌, Some}
use Rattle.std.proofs.lemmas.Option.{none-some, same_Some}
use Rattle.input_port.specs.QueueEnds.{SenderState}
use Rattle.port_model.specs.declared.course.course.SenderInto.{SenderInto}
use Rattle.threads_ports.specs.Peers.{PeersState, sender_into, senders_into}

one_more : (peers : PeersState) (place : ℕ) (peer : ℕ × SenderState) → slice_get peers place ≡ Some peer
    → senders_into (take (suc place) peers) ≡ senders_into (take place peers) ++ sender_into peer ∷ []
one_more [] place peer here = absurd (none-some peer here)
one_more (e ∷ es) zero peer here = ap (λ p. sender_into p ∷ []) (same_Some e peer here)
one_more (e ∷ es) (suc place) peer here = ap (λ l. sender_into e ∷ l) (one_more es place peer here)

pub into_more : (peers : PeersState) (place : ℕ) (peer : ℕ × SenderState) (list more : List SenderInto)
    → list ≡ senders_into (take place peers) → slice_get peers place ≡ Some peer → more ≡ list ++ sender_into peer ∷ []
    → more ≡ senders_into (take (place + 1) peers)
into_more peers place peer list more so_far here is =
    let on : suc place ≡ place + 1 = omega arith in
    is ∙ ap (λ l. l ++ sender_into peer ∷ []) so_far
    ∙ sym (one_more peers place peer here)
    ∙ ap (λ n. senders_into (take n peers)) on
