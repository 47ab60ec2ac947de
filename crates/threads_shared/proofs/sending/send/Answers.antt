-- A copy is put, by the sender that is there or by a new one.
use Rattle.std.proofs.Common.{◌∙◌, ap, refl, subst, sym, List}
use Rattle.port_model.specs.declared.values.item.Item.{Item}
use Rattle.port_model.specs.declared.values.value.Value.{Value}
use Rattle.threads_shared.proofs.Sent.{gone_nowhere, put_as, sent_later}
use Rattle.threads_ports.specs.Peers.{GivesBack}
use Rattle.threads_ports.specs.declared.senders.not_put.NotPut.{NotPut}
use Rattle.threads_shared.proofs.sending.send.Goals as goal

-- the signal with other values
abbrev with_values : Item → List Value → Item
with_values item values = record { name = item.name; values = values; sender = item.sender }

pub returns-in_default-port-clause-sent : goal.returns-in_default-port-clause-sent
returns-in_default-port-clause-sent g c =
    gone_nowhere c.args.target c.in-Instance.number c.args.peers.now c.in-Instance.is
    (sym c.in_default-port.ensures.there) c.requires

pub returns-in-Ok-clause-sent : goal.returns-in-Ok-clause-sent
returns-in-Ok-clause-sent g c =
    let item = c.args.item.now in
    let values = c.in_ok-copied.field-0 in
    put_as c.args.target c.in-Instance.number item (with_values item values) c.args.peers.now c.args.peers.now
    c.put.new.self c.in-Instance.is (ap (with_values item) c.in_ok-copied.ensures.ok) (λ n. refl) c.in-Ok.ensures.put

pub returns-in-Err-Unknown-clause-sent : goal.returns-in-Err-Unknown-clause-sent
returns-in-Err-Unknown-clause-sent g c =
    let item = c.args.item.now in
    let values = c.in_ok-copied.field-0 in
    let number = c.in-Instance.number in
    let old = c.args.peers.now in
    let back = subst (λ (b : NotPut). GivesBack b (with_values item values) number old) c.in-Err-Unknown.field-0-is
    c.in-Err-Unknown.ensures.put.0 in
    sent_later c.send_first.result c.args.target number item c.in-Err-Unknown.copy old c.put.new.self
    c.send_first.new.peers c.in-Instance.is (back.0 ∙ ap (with_values item) c.in_ok-copied.ensures.ok)
    c.in-Err-Unknown.ensures.put.1 c.send_first.ensures.sent
