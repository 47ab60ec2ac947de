-- What the sender at the place answers, its owner answers, and keeps the fact by it.
use Rattle.std.proofs.Common.{◌∙◌, sym}
use Rattle.port_model.specs.declared.inbox.entry.Entry.TheVariants.{Signal}
use Rattle.threads_ports.proofs.SendersKept.{kept_put, recorded_put}
use Rattle.threads_ports.proofs.PlaceLemmas.{at_place_of, known_at, known_there, named_at, puts_at, stays_at, with_sender}
use Rattle.threads_ports.proofs.senders.peers.Peers.put.Goals as goal

pub put-requires : goal.put-requires
put-requires g c =
    let at =
    at_place_of c.args.number c.in-Some.place c.self.inside.senders.entries c.args.self.now
    c.in-Some-get_index_mut.sender.now c.self.view_is c.get_index_mut.ensures.unique c.in-Some.ensures
    c.in-Some-get_index_mut.ensures.value in
    c.self.invariant c.args.number c.in-Some-get_index_mut.sender.now at.known ∙ sym c.requires.port

pub invariant_of-self : goal.invariant_of-self
invariant_of-self g c =
    let at =
    at_place_of c.args.number c.in-Some.place c.self.inside.senders.entries c.args.self.now
    c.in-Some-get_index_mut.sender.now c.self.view_is c.get_index_mut.ensures.unique c.in-Some.ensures
    c.in-Some-get_index_mut.ensures.value in
    named_at at g.J.Run.ports c.put.new.self c.self.invariant c.put.ensures.port

pub returns-in-Err-clause-put : goal.returns-in-Err-clause-put
returns-in-Err-clause-put g c =
    let at =
    at_place_of c.args.number c.in-Some.place c.self.inside.senders.entries c.args.self.now
    c.in-Some-get_index_mut.sender.now c.self.view_is c.get_index_mut.ensures.unique c.in-Some.ensures
    c.in-Some-get_index_mut.ensures.value in
    ((c.in-Err.ensures.put.0.1, known_there at), stays_at at c.put.new.self c.in-Err.ensures.put.1)

pub returns-in-Err-clause-known : goal.returns-in-Err-clause-known
returns-in-Err-clause-known g c =
    let at =
    at_place_of c.args.number c.in-Some.place c.self.inside.senders.entries c.args.self.now
    c.in-Some-get_index_mut.sender.now c.self.view_is c.get_index_mut.ensures.unique c.in-Some.ensures
    c.in-Some-get_index_mut.ensures.value in
    known_at at c.put.new.self

pub invariant_of-self-2 : goal.invariant_of-self-2
invariant_of-self-2 g c =
    let at =
    at_place_of c.args.number c.in-Some.place c.self.inside.senders.entries c.args.self.now
    c.in-Some-get_index_mut.sender.now c.self.view_is c.get_index_mut.ensures.unique c.in-Some.ensures
    c.in-Some-get_index_mut.ensures.value in
    named_at at g.J.Run.ports c.put.new.self c.self.invariant c.put.ensures.port

pub returns-clause-put : goal.returns-clause-put
returns-clause-put g c =
    let at =
    at_place_of c.args.number c.in-Some.place c.self.inside.senders.entries c.args.self.now
    c.in-Some-get_index_mut.sender.now c.self.view_is c.get_index_mut.ensures.unique c.in-Some.ensures
    c.in-Some-get_index_mut.ensures.value in
    puts_at at 0 (Signal c.args.item) c.put.new.self c.in_default-put.ensures.put

pub returns-clause-known : goal.returns-clause-known
returns-clause-known g c =
    let at =
    at_place_of c.args.number c.in-Some.place c.self.inside.senders.entries c.args.self.now
    c.in-Some-get_index_mut.sender.now c.self.view_is c.get_index_mut.ensures.unique c.in-Some.ensures
    c.in-Some-get_index_mut.ensures.value in
    known_at at c.put.new.self

pub returns-clause-kept : goal.returns-clause-kept
returns-clause-kept g c =
    let at =
    at_place_of c.args.number c.in-Some.place c.self.inside.senders.entries c.args.self.now
    c.in-Some-get_index_mut.sender.now c.self.view_is c.get_index_mut.ensures.unique c.in-Some.ensures
    c.in-Some-get_index_mut.ensures.value in
    kept_put c.args.number c.args.item c.args.self.now (with_sender at c.put.new.self) (returns-clause-put g c)

pub returns-clause-recorded : goal.returns-clause-recorded
returns-clause-recorded g c =
    let at =
    at_place_of c.args.number c.in-Some.place c.self.inside.senders.entries c.args.self.now
    c.in-Some-get_index_mut.sender.now c.self.view_is c.get_index_mut.ensures.unique c.in-Some.ensures
    c.in-Some-get_index_mut.ensures.value in
    recorded_put c.args.number c.args.item c.args.self.now (with_sender at c.put.new.self) (returns-clause-put g c)
