-- The sender is gathered at the port of its number.
use Rattle.std.proofs.Common.{◌≡◌, ◌∙◌, ap, false, rules, sym}
use Rattle.threads_ports.specs.Peers.{is_known}
use Rattle.settle_checks.proofs.GatherLemmas.{between, gathered_one, gatherings_set, has_put, number_is}
use Rattle.settle_checks.proofs.account.counting.gather_peer.Goals as goal

pub gather-requires-clause-puts : goal.gather-requires-clause-puts
gather-requires-clause-puts g c = λ past.
    let unknown : is_known c.args.rest.now c.args.peer.number ≡ false = search rules in
    has_put c.args.records.now c.args.all.now.items c.requires.of c.in-Some.at c.args.peer.number c.in-Some.ensures.1
    c.in-Some-get_mut.ensures.item.3.0 g.K.Fixed.puts c.args.place c.args.rest.now c.args.peer.sender c.requires.before
    c.in-Some-get_mut.gathering.now c.in-Some-get_mut.ensures.value unknown past

pub gather-requires-clause-port : goal.gather-requires-clause-port
gather-requires-clause-port g c =
    c.requires.port
    ∙ ap g.J.Run.ports
    (sym
    (number_is c.args.records.now c.args.all.now.items c.requires.of c.in-Some.at c.args.peer.number c.in-Some.ensures.1
    c.in-Some-get_mut.ensures.item.3.0 c.in-Some-get_mut.gathering.now c.in-Some-get_mut.ensures.value))

pub gather-requires-clause-between : goal.gather-requires-clause-between
gather-requires-clause-between g c =
    between c.args.records.now c.args.all.now.items c.requires.of c.in-Some.at c.args.peer.number c.in-Some.ensures.1
    c.in-Some-get_mut.ensures.item.3.0 g.K.Fixed.puts c.args.place c.args.rest.now c.args.peer.sender c.requires.before
    c.in-Some-get_mut.gathering.now c.in-Some-get_mut.ensures.value

pub returns-in-Ok-clause-of : goal.returns-in-Ok-clause-of
returns-in-Ok-clause-of g c =
    gatherings_set c.args.records.now c.args.all.now.items c.requires.of c.in-Some.at c.args.peer.number
    c.in-Some.ensures.1 c.in-Some-get_mut.ensures.item.3.0 c.in-Some-get_mut.gathering.now c.gather.new.self
    c.in-Some-get_mut.ensures.value c.gather.ensures.at c.gather.ensures.number

pub returns-in-Ok-clause-after : goal.returns-in-Ok-clause-after
returns-in-Ok-clause-after g c =
    gathered_one c.args.records.now c.args.all.now.items c.requires.of c.in-Some.at c.args.peer.number
    c.in-Some.ensures.1 c.in-Some-get_mut.ensures.item.3.0 g.K.Fixed.puts c.args.place c.args.rest.now
    c.args.peer.sender c.requires.before c.requires.rising c.gather.new.self c.in-Ok.ensures.next
