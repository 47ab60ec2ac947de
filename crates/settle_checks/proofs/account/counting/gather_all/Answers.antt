-- The senders of the next place have put what the name says.
use Rattle.std.proofs.Common.{◌≡◌, ◌∙◌, ◌+◌, All, ap, arith, length, rules, subst, sym, List}
use Rattle.std.proofs.lemmas.Iterator.Adapters.{YieldsList-from_vec}
use Rattle.std.proofs.lemmas.Iterator.Consumers.{YieldsList-end, YieldsList-turn}
use Rattle.std.proofs.lemmas.List.{length_push}
use Rattle.settle_checks.proofs.GatherLemmas.{nothing_gathered}
use Rattle.settle_checks.specs.Account.{HavePut}
use Rattle.settle_checks.specs.Gatherings.{HasGathered}
use Rattle.threads_ports.specs.Peers.{PeersState}
use Rattle.settle_checks.proofs.account.counting.gather_all.Goals as goal

pub loop-peers-init : goal.loop-peers-init
loop-peers-init g c = record {
  place = search rules;
  of = c.requires.of;
  gathered = nothing_gathered g.K.Fixed.puts c.args.all.now.items;
}

pub gather_place-requires-clause-puts : goal.gather_place-requires-clause-puts
gather_place-requires-clause-puts g c =
    let places = c.args.places.items in
    let started = c.into_iter-peers-iterator.ensures.into_iter_gives in
    let turn = YieldsList-turn (YieldsList-from_vec places started.0 (started.1 ∙ c.args.places.ok.0))
    c.loop-peers.yielded c.loop-peers.peers-iterator c.loop-peers.yielded_by c.next.result c.next.new.self
    c.in-Some.peers c.in-Some.is c.next.ensures.steps in
    subst (λ n. HavePut g.K.Fixed.puts n c.in-Some.peers) (sym c.loop-peers.invariant.place)
    (subst (λ (p : PeersState). HavePut g.K.Fixed.puts (length c.loop-peers.yielded) p) (sym turn.1)
    (c.requires.puts (length c.loop-peers.yielded) c.in-Some.peers turn.0))
