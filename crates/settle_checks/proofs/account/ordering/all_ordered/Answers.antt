-- Counts tell it.
use Rattle.std.proofs.Common.{◌<◌, [], length, rules, subst}
use Rattle.std.proofs.lemmas.List.{get_or_read}
use Rattle.settle_checks.proofs.CrossedLemmas.{all_ordered}
use Rattle.settle_checks.proofs.TimedLemmas.{all_rise}
use Rattle.settle_checks.specs.Crossed.{AreHeardAlone}
use Rattle.threads_ports.specs.Peers.{PeersState}
use Rattle.settle_checks.proofs.account.ordering.all_ordered.Goals as goal

pub returns-then-branch : goal.returns-then-branch
returns-then-branch g c = λ heard targets signals.
    let lines = c.args.lines.now in
    let records = c.args.records.now in
    let places = c.args.places.now in
    let within : 0 < length places = search rules in
    all_ordered c.args.lines.now heard c.args.records.now c.args.places.now c.send_all.new.sent.items
    c.in_ok-taken.taken.items c.covered_are_in_order.ensures (all_rise c.args.records.now c.args.sums.now c.requires.sums)
    (c.in_ok-send_all.ensures lines heard
    (subst (λ (peers : PeersState). AreHeardAlone lines heard records peers c.in_ok-sent.sent.items)
    (get_or_read places 0 c.index-places-0.result within c.index-places-0.is [])
    (c.in_ok-sent.ensures heard targets signals)))
    c.in_ok-taken.ensures (c.in_ok-are_covered.ensures c.if-branch.true)
