-- What one sender more has put is added.
use Rattle.std.proofs.Common.{◌+◌, [], get_or, rules, subst}
use Rattle.std.proofs.lemmas.List.{get_or_read}
use Rattle.port_model.specs.declared.values.pid.Pid.TheVariants.{Of}
use Rattle.run_record.specs.Record.{RecordValue}
use Rattle.settle_checks.proofs.CrossedLemmas.{sent_all, sent_more, sent_none}
use Rattle.settle_checks.proofs.TimedLemmas.{all_rise, summary_of_both}
use Rattle.settle_checks.specs.Crossed.{IsSentBy}
use Rattle.settle_checks.specs.Flows.{sent_passes}
use Rattle.threads_ports.specs.Peers.{PeersState}
use Rattle.settle_checks.proofs.account.ordering.send_all.Goals as goal

pub loop-k-init : goal.loop-k-init
loop-k-init g c = λ lines heard alone.
    sent_none lines heard c.args.records.now c.args.places.now c.args.sums.now c.requires.sums c.requires.rising c.sends_are_in_turn.ensures
    (all_rise c.args.records.now c.args.sums.now c.requires.sums) c.args.sent.now.items alone

pub send_one-requires-clause-sum : goal.send_one-requires-clause-sum
send_one-requires-clause-sum g c =
    summary_of_both c.args.records.now c.args.sums.now c.loop-k.k c.index-records-k-in-loop-k.result
    c.index-sums-k.result c.requires.sums (search rules) c.index-records-k-in-loop-k.is c.index-sums-k.is

pub loop-k-preserved : goal.loop-k-preserved
loop-k-preserved g c = λ lines heard alone.
    let records = c.args.records.now in
    let places = c.args.places.now in
    let k = c.loop-k.k in
    let e = c.index-records-k-in-loop-k.result in
    let old = c.loop-k.sent.items in
    let new = c.send_one.new.sent.items in
    sent_more lines heard records places c.args.sums.now c.requires.sums c.requires.rising c.sends_are_in_turn.ensures
    (all_rise records c.args.sums.now c.requires.sums) k e (search rules) old new
    (subst (λ (trace : RecordValue). IsSentBy records c.args.sums.now (Of trace.pid) (sent_passes 0 trace.events)
    (get_or places (k + 1) []) old new)
    c.index-records-k-in-loop-k.is
    (subst (λ (peers : PeersState). IsSentBy records c.args.sums.now (Of e.pid) (sent_passes 0 e.events) peers old new)
    (get_or_read places (k + 1) c.index-places-k.result (search rules) c.index-places-k.is [])
    c.in_ok-send_one.ensures))
    (c.loop-k.invariant lines heard alone)

pub returns : goal.returns
returns g c = λ lines heard alone.
    sent_all lines heard c.args.records.now c.args.places.now c.args.sums.now c.requires.sums c.requires.rising c.sends_are_in_turn.ensures
    (all_rise c.args.records.now c.args.sums.now c.requires.sums) c.loop-k.sent.items c.loop-k.k (search rules)
    (c.loop-k.invariant lines heard alone)
