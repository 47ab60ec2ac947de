-- Each step tells a part.
use Rattle.std.proofs.Common.{◌<◌, length, rules, subst, sym, []}
use Rattle.std.proofs.lemmas.List.{get_or_read}
use Rattle.settle_checks.specs.Account.{IsAllHeard}
use Rattle.settle_checks.specs.Outputs.{AreNamed}
use Rattle.threads_ports.specs.Peers.{PeersState}
use Rattle.settle_checks.proofs.account.comparing.compare.Goals as goal

pub all_lived-requires-clause-rising : goal.all_lived-requires-clause-rising
all_lived-requires-clause-rising g c = c.in_ok-all_made.ensures.made.rising

pub all_ordered-requires-clause-rising : goal.all_ordered-requires-clause-rising
all_ordered-requires-clause-rising g c = c.in_ok-all_made.ensures.made.rising

pub returns : goal.returns
returns g c = λ heard signals targets script.
    let records = c.args.records.now in
    let places = c.args.places.now in
    let named : AreNamed heard c.in_ok-names.names.items = c.in_ok-names.ensures heard signals in
    let within : 0 < length places = search rules in
    record {
      made = c.in_ok-all_made.ensures.made;
      started = c.in_ok-all_lived.ensures.started;
      within = c.in_ok-all_lived.ensures.within;
      timed = c.in_ok-all_timed.ensures;
      nulls = c.in_ok-all_caused.ensures;
      outputs = c.in_ok-all_meant.ensures.outputs;
      signals = c.in_ok-all_meant.ensures.signals heard signals targets;
      put = c.in_ok-all_put.ensures heard (subst (AreNamed heard) (sym c.deref-2.ensures.value) named);
      heard_put = subst (λ (peers : PeersState). IsAllHeard heard records peers)
          (get_or_read places 0 c.index-places-0.result within c.index-places-0.is [])
          (c.in_ok-all_heard.ensures heard targets (subst (AreNamed heard) (sym c.deref.ensures.value) named));
      ordered = c.in_ok-all_ordered.ensures heard targets script;
    }
