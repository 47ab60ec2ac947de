-- One port more.
use Rattle.std.proofs.Common.{◌∙◌, ◌<◌, ap, length, rules, subst, sym}
use Rattle.run_record.specs.Record.{RecordValue}
use Rattle.settle_checks.proofs.AccountLists.{at_done, at_more}
use Rattle.settle_checks.specs.Account.{IsCountOf}
use Rattle.settle_closing.specs.PortThen.{then_of}
use Rattle.settle_checks.specs.Gathering.{CountedState}
use Rattle.settle_run.proofs.PortLemmas.{port_at}
use Rattle.settle_run.specs.Parts.{IsSettledPort}
use Rattle.settle_run.proofs.ports.look_at_all.Goals as goal

pub loop-k-preserved : goal.loop-k-preserved
loop-k-preserved g c = λ places counts.
    let records = c.args.records.now in
    let counted = c.args.counted.now in
    let k = c.loop-k.k in
    let trace = c.index-records-k-in-loop-k.result in
    let one = c.index-counted-k.result in
    let puts = g.K.Fixed.puts in
    let owners = g.K.Fixed.owners in
    let within : k < length records = search rules in
    let below : k < length counted = search rules in
    let is : IsCountOf places k trace one =
    subst (λ (o : CountedState). IsCountOf places k trace o) (sym c.index-counted-k.is)
    (counts.each k one below trace within c.index-records-k-in-loop-k.is) in
    at_more
    (λ k (t : RecordValue). IsSettledPort (puts t.pid) places c.args.whole c.args.end (owners k) t)
    records k trace within c.index-records-k-in-loop-k.is (c.loop-k.invariant places counts)
    (port_at puts owners places c.args.whole c.args.end k trace one is
    (c.in_ok-look_at.ensures (c.requires k _ (search rules) ∙ ap (λ n. then_of (owners n)) (sym is.at))))

pub returns : goal.returns
returns g c = λ places counts.
    at_done
    (λ k (t : RecordValue). IsSettledPort (g.K.Fixed.puts t.pid) places c.args.whole c.args.end (g.K.Fixed.owners k) t)
    c.args.records.now c.loop-k.k (search rules) (c.loop-k.invariant places counts)
