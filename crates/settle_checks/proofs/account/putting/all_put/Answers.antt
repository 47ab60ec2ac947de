-- Enough was put from one place more.
use Rattle.std.proofs.Common.{◌+◌, get_or, rules, subst, []}
use Rattle.std.proofs.lemmas.List.{get_or_read}
use Rattle.run_record.specs.Record.{RecordValue}
use Rattle.settle_checks.proofs.AccountLists.{at_done, at_more}
use Rattle.settle_checks.proofs.TimedLemmas.{summary_of_both}
use Rattle.settle_checks.specs.Account.{IsAllPut}
use Rattle.threads_ports.specs.Peers.{PeersState}
use Rattle.settle_checks.proofs.account.putting.all_put.Goals as goal

pub all_put_by-requires : goal.all_put_by-requires
all_put_by-requires g c =
    summary_of_both c.args.records.now c.args.sums.now c.loop-k.k c.index-records-k-in-loop-k.result
    c.index-sums-k.result c.requires (search rules) c.index-records-k-in-loop-k.is c.index-sums-k.is

pub loop-k-preserved : goal.loop-k-preserved
loop-k-preserved g c = λ heard named.
    let records = c.args.records.now in
    let places = c.args.places.now in
    at_more (λ k (from : RecordValue). IsAllPut heard records from (get_or places (k + 1) [])) records c.loop-k.k
    c.index-records-k-in-loop-k.result (search rules) c.index-records-k-in-loop-k.is (c.loop-k.invariant heard named)
    (subst (λ (peers : PeersState). IsAllPut heard records c.index-records-k-in-loop-k.result peers)
    (get_or_read places (c.loop-k.k + 1) c.index-places-k.result (search rules) c.index-places-k.is [])
    (c.in_ok-all_put_by.ensures heard named))

pub returns : goal.returns
returns g c = λ heard named.
    at_done (λ k (from : RecordValue). IsAllPut heard c.args.records.now from (get_or c.args.places.now (k + 1) []))
    c.args.records.now c.loop-k.k (search rules) (c.loop-k.invariant heard named)
