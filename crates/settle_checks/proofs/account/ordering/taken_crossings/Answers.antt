-- What one record more takes is added.
use Rattle.std.proofs.Common.{◌≡◌, ◌++◌, arith, get_or, map, rules}
use Rattle.run_record.specs.Record.{RecordValue}
use Rattle.settle_checks.proofs.CrossedLemmas.{IsTakenIn, taken_own, taken_still}
use Rattle.settle_checks.proofs.AccountLists.{at_done, at_more}
use Rattle.settle_checks.proofs.TimedLemmas.{taking_at}
use Rattle.settle_checks.specs.Crossings.{crossing_in}
use Rattle.settle_checks.proofs.account.ordering.taken_crossings.Goals as goal

pub loop-k-init : goal.loop-k-init
loop-k-init c = λ j d below. let wrong : ⊥ = omega (arith, below) in absurd wrong

pub loop-k-preserved : goal.loop-k-preserved
loop-k-preserved c =
    let records = c.args.records.now in
    let sums = c.args.sums.now in
    let k = c.loop-k.k in
    let trace = c.index-records-k-in-loop-k.result in
    let sum = c.index-sums-k.result in
    let old = c.loop-k.taken.items in
    let new = c.add_taken.new.all.items in
    let added : new ≡ old ++ map (crossing_in trace.pid) sum.taking.flows = search rules in
    at_more (λ j (to : RecordValue). IsTakenIn to new) records k trace (search rules) c.index-records-k-in-loop-k.is
    (λ j d below. taken_still trace sum.taking.flows old new added (get_or records j d) (c.loop-k.invariant j d below))
    (taken_own trace sum.taking.flows old new added
    (taking_at records sums k trace sum c.requires.sums (search rules) c.index-records-k-in-loop-k.is c.index-sums-k.is))

pub returns : goal.returns
returns c =
    at_done (λ j (to : RecordValue). IsTakenIn to c.loop-k.taken.items) c.args.records.now c.loop-k.k (search rules)
    c.loop-k.invariant
