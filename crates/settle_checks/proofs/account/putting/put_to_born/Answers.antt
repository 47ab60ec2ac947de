-- One birth more.
use Rattle.std.proofs.Common.{ap, get_or, List, subst}
use Rattle.std.proofs.lemmas.List.{get_or_default}
use Rattle.settle_checks.proofs.AccountEnoughLemmas.{no_birth}
use Rattle.settle_checks.proofs.AccountLists.{at_done, at_more}
use Rattle.settle_checks.specs.Account.{ArePutToBorn, IsPutToOne}
use Rattle.settle_checks.specs.declared.summing.creating.Birth.{Birth}
use Rattle.settle_checks.proofs.account.putting.put_to_born.Goals as goal

pub loop-birth-preserved : goal.loop-birth-preserved
loop-birth-preserved g c = λ heard named.
    let records = c.args.records.now in
    let from = c.args.from.now in
    let peers = c.args.peers.now in
    let births = c.deref-birth-items.result.now in
    let i = c.loop-birth.birth-index in
    at_more (λ k (birth : Birth). IsPutToOne heard records from peers birth.number) births i (get_or births i no_birth)
    c.loop-birth-test.true (get_or_default births i no_birth (get_or births i no_birth) c.loop-birth-test.true)
    (c.loop-birth.invariant heard named)
    (subst (λ n. IsPutToOne heard records from peers n)
    (ap (λ (birth : Birth). birth.number) (get_or_default births i _ no_birth c.loop-birth-test.true))
    (c.in_ok-put_to_one.ensures heard named))

pub returns : goal.returns
returns g c = λ heard named.
    subst (λ (births : List Birth). ArePutToBorn heard c.args.records.now c.args.from.now c.args.peers.now births)
    c.deref-birth-items.ensures.value
    (at_done (λ k (birth : Birth). IsPutToOne heard c.args.records.now c.args.from.now c.args.peers.now birth.number)
    c.deref-birth-items.result.now c.loop-birth.birth-index c.loop-birth-test.false
    (c.loop-birth.invariant heard named))
