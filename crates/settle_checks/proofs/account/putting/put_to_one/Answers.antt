-- One record more: it is of another number, or enough was put.
use Rattle.std.proofs.Common.{◌≡◌, ◌∙◌, ap, arith, length, subst, sym}
use Rattle.run_record.specs.Record.{RecordValue}
use Rattle.settle_checks.proofs.AccountLists.{at_more}
use Rattle.settle_checks.specs.Outputs.{IsEnough}
use Rattle.settle_meaning.specs.Puts.{IsNamed}
use Rattle.threads_ports.specs.Peers.{put_to}
use Rattle.settle_checks.proofs.account.putting.put_to_one.Goals as goal

pub loop-to-init : goal.loop-to-init
loop-to-init g c = λ heard named k d below. let wrong : ⊥ = omega (arith, below) in absurd wrong

pub loop-to-preserved-then-pid-number : goal.loop-to-preserved-then-pid-number
loop-to-preserved-then-pid-number g c = λ heard named.
    let from = c.args.from.now in
    let peers = c.args.peers.now in
    let number = c.args.number in
    at_more
    (λ k (to : RecordValue). to.pid ≡ number → IsEnough (IsNamed heard) from to (length (put_to peers to.pid)))
    c.args.records.now c.loop-to.to-index c.to-item.result c.loop-to-test.true c.to-item.is
    (c.loop-to.invariant heard named) (λ same. absurd (c.if-pid-number.true (c.pid.ensures ∙ same)))

pub loop-to-preserved : goal.loop-to-preserved
loop-to-preserved g c = λ heard named.
    let from = c.args.from.now in
    let peers = c.args.peers.now in
    let number = c.args.number in
    let here = c.to-item.result in
    at_more
    (λ k (to : RecordValue). to.pid ≡ number → IsEnough (IsNamed heard) from to (length (put_to peers to.pid)))
    c.args.records.now c.loop-to.to-index here c.loop-to-test.true c.to-item.is (c.loop-to.invariant heard named)
    (λ same.
    subst (λ n. IsEnough (IsNamed heard) from here n) (c.sent.ensures ∙ ap (λ n. length (put_to peers n)) (sym same))
    (c.is_enough.ensures c.if-not-is_enough.false heard named))

pub returns : goal.returns
returns g c = λ heard named k d within same.
    c.loop-to.invariant heard named k d (omega (arith, c.loop-to-test.false, within)) same
