-- The peer is the instance of that number.
use Rattle.std.proofs.Common.{◌≡◌, List, subst}
use Rattle.std.proofs.lemmas.Result.{on_ok_weaker}
use Rattle.settle_checks.specs.Account.{IsPutToOne}
use Rattle.settle_checks.specs.Outputs.{AreNamed}
use Rattle.settle_meaning.specs.Puts.{Heard}
use Rattle.settle_checks.proofs.account.putting.put_to_peer.Goals as goal

pub returns-in-Of : goal.returns-in-Of
returns-in-Of g c =
    let records = c.args.records.now in
    let from = c.args.from.now in
    let peers = c.args.peers.now in
    on_ok_weaker c.put_to_one.result
    (λ (one : (heard : List Heard) → AreNamed heard c.args.named.now
    → IsPutToOne heard records from peers c.in-Of.number). λ heard named number is.
    let same : c.in-Of.number ≡ number = cc (c.in-Of.is, is) in
    subst (λ n. IsPutToOne heard records from peers n) same (one heard named))
    c.put_to_one.ensures
