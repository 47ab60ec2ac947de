-- What is sent to one record more is added.
use Rattle.std.proofs.Common.{◌≡◌, ◌∙◌, ◌-◌, ap, count_by, length, subst}
use Rattle.run_record.specs.Record.{RecordValue}
use Rattle.settle_checks.proofs.SendLemmas.{rests_more}
use Rattle.settle_checks.specs.Crossed.{IsRestSent}
use Rattle.settle_checks.specs.Flows.{is_with}
use Rattle.threads_ports.specs.Peers.{put_to}
use Rattle.settle_checks.proofs.account.sending.send_late.Goals as goal

pub loop-to-preserved : goal.loop-to-preserved
loop-to-preserved g c =
    let records = c.args.records.now in
    let sums = c.args.sums.now in
    let passes = c.args.passes.now in
    let peers = c.args.peers.now in
    let e = c.to-item.result in
    let k = c.loop-to.to-index in
    let old = c.loop-to.sent.items in
    let new = c.send_rest.new.sent.items in
    let missing = c.saturating_sub-missing.result in
    let all_is : c.to.result ≡ count_by (is_with e.pid) passes =
    c.to.ensures ∙ c.requires.totals c.pid-number.result ∙ ap (λ n. count_by (is_with n) passes) c.pid-number.ensures in
    let put_is : c.sent.result ≡ length (put_to peers e.pid) =
    c.sent.ensures ∙ ap (λ n. length (put_to peers n)) c.pid-number.ensures in
    let missing_is : missing ≡ count_by (is_with e.pid) passes - length (put_to peers e.pid) =
    c.saturating_sub-missing.ensures ∙ ap (λ n. n - c.sent.result) all_is
    ∙ ap (λ n. count_by (is_with e.pid) passes - n) put_is in
    rests_more records sums c.requires.rising c.args.from passes peers k e c.loop-to-test.true missing
    c.args.sent.now.items old new
    (subst (λ (to : RecordValue). missing ≡ count_by (is_with to.pid) passes - length (put_to peers to.pid))
    c.to-item.is missing_is)
    c.loop-to.invariant
    (subst (λ (to : RecordValue). IsRestSent c.args.from passes to.pid missing sums old new) c.to-item.is
    (subst (λ n. IsRestSent c.args.from passes n missing sums old new) c.pid-number.ensures c.in_ok-send_rest.ensures))
