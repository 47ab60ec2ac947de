-- What is sent and was put is on its way.
use Rattle.std.proofs.Common.{◌∙◌, List, subst}
use Rattle.port_model.specs.declared.values.pid.Pid.TheVariants.{Env}
use Rattle.settle_checks.proofs.HearLemmas.{heard_alone}
use Rattle.settle_checks.specs.Crossed.{IsSentBy}
use Rattle.settle_checks.specs.declared.summing.crossings.Crossing.{Crossing}
use Rattle.settle_checks.proofs.account.hearing.heard_crossings.Goals as goal

pub returns : goal.returns
returns g c = λ heard targets have.
    let records = c.args.records.now in
    let sums = c.args.sums.now in
    let peers = c.args.peers.now in
    let passes = c.deref.result.now in
    let sent = c.send_passes.new.sent.items in
    heard_alone c.args.lines.now heard records sums peers passes sent c.requires.sums
    (c.are_in_turn.ensures c.if-not-are_in_turn.false)
    (c.deref.ensures.value ∙ c.in_ok-passes.ensures heard targets have)
    (subst (λ (l : List Crossing). IsSentBy records sums Env passes peers l sent) c.new-sent.ensures.items
    c.in_ok-send_passes.ensures)
