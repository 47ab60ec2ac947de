-- The event is one more.
use Rattle.std.proofs.Common.{sym}
use Rattle.std.proofs.lemmas.Result.{IfOk-weaker}
use Rattle.run_record.specs.Entry.{event_of}
use Rattle.settle_checks.proofs.SendingLemmas.{sending_gone, sending_nothing, sending_passed}
use Rattle.settle_checks.specs.declared.summing.sending.Sending.{Sending}
use Rattle.settle_checks.proofs.summing.sending.Sending.note.Goals as goal

pub returns-in_default : goal.returns-in_default
returns-in_default c = λ right done values at is.
    sending_nothing c.args.process done (event_of c.args.entry values) c.args.self.now
    (sym (c.in_default.ensures values))
    is

pub returns-in_default-pass_out : goal.returns-in_default-pass_out
returns-in_default-pass_out c = λ right done values at is.
    sending_gone c.args.process done (event_of c.args.entry values) c.args.at c.in-Some.routed c.args.self.now
    c.route.new.self at (sym (c.in-Some.ensures values)) c.in_ok-route.ensures.routed c.in_ok-route.ensures.flows
    c.in_default-pass_out.ensures is

pub returns : goal.returns
returns c =
    let new : Sending = record { routed = c.route.new.self.routed; flows = c.add.new.self } in
    IfOk-weaker c.add.result _ _
    (λ noted added right done values at is.
    sending_passed c.args.process done (event_of c.args.entry values) c.args.at c.in-Some.routed c.in-Some-pass_out.pass
    c.args.self.now new c.route.new.self.flows at (sym (c.in-Some.ensures values)) c.in_ok-route.ensures.routed
    c.in_ok-route.ensures.flows c.in-Some-pass_out.ensures (added right) is)
    c.add.ensures.added
