use Rattle.std.proofs.Common.{subst, sym}
use Rattle.std.specs.Prelude.{IfOk}
use Rattle.std.specs.String.{string_bytes}
use Rattle.sdl_command_line.specs.Sent.{SaysSent}
use Rattle.sdl_command_line.proofs.views.sending.sent_signals.Goals as goal

pub returns-then-has_workers-clause-ok : goal.returns-then-has_workers-clause-ok
returns-then-has_workers-clause-ok c =
    subst
    (λ has_workers. IfOk c.sent_singly.result
    (λ sent. SaysSent has_workers c.args.run.now sent.stuck (string_bytes sent.text))) (sym c.if-has_workers.true)
    c.sent_singly.ensures.ok

pub returns-else-has_workers-clause-ok : goal.returns-else-has_workers-clause-ok
returns-else-has_workers-clause-ok c =
    subst
    (λ has_workers. IfOk c.sent_in_order.result
    (λ sent. SaysSent has_workers c.args.run.now sent.stuck (string_bytes sent.text))) (sym c.if-has_workers.false)
    c.sent_in_order.ensures.ok
