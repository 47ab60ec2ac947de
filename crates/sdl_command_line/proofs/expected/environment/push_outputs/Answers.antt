use Rattle.std.proofs.Common.{◌++◌, ◌∙◌, ap, append-nil, arith, length, sym}
use Rattle.std.specs.String.{string_bytes}
use Rattle.run_record.specs.Entry.{event_of}
use Rattle.sdl_command_line.specs.Outputs.{outputs_in}
use Rattle.sdl_command_line.proofs.OutputLemmas.{event_more}
use Rattle.sdl_command_line.proofs.expected.environment.push_outputs.Goals as goal

pub loop-next-preserved : goal.loop-next-preserved
loop-next-preserved c =
    event_more c.args.system.now c.args.«record».now.pid _ (string_bytes c.loop-next.text) _ c.loop-next.now
    c.time_after-now.result c.pid.result (event_of c.in-Some.next.entry c.in-Some.next.values.now) _ _
    c.loop-next.invariant c.in-Some.ensures.left (c.time_after-now.ensures c.in-Some.next.values.now) c.pid.ensures
    c.in_ok-push_sent.ensures

pub loop-next-smaller : goal.loop-next-smaller
loop-next-smaller c = let e = ap length c.in-Some.ensures.left in omega (arith, e)

pub returns : goal.returns
returns c =
    sym (append-nil (string_bytes c.loop-next.text))
    ∙ ap (λ l. string_bytes c.loop-next.text ++ outputs_in c.args.system.now c.args.«record».now.pid c.loop-next.now l)
    (sym c.in_default.ensures.left)
    ∙ c.loop-next.invariant
    ∙ ap
    (λ start. string_bytes c.args.text.now ++ outputs_in c.args.system.now c.args.«record».now.pid 0 start.left)
    c.in_ok-cursor.ensures
