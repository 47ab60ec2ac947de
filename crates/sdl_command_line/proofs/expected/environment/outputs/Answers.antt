use Rattle.std.proofs.Common.{◌++◌, ◌∙◌, ap, append-nil, arith, length, sym}
use Rattle.std.specs.String.{string_bytes}
use Rattle.sdl_command_line.specs.Outputs.{outputs_of}
use Rattle.sdl_command_line.proofs.OutputLemmas.{step_more}
use Rattle.view_text.specs.Step.{step_value}
use Rattle.sdl_command_line.proofs.expected.environment.outputs.Goals as goal

pub loop-step-preserved : goal.loop-step-preserved
loop-step-preserved c =
    step_more c.args.system.now _ (string_bytes c.loop-step.text) _ c.time_or_first-began.result c.pid.result
    (step_value c.in-Some.step) _ _ c.loop-step.invariant c.in-Some.ensures.left c.time_or_first-began.ensures
    c.pid.ensures c.in_ok-push_sent.ensures

pub loop-step-smaller : goal.loop-step-smaller
loop-step-smaller c = let e = ap length c.in-Some.ensures.left in omega (arith, e)

pub returns : goal.returns
returns c =
    sym (append-nil (string_bytes c.loop-step.text))
    ∙ ap (λ l. string_bytes c.loop-step.text ++ outputs_of c.args.system.now l)
    (sym c.in_default.ensures.left)
    ∙ c.loop-step.invariant
    ∙ ap (outputs_of c.args.system.now) c.in_ok-walk.ensures
