-- One more event of what is left to be told.
use Rattle.std.proofs.Common.{◌≡◌, ◌∙◌, ℕ, ◌∷◌, ◌++◌, List, ap, sym}
use Rattle.std.specs.Option.{unwrap_or}
use Rattle.run_record.specs.Event.{Event}
use Rattle.sdl_command_line.specs.Outputs.{outputs_in, outputs_of, sent_text, time_after}
use Rattle.sdl_command_line.proofs.GrowthLemmas.{moved}
use Rattle.sdl_system.specs.System.{SystemValue}
use Rattle.view_text.specs.Walk.{StepValue}

-- an event of an instance
pub event_more : (system : SystemValue) (who : ℕ) (all before after : List ℕ) (now next number : ℕ) (event : Event)
    (left more : List Event) → before ++ outputs_in system who now left ≡ all → left ≡ event ∷ more →
    next ≡ time_after now event → number ≡ who → after ≡ before ++ sent_text system next number event →
    after ++ outputs_in system who next more ≡ all
event_more system who all before after now next number event left more was splits moves sends is =
    moved all before after (sent_text system next number event) (outputs_in system who next more)
    (ap (λ number'. before ++ (sent_text system next number' event ++ outputs_in system who next more)) sends
    ∙ ap (λ time. before ++ (sent_text system time who event ++ outputs_in system who time more)) moves
    ∙ ap (λ l. before ++ outputs_in system who now l) (sym splits)
    ∙ was) is

-- an event of a timeline
pub step_more : (system : SystemValue) (all before after : List ℕ) (began number : ℕ) (step : StepValue)
    (left more : List StepValue) → before ++ outputs_of system left ≡ all → left ≡ step ∷ more →
    began ≡ unwrap_or step.at 0 → number ≡ step.trace.pid →
    after ≡ before ++ sent_text system began number step.event → after ++ outputs_of system more ≡ all
step_more system all before after began number step left more was splits begins sends is =
    moved all before after (sent_text system began number step.event) (outputs_of system more)
    (ap (λ number'. before ++ (sent_text system began number' step.event ++ outputs_of system more)) sends
    ∙ ap (λ time. before ++ (sent_text system time step.trace.pid step.event ++ outputs_of system more)) begins
    ∙ ap (λ l. before ++ outputs_of system l) (sym splits)
    ∙ was) is
