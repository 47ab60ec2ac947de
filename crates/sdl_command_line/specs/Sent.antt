-- What a run sends to the environment.
use Rattle.std.specs.Prelude.{◌≡◌, ℕ, Bool, true, false, List, Option, None}
use Rattle.sdl_engine.specs.Views.{IsInOrder}
use Rattle.sdl_engine.specs.declared.run.Run.{Run}
use Rattle.sdl_command_line.specs.Outputs.{outputs_by_sender, outputs_of}
use Rattle.view_text.specs.Walk.{all_steps}

-- The text of what a run sends to the environment: with workers that of each instance by itself, else in the order of
-- the run, up to the instance that can't go on, if one can't.
abbrev pub SaysSent : Bool → Run → Option ℕ → List ℕ → Type 0
SaysSent true run stuck text = (stuck ≡ None) × (text ≡ outputs_by_sender run.system run.report.records.items)
SaysSent false run stuck text = IsInOrder run.log run.system run.script.lines.items run.report
    (λ told. outputs_of run.system (all_steps run.report.records.items told)) stuck text
