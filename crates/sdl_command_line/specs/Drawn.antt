-- What a writer has got of the chart of a run.
use Rattle.std.specs.Prelude.{ℕ, ◌⊎◌, List, Option}
use Rattle.std.specs.Io.KnownBytes.{Appends, Keeps}
use Rattle.std.specs.String.{string_bytes}
use Rattle.sdl_engine.specs.Views.{IsInOrder}
use Rattle.sdl_engine.specs.declared.options.TextFault.{TextFault}
use Rattle.sdl_engine.specs.declared.options.TextFault.TheVariants as faults
use Rattle.sdl_engine.specs.declared.run.Run.{Run}
use Rattle.sdl_report.specs.Gathered.{BreaksOff}
use Rattle.view_text.specs.MscText.{msc_text}
use Rattle.view_run.specs.Order.{lost_to}
use Rattle.sdl_command_line.specs.declared.views.form.Form.{Form}
use Rattle.sdl_command_line.specs.declared.views.form.Form.TheVariants as forms

-- A text of Z.120 is that of a timeline of the run, by the name of its system, up to the instance that can't go on, if one
-- can't. Of a picture nothing is said.
abbrev pub IsChart : Form → Run → Option ℕ → List ℕ → Type 0
IsChart forms.Msc run stuck text = IsInOrder run.log run.system run.script.lines.items run.report
    (λ told. msc_text (string_bytes run.tree.name.text) run.system told stuck
    (lost_to stuck run.system run.report told run.script.lines.items) run.report) stuck text
IsChart other run stuck text = Unit {0}

-- a chart of the run has gone out
pub record IsDrawn (form : Form) (run : Run) (stuck : Option ℕ) (old new : Option (List ℕ)) : Type 0 where
  pub text : List ℕ
  pub chart : IsChart form run stuck text
  pub out : Appends old new text

-- a beginning of a chart has gone out, and not all of it
pub record IsBegun (form : Form) (run : Run) (old new : Option (List ℕ)) : Type 0 where
  pub stuck : Option ℕ
  pub text : List ℕ
  pub chart : IsChart form run stuck text
  pub breaks : BreaksOff old new text

-- what has gone out before this fault: nothing, where there was no memory for the order
abbrev pub FailsToDraw : TextFault → Form → Run → Option (List ℕ) → Option (List ℕ) → Type 0
FailsToDraw faults.Read form run old new = ⊥
FailsToDraw faults.Write form run old new = IsBegun form run old new
FailsToDraw faults.Memory form run old new = Keeps old new ⊎ IsBegun form run old new
