-- What the calls of a drawing give, put together into what is said of it.
use Rattle.std.proofs.Common.{◌≡◌, ◌≢◌, ℕ, List, Option, None, ap, inr, refl}
use Rattle.sdl_engine.specs.Answer.{fault_of}
use Rattle.sdl_engine.specs.Views.{IsOrderOf}
use Rattle.sdl_engine.specs.declared.run.Run.{Run}
use Rattle.sdl_report.specs.Gathered.{BreaksOff}
use Rattle.sdl_report.specs.declared.write_whole.WriteFault.{WriteFault}
use Rattle.sdl_report.specs.declared.write_whole.WriteFault.TheVariants as written
use Rattle.std.specs.Io.KnownBytes.{Appends}
use Rattle.std.specs.String.{string_bytes}
use Rattle.view_text.specs.MscText.{msc_text}
use Rattle.view_chart.specs.Written.{IsBrokenOff, IsWritten}
use Rattle.view_run.specs.Order.{lost_to}
use Rattle.view_text.specs.Sending.{SendingValue}
use Rattle.view_timeline.specs.declared.moves.Timeline.{Timeline}
use Rattle.sdl_command_line.specs.Drawn.{FailsToDraw, IsBegun, IsChart, IsDrawn}
use Rattle.sdl_command_line.specs.declared.views.form.Form.{Form}
use Rattle.sdl_command_line.specs.declared.views.form.Form.TheVariants as forms

-- ---- pictures

is_picture : (form : Form) (run : Run) (stuck : Option ℕ) (text : List ℕ) → form ≢ forms.Msc
    → IsChart form run stuck text
is_picture forms.Svg run stuck text no_text = tt
is_picture forms.Html run stuck text no_text = tt
is_picture forms.Msc run stuck text no_text = absurd (no_text refl)

pub picture_drawn : (form : Form) (run : Run) (stuck : Option ℕ) (old new : Option (List ℕ)) → form ≢ forms.Msc →
    IsWritten old new → IsDrawn form run stuck old new
picture_drawn form run stuck old new no_text out = record {
  text = out.0;
  chart = is_picture form run stuck out.0 no_text;
  out = out.1;
}

pub picture_fails : (why : WriteFault) (form : Form) (run : Run) (old new : Option (List ℕ)) → form ≢ forms.Msc →
    IsBrokenOff old new → FailsToDraw (fault_of why) form run old new
picture_fails why form run old new no_text off = fails why
  where
    begun : IsBegun form run old new
    begun = record {
      stuck = None;
      text = off.0;
      chart = is_picture form run None off.0 no_text;
      breaks = off.1;
    }

    fails : (why : WriteFault) → FailsToDraw (fault_of why) form run old new
    fails written.Write = begun
    fails written.Memory = inr begun

-- ---- texts of Z.120

abbrev text_of : Run → Option ℕ → Timeline → List SendingValue → List ℕ
text_of run stuck told lost = msc_text (string_bytes run.tree.name.text) run.system told stuck lost run.report

-- the order of the run
abbrev pub IsTold : Run → Option ℕ → Timeline → Type 0
IsTold run stuck told = IsOrderOf run.log stuck run.system run.script.lines.items run.report told

-- the signals of the script that nobody took
abbrev pub AreLost : Run → Option ℕ → Timeline → List SendingValue → Type 0
AreLost run stuck told lost = lost ≡ lost_to stuck run.system run.report told run.script.lines.items

pub text_drawn : (run : Run) (stuck : Option ℕ) (told : Timeline) (lost : List SendingValue)
    (old new : Option (List ℕ)) → IsTold run stuck told → AreLost run stuck told lost →
    Appends old new (msc_text (string_bytes run.tree.name.text) run.system told stuck lost run.report) →
    IsDrawn forms.Msc run stuck old new
text_drawn run stuck told lost old new is are out = record {
  text = text_of run stuck told lost;
  chart = record { told = told; is_order = is; says = ap (text_of run stuck told) are };
  out = out;
}

pub text_fails : (why : WriteFault) (run : Run) (stuck : Option ℕ) (told : Timeline) (lost : List SendingValue)
    (old new : Option (List ℕ)) → IsTold run stuck told → AreLost run stuck told lost →
    BreaksOff old new (msc_text (string_bytes run.tree.name.text) run.system told stuck lost run.report) →
    FailsToDraw (fault_of why) forms.Msc run old new
text_fails why run stuck told lost old new is are off = fails why
  where
    begun : IsBegun forms.Msc run old new
    begun = record {
      stuck = stuck;
      text = text_of run stuck told lost;
      chart = record { told = told; is_order = is; says = ap (text_of run stuck told) are };
      breaks = off;
    }

    fails : (why : WriteFault) → FailsToDraw (fault_of why) forms.Msc run old new
    fails written.Write = begun
    fails written.Memory = inr begun
