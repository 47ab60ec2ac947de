-- The signals of a script for a system are of the environment.
use Rattle.std.proofs.Common.{◌≡◌, List, Option, None, Some, All, IfSome}
use Rattle.std.proofs.lemmas.List.Elements.{All-weaker}
use Rattle.port_model.specs.declared.values.pid.Pid.TheVariants.{Env}
use Rattle.sdl_script.specs.Script.{IsFromEnv, SendsFromEnv}
use Rattle.sdl_script.specs.declared.script.ScriptLine.{ScriptLine}
use Rattle.sdl_script.specs.declared.script.ScriptSignal.{ScriptSignal}
use Rattle.sdl_system.specs.System.{SystemValue}
use Rattle.threads_shared.specs.Environment.{IsOfEnv}

signal_of_env : (system : SystemValue) (signal : Option ScriptSignal) → IfSome signal (IsFromEnv system)
    → IfSome signal (λ (s : ScriptSignal). s.item.sender ≡ Env)
signal_of_env system None from = from
signal_of_env system (Some signal) from = from.sender

pub lines_of_env : (system : SystemValue) (lines : List ScriptLine) → All (SendsFromEnv system) lines → All IsOfEnv lines
lines_of_env system lines from =
    All-weaker (SendsFromEnv system) IsOfEnv (λ line. signal_of_env system line.signal) lines from
