use Rattle.std.proofs.Common.{◌≡◌, ◌++◌, length}
use Rattle.std.specs.String.{string_bytes}
use Rattle.sdl_command_line.specs.Outputs.{outputs_of}
use Rattle.sdl_command_line.proofs.expected.environment.outputs.Given as goal

abbrev pub invariant-loop-step : goal.invariant-loop-step
invariant-loop-step l =
    string_bytes l.text ++ outputs_of l.system l.walk ≡ outputs_of l.system l.initial.walk

abbrev pub decreases-loop-step : goal.decreases-loop-step
decreases-loop-step l = length l.walk
