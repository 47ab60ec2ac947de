use Rattle.std.proofs.Common.{◌≡◌, take}
use Rattle.std.specs.String.{string_bytes}
use Rattle.sdl_command_line.specs.Outputs.{outputs_by_sender}
use Rattle.sdl_command_line.proofs.expected.environment.outputs_by_sender.Given as goal

abbrev pub invariant-loop-record : goal.invariant-loop-record
invariant-loop-record l = string_bytes l.text ≡ outputs_by_sender l.system (take l.record-index l.record-items)
