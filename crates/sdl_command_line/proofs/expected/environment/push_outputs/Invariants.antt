use Rattle.std.proofs.Common.{◌≡◌, ◌++◌, length}
use Rattle.std.specs.String.{string_bytes}
use Rattle.sdl_command_line.specs.Outputs.{outputs_in}
use Rattle.sdl_command_line.proofs.expected.environment.push_outputs.Given as goal

abbrev pub invariant-loop-next : goal.invariant-loop-next
invariant-loop-next l =
    string_bytes l.text ++ outputs_in l.system l.«record».pid l.now l.cursor.left
    ≡ string_bytes l.fn.text ++ outputs_in l.system l.«record».pid 0 l.initial.cursor.left

abbrev pub decreases-loop-next : goal.decreases-loop-next
decreases-loop-next l = length l.cursor.left
