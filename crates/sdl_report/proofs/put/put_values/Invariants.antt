use Rattle.std.proofs.Common.{◌≡◌, ◌+◌, ◌*◌, ◌≤◌, ◌++◌, take}
use Rattle.port_model.specs.Text.{more_text}
use Rattle.sdl_report.proofs.put.put_values.Given as goal

abbrev pub invariant-loop-value : goal.invariant-loop-value
invariant-loop-value l =
    (take l.next l.bytes ≡ take l.initial.next l.initial.bytes ++ more_text (take l.value-index l.more))
    × (l.next ≤ l.initial.next + 22 * l.value-index)
