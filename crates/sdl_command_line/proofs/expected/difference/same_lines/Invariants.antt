use Rattle.std.proofs.Common.{◌≡◌, take}
use Rattle.sdl_command_line.specs.Lines.{texts_of}
use Rattle.sdl_command_line.proofs.expected.difference.same_lines.Given as goal

abbrev pub invariant-loop-at : goal.invariant-loop-at
invariant-loop-at l = take l.at (texts_of l.wanted) ≡ take l.at (texts_of l.told)
