use Rattle.std.proofs.Common.{◌≡◌, ◌++◌, codes, take}
use Rattle.std.specs.List.{flat_map}
use Rattle.sdl_command_line.specs.Lines.{texts_of}
use Rattle.sdl_command_line.specs.Shown.{row}
use Rattle.sdl_command_line.proofs.expected.shown.push_context.Given as goal

abbrev pub invariant-loop-line : goal.invariant-loop-line
invariant-loop-line l =
    l.text.items ≡ l.initial.text.items ++ flat_map (row (codes "  ")) (texts_of (take l.line-index l.lines))
