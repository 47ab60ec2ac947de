use Rattle.std.proofs.Common.{◌≡◌, ◌++◌, length}
use Rattle.sdl_command_line.specs.Lines.{lines, texts_of}
use Rattle.sdl_command_line.proofs.expected.line.lines_of.Given as goal

abbrev pub invariant-parts : goal.invariant-parts
invariant-parts l = texts_of l.lines.items ++ lines l.rest ≡ lines l.text

abbrev pub decreases-parts : goal.decreases-parts
decreases-parts l = length l.rest
