use Rattle.std.proofs.Common.{◌≡◌, ◌++◌, map, take}
use Rattle.sdl_command_line.specs.Shown.{shown_byte}
use Rattle.sdl_command_line.proofs.expected.shown.push_bytes.Given as goal

abbrev pub invariant-loop-byte : goal.invariant-loop-byte
invariant-loop-byte l = l.text.items ≡ l.initial.text.items ++ map shown_byte (take l.byte-index l.bytes)
