use Rattle.std.proofs.Common.{◌∙◌, ap, sym}
use Rattle.sdl_command_line.specs.Difference.{text_of}
use Rattle.sdl_command_line.proofs.DifferenceLemmas.{text_got}
use Rattle.sdl_command_line.proofs.expected.difference.first_of.Goals as goal

pub returns-in-Some : goal.returns-in-Some
returns-in-Some c = ap text_of c.in-Some.ensures.value ∙ sym (text_got c.args.lines.now 0)

pub returns-in-None : goal.returns-in-None
returns-in-None c = ap text_of c.in-None.ensures.value ∙ sym (text_got c.args.lines.now 0)
