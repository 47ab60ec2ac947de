use Rattle.std.proofs.Common.{length, refl}
use Rattle.sdl_command_line.proofs.LineLemmas.{found_line, only_line}
use Rattle.sdl_command_line.proofs.expected.line.first_line.Goals as goal

pub returns-in-Some-clause-lines : goal.returns-in-Some-clause-lines
returns-in-Some-clause-lines c =
    found_line c.args.text.now c.split_at.result.0.now c.split_at.result.1.now c.in-Some.at c.in-Some.ensures.place
    c.split_at.ensures.front c.split_at.ensures.back

pub returns-in-None-clause-lines : goal.returns-in-None-clause-lines
returns-in-None-clause-lines c =
    only_line c.args.text.now c.split_at-in-None.result.0.now c.split_at-in-None.result.1.now (length c.args.text.now)
    c.requires c.in-None.ensures.place refl c.split_at-in-None.ensures.front c.split_at-in-None.ensures.back
