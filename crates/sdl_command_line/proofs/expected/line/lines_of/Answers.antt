use Rattle.sdl_command_line.specs.Lines.{lines}
use Rattle.sdl_command_line.proofs.LineLemmas.{all_made, line_more}
use Rattle.sdl_command_line.proofs.expected.line.lines_of.Goals as goal

pub parts-preserved : goal.parts-preserved
parts-preserved c =
    line_more c.parts.lines.items _ c.first_line.result.0 c.parts.rest.now c.first_line.result.1.now
    (lines c.args.text.now) c.in_ok-push.ensures.items c.parts.invariant c.first_line.ensures.lines

pub returns-clause-whole : goal.returns-clause-whole
returns-clause-whole c =
    all_made c.parts.lines.items c.parts.rest.now c.args.text.now c.is_empty.result c.is_empty.ensures c.parts-test.false
    c.parts.invariant
