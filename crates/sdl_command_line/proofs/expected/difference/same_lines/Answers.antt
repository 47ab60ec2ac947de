use Rattle.sdl_command_line.proofs.DifferenceLemmas.{both_end, line_other, line_same}
use Rattle.sdl_command_line.proofs.expected.difference.same_lines.Goals as goal

pub returns-then-ne-clause-next : goal.returns-then-ne-clause-next
returns-then-ne-clause-next c =
    line_other c.args.wanted.now c.args.told.now c.loop-at.at c.min-len.result c.ne.result _ _ c.min-len.ensures
    c.loop-at-test.true c.ne.ensures c.if-ne.true

pub loop-at-preserved : goal.loop-at-preserved
loop-at-preserved c =
    line_same c.args.wanted.now c.args.told.now c.loop-at.at c.min-len.result c.ne.result _ _ c.min-len.ensures
    c.loop-at-test.true c.ne.ensures c.if-ne.false c.loop-at.invariant

pub returns-clause-next : goal.returns-clause-next
returns-clause-next c = both_end c.args.wanted.now c.args.told.now c.min-len.result c.min-len.ensures
