use Rattle.explain_syntax.specs.Rows.{blank_for}
use Rattle.explain_syntax.proofs.ByteLemmas.{all_made, one_more}
use Rattle.explain_syntax.proofs.lines.rows.push_blanks.Goals as goal

pub loop-byte-preserved : goal.loop-byte-preserved
loop-byte-preserved c =
    one_more blank_for _ _ _ c.args.bytes.now c.loop-byte.byte-index c.blank_for.result c.loop-byte-test.true
    c.loop-byte.invariant c.blank_for.ensures c.in_ok-push.ensures.items

pub returns : goal.returns
returns c =
    all_made blank_for _ _ c.args.bytes.now c.loop-byte.byte-index c.loop-byte-test.false c.loop-byte.invariant
