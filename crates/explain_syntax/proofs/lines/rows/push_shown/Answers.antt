use Rattle.explain_syntax.specs.Rows.{shown_byte}
use Rattle.explain_syntax.proofs.ByteLemmas.{all_made, one_more}
use Rattle.explain_syntax.proofs.lines.rows.push_shown.Goals as goal

pub loop-byte-preserved : goal.loop-byte-preserved
loop-byte-preserved c =
    one_more shown_byte _ _ _ c.args.bytes.now c.loop-byte.byte-index c.shown_byte.result c.loop-byte-test.true
    c.loop-byte.invariant c.shown_byte.ensures c.in_ok-push.ensures.items

pub returns : goal.returns
returns c =
    all_made shown_byte _ _ c.args.bytes.now c.loop-byte.byte-index c.loop-byte-test.false c.loop-byte.invariant
