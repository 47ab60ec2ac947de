use Rattle.sdl_command_line.specs.Shown.{shown_byte}
use Rattle.sdl_command_line.proofs.GrowthLemmas.{all_made, one_more}
use Rattle.sdl_command_line.proofs.expected.shown.push_bytes.Goals as goal

pub loop-byte-preserved : goal.loop-byte-preserved
loop-byte-preserved c =
    one_more shown_byte _ _ _ c.args.bytes.now c.loop-byte.byte-index c.shown_byte.result c.loop-byte-test.true
    c.loop-byte.invariant c.shown_byte.ensures c.in_ok-push.ensures.items

pub returns : goal.returns
returns c =
    all_made shown_byte _ _ c.args.bytes.now c.loop-byte.byte-index c.loop-byte-test.false c.loop-byte.invariant
