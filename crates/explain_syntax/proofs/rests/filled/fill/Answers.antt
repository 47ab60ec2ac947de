use Rattle.std.proofs.Common.{◌<◌, ◌∙◌, ap, arith, length, rules}
use Rattle.std.proofs.lemmas.List.{get_or_default}
use Rattle.explain_syntax.specs.Rest.{byte_at}
use Rattle.explain_syntax.proofs.ChangeLemmas.{one_more}
use Rattle.explain_syntax.proofs.rests.filled.fill.Goals as goal

pub loop-at-preserved : goal.loop-at-preserved
loop-at-preserved c =
    let change = byte_at c.args.from c.args.to c.args.stops in
    let at = c.loop-at.at in
    let bytes = c.loop-at.text.items in
    let less : at < length c.args.text.now.items = search rules in
    let within : at < length bytes = omega (arith, c.loop-at.invariant.as_long, less) in
    one_more change at c.byte_at.result c.args.text.now.items bytes c.loop-at.invariant less
    (c.byte_at.ensures
    ∙ ap (change at) (c.index.ensures ∙ get_or_default bytes at c.index.result.now 0 within))
