-- A front that is no longer than the list, and one that is no shorter.
use Rattle.std.proofs.Common.{arith, sym}
use Rattle.std.proofs.lemmas.List.{length-take-le, take_all}
use Rattle.explain_syntax.proofs.lines.rows.first_shown.Goals as goal

pub slice_bounds-result-end : goal.slice_bounds-result-end
slice_bounds-result-end c = sym (length-take-le 60 c.args.bytes.now (omega arith))

pub returns-else-bytes-gt-MOST_SHOWN : goal.returns-else-bytes-gt-MOST_SHOWN
returns-else-bytes-gt-MOST_SHOWN c = sym (take_all 60 c.args.bytes.now (omega arith))
