use Rattle.std.proofs.Common.{arith, sym}
use Rattle.std.proofs.lemmas.List.{length-take-le, take_all}
use Rattle.sdl_warnings.proofs.decisions.first_compared.Goals as goal

pub slice_bounds-result-end : goal.slice_bounds-result-end
slice_bounds-result-end c = sym (length-take-le 100 c.args.earlier.now (omega arith))

pub returns-else-earlier-gt-MOST_COMPARED : goal.returns-else-earlier-gt-MOST_COMPARED
returns-else-earlier-gt-MOST_COMPARED c = sym (take_all 100 c.args.earlier.now (omega arith))
