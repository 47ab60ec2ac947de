use Rattle.std.proofs.Common.{arith, sym, ◌∙◌}
use Rattle.sdl_warnings.proofs.UnsetLemmas.{initial_more}
use Rattle.sdl_warnings.proofs.uninitialized.+has_initial.Goals as goal

pub returns-else-most-eq0 : goal.returns-else-most-eq0
returns-else-most-eq0 t c =
    initial_more c.args.most c.args.words.now _ c.has_initial.result c.in-len2-up.len_at_least
    (sym c.is_mark.ensures ∙ c.if-is_mark.true) (omega arith) c.has_initial.ensures
