use Rattle.std.proofs.Common.{arith, sym, ◌∙◌}
use Rattle.build_routes.proofs.ListLemmas.{column-past, column-read}
use Rattle.build_routes.proofs.network.signal_sets.SignalSets.column.Goals as goal

pub returns-then-word-len : goal.returns-then-word-len
returns-then-word-len c =
    c.deref.ensures.value ∙ column-read c.args.self.now.columns.items c.args.word c.index.result.now (omega (arith, c.if-word-len.true, c.len.ensures)) c.index.ensures

pub returns-else-word-len : goal.returns-else-word-len
returns-else-word-len c =
    sym (column-past c.args.self.now.columns.items c.args.word (omega (arith, c.if-word-len.false, c.len.ensures)))
