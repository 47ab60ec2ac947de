use Rattle.std.proofs.Common.{◌++◌, ◌∙◌, ap, append-nil, sym}
use Rattle.run_record.proofs.PackedLemmas.{time_to-other, time_to-same}
use Rattle.run_record.proofs.record.put_time.Goals as goal

pub returns-then-at-before-clause-items : goal.returns-then-at-before-clause-items
returns-then-at-before-clause-items c =
    let items = c.args.entries.now.items in
    sym (append-nil items)
    ∙ ap (λ l. items ++ l) (sym (time_to-same c.args.before c.args.at c.if-at-before.true))

pub returns-clause-items : goal.returns-clause-items
returns-clause-items c =
    c.push_reserved.ensures.items
    ∙ ap (λ l. c.args.entries.now.items ++ l) (sym (time_to-other c.args.before c.args.at c.if-at-before.false))
