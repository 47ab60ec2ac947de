use Rattle.std.proofs.Common.{◌∙◌, ap, arith, length, sym, true}
use Rattle.view_text.proofs.Least.{length-least, lowered, of_beyond, of_none}
use Rattle.view_text.proofs.living.Living.lower.Goals as goal

pub returns-in_default-clause-least : goal.returns-in_default-clause-least
returns-in_default-clause-least c = λ all lives was.
    let old = c.args.self.now in
    was ∙ sym (of_none old.records.now old.processes c.args.number lives all true
    (sym (c.process_of.ensures all) ∙ c.in_default.is))

pub returns-then-process-len-clause-least : goal.returns-then-process-len-clause-least
returns-then-process-len-clause-least c = λ all lives was.
    let old = c.args.self.now in
    lowered old.records.now old.processes c.args.number lives all old.least.items was c.in-Some.process
    (sym (c.process_of.ensures all) ∙ c.in-Some.is) (omega (arith, c.len.ensures)) c.index.result.now c.index.ensures
    c.lesser.result c.lesser.ensures

pub returns-else-process-len-clause-least : goal.returns-else-process-len-clause-least
returns-else-process-len-clause-least c = λ all lives was.
    let old = c.args.self.now in
    let len = length-least lives old.records.now old.processes in
    let items = ap length was in
    was ∙ sym (of_beyond old.records.now old.processes c.args.number lives all true c.in-Some.process
    (sym (c.process_of.ensures all) ∙ c.in-Some.is) (omega (arith, len, items, c.len.ensures)))
