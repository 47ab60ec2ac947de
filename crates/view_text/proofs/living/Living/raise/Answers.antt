use Rattle.std.proofs.Common.{◌∙◌, ◌-◌, ap, arith, drop, false, length, subst, sym, take}
use Rattle.std.proofs.lemmas.Bool.{false≢true}
use Rattle.view_text.specs.Living.{IsMost}
use Rattle.view_text.specs.Sending.{least_of}
use Rattle.view_text.proofs.Least.{kept, length-least, of_beyond, of_none, raised}
use Rattle.view_text.proofs.living.Living.raise.Goals as goal
use Rattle.view_text.proofs.living.Living.raise.Goals.{else-process-len-via-then-process-len+else-is_number, else-process-len-via-else-process-len}

pub returns-in_default-clause-least : goal.returns-in_default-clause-least
returns-in_default-clause-least c = λ all lives was is none.
    let old = c.args.self.now in
    was ∙ sym (of_none old.records.now old.processes c.args.number lives all false
    (sym (c.process_of.ensures all) ∙ c.in_default.is))

pub returns-then-is_number-clause-least : goal.returns-then-is_number-clause-least
returns-then-is_number-clause-least c = λ all lives was is none.
    let old = c.args.self.now in
    raised old.records.now old.processes c.args.number lives all old.least.items was c.in-Some.process
    (sym (c.process_of.ensures all) ∙ c.in-Some.is) (omega (arith, c.len.ensures)) c.index.result.now c.index.ensures
    old.most c.next_of.result (subst (IsMost old.most) is none) (c.is_number.ensures.0 c.if-is_number.true)
    (c.next_of.ensures
    ∙ ap (λ f. least_of f (take (old.most - c.args.number) (drop c.args.number old.records.now)) c.in-Some.process) is)

pub returns-else-process-len-clause-least : goal.returns-else-process-len-clause-least
returns-else-process-len-clause-least c = λ all lives was is none.
    let old = c.args.self.now in
    let len = length-least lives old.records.now old.processes in
    let items = ap length was in
    elim c.else-process-len.branch [
      | else-process-len-via-then-process-len+else-is_number w ↦
          kept old.records.now old.processes c.args.number lives all old.least.items was c.in-Some.process
          (sym (c.process_of.ensures all) ∙ c.in-Some.is) (omega
          (arith, c.len.ensures, w.if-process-len)) w.index.result.now w.index.ensures
          (λ e. false≢true (w.if-is_number.ensures.1 e))
      | else-process-len-via-else-process-len w ↦
          was ∙ sym (of_beyond old.records.now old.processes c.args.number lives all false c.in-Some.process
          (sym (c.process_of.ensures all) ∙ c.in-Some.is) (omega (arith, len, items, c.len.ensures, w.if-process-len)))
    ]
