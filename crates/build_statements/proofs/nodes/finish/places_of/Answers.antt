use Rattle.std.proofs.Common.{◌∙◌, ◌==◌, None, Some, ap, cond, get_or, sym, take}
use Rattle.std.proofs.lemmas.Grind.{take_at_read}
use Rattle.std.specs.Option.{option_or}
use Rattle.build_statements.specs.Linked.{first_mark}
use Rattle.build_statements.specs.declared.nodes.table.Mark.{Mark}
use Rattle.build_statements.proofs.LinkLemmas.{mark-last}
use Rattle.build_statements.proofs.nodes.finish.places_of.Goals as goal

pub loop-mark-preserved : goal.loop-mark-preserved
loop-mark-preserved c = λ label.
    let marks = c.args.marks.now in
    let i = c.loop-mark.mark-index in
    let none : Mark = record { label = record { 0 = 0 }; node = record { 0 = 0 } } in
    let mark = get_or marks i none in
    c.in_ok-put.ensures label
    ∙ ap (λ o. option_or o (cond (mark.label.0 == label.0) (Some mark.node) None)) (c.loop-mark.invariant label)
    ∙ sym (ap (λ list. first_mark list label) (take_at_read marks i none c.loop-mark-test.true).1
    ∙ mark-last (take i marks) mark label)
