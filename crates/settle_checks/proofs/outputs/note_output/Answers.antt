-- The number is past the row, or has one signal more.
use Rattle.std.proofs.Common.{get_or, refl, rules, slice_set}
use Rattle.settle_checks.proofs.TallyLemmas.{output_noted, output_past}
use Rattle.settle_checks.specs.Outputs.{no_tally}
use Rattle.settle_checks.proofs.outputs.note_output.Goals as goal

pub returns-then-index-row-clause-noted : goal.returns-then-index-row-clause-noted
returns-then-index-row-clause-noted c = λ _ outlines are.
    output_past outlines c.args.row.now c.args.number are c.if-index-row.true

pub returns-clause-noted : goal.returns-clause-noted
returns-clause-noted c = λ _ outlines are.
    output_noted outlines c.args.row.now c.args.number are (get_or c.args.row.now c.args.number no_tally) c.in-Some.tally
    (slice_set c.args.row.now c.args.number c.in-Some.tally) c.if-index-row.false refl (search rules) (search rules) refl
