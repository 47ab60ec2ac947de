use Rattle.std.proofs.Common.{◌≡◌, ◌++◌, drop}
use Rattle.build_names.specs.Labels.{names_listed}
use Rattle.view_coverage.specs.Sections.{rows_listed, state_rows}
use Rattle.view_coverage.proofs.covered.item_list.add_states.Given as goal

abbrev pub invariant-loop-name : goal.invariant-loop-name
invariant-loop-name l =
    rows_listed l.items.items
    ++ state_rows l.material.counts.now l.goals.number l.next (names_listed (drop l.name-index l.goals.states.items))
    ≡ rows_listed l.initial.items.items
    ++ state_rows l.material.counts.now l.goals.number 0 (names_listed l.goals.states.items)
