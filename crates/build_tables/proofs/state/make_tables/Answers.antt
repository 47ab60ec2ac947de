use Rattle.std.proofs.Common.{◌∙◌, Some, ap, map, option_map, subst}
use Rattle.build_states.specs.Tabled.{names_listed, table_value}
use Rattle.build_tables.specs.Stated.{TablesOf, states_listed}
use Rattle.build_tables.proofs.AgreeingLemmas.{tables-agree}
use Rattle.build_tables.proofs.MeaningLemmas.{states-mean}
use Rattle.build_tables.proofs.state.make_tables.Goals as goal

pub returns-clause-means : goal.returns-clause-means
returns-clause-means c =
    let parts = c.args.parts in
    let said = c.args.said.now in
    let names = names_listed c.args.names.now in
    states-mean parts.entries.now parts.valid.now parts.signals names (map table_value said.tables.items)
    said.of_states.items c.in_ok-states.states.items c.in-Some.tables.items
    (subst (λ list. TablesOf parts.entries.now parts.valid.now parts.signals (map table_value list)
    (option_map (λ made. made.items) (Some c.in-Some.tables))) c.deref.ensures.value
    (subst (λ made. TablesOf parts.entries.now parts.valid.now parts.signals (map table_value c.deref.result.now)
    (option_map (λ made. made.items) made)) c.in-Some.is c.in_ok-tables.ensures))
    (c.in_ok-states.ensures ∙ ap (states_listed names) c.deref-2.ensures.value)

pub returns-clause-agree : goal.returns-clause-agree
returns-clause-agree c =
    let parts = c.args.parts in
    let said = c.args.said.now in
    tables-agree parts.entries.now parts.valid.now parts.signals (map table_value said.tables.items)
    c.in-Some.tables.items
    (subst (λ list. TablesOf parts.entries.now parts.valid.now parts.signals (map table_value list)
    (option_map (λ made. made.items) (Some c.in-Some.tables))) c.deref.ensures.value
    (subst (λ made. TablesOf parts.entries.now parts.valid.now parts.signals (map table_value c.deref.result.now)
    (option_map (λ made. made.items) made)) c.in-Some.is c.in_ok-tables.ensures))
