use Rattle.std.proofs.Common.{All, length, ◌≡◌, ◌∙◌, Some, ap, map, subst}
use Rattle.std.proofs.lemmas.Result.{IfOk-weaker}
use Rattle.build_process.specs.Added.{HasEach}
use Rattle.build_flow.specs.Beginnings.{beginnings}
use Rattle.build_states.specs.Shared.{IsOfName}
use Rattle.build_process.specs.Sound.{AreTransitionsOf}
use Rattle.build_states.specs.States.{state_of, tables_of}
use Rattle.build_states.specs.Tabled.{is_state, meanings_at, names_listed, table_value}
use Rattle.build_states.proofs.ProcessLemmas.{meanings-read}
use Rattle.build_states.specs.Listed.{part_value}
use Rattle.build_states.specs.Reading.{process_read}
use Rattle.sdl_tree.specs.Views.{process_value}
use Rattle.build_process.specs.Made.{Said}
use Rattle.build_process.specs.ProcessScope.{for_stimuli, for_transitions, process_scope_of}
use Rattle.build_process.proofs.FaultLemmas.{body-noted, on-ok, states-noted}
use Rattle.build_process.proofs.KeepsLemmas.{made-keeps, named-enabling}
use Rattle.build_process.proofs.MeaningLemmas.{made-means}
use Rattle.build_process.proofs.RefusedLemmas.{made-unless, no-flow}
use Rattle.build_process.proofs.process.make_process.Goals as goal

pub returns-in_default-clause-noted : goal.returns-in_default-clause-noted
returns-in_default-clause-noted c =
    let around = process_scope_of c.args.around.now in
    let process = process_value c.args.definition.now in
    let context = for_stimuli around in
    let old = c.args.faults.now in
    let second = c.read_states.new.faults in
    let are : map part_value c.deref.result.now ≡ (process_read context process).parts =
    ap (map part_value) c.deref.ensures.value
    ∙ ap (λ reading. reading.parts) c.in_ok-numbering.ensures.read in
    body-noted around process old second c.read_flow.new.faults
    (states-noted context process (is_state c.args.around.now.states.table.now) (map part_value c.deref.result.now)
    (names_listed c.args.around.now.states.names.now) old c.read_parts.new.faults second c.requires.table are
    c.requires.names c.in_ok-numbering.ensures.noted c.in_ok-said.ensures.noted) c.in_ok-transitions.ensures.noted

pub returns-clause-noted : goal.returns-clause-noted
returns-clause-noted c =
    let around = process_scope_of c.args.around.now in
    let process = process_value c.args.definition.now in
    let context = for_stimuli around in
    let old = c.args.faults.now in
    let second = c.read_states.new.faults in
    let are : map part_value c.deref.result.now ≡ (process_read context process).parts =
    ap (map part_value) c.deref.ensures.value
    ∙ ap (λ reading. reading.parts) c.in_ok-numbering.ensures.read in
    on-ok c.process_of.result
    (body-noted around process old second c.read_flow.new.faults
    (states-noted context process (is_state c.args.around.now.states.table.now) (map part_value c.deref.result.now)
    (names_listed c.args.around.now.states.names.now) old c.read_parts.new.faults second c.requires.table are
    c.requires.names c.in_ok-numbering.ensures.noted c.in_ok-said.ensures.noted) c.in_ok-transitions.ensures.noted)

pub returns-clause-means : goal.returns-clause-means
returns-clause-means c =
    let around = process_scope_of c.args.around.now in
    let process = process_value c.args.definition.now in
    let context = for_stimuli around in
    let parts = (process_read context process).parts in
    let names = names_listed c.args.around.now.states.names.now in
    let said : Said = record {
      names = names;
      tables = map table_value c.in_ok-said.said.tables.items;
      numbers = c.in_ok-said.said.of_states.items;
      conditions = c.in_ok-numbering.field-0.numbering.conditions.items;
    } in
    let are : map part_value c.deref.result.now ≡ parts =
    ap (map part_value) c.deref.ensures.value
    ∙ ap (λ reading. reading.parts) c.in_ok-numbering.ensures.read in
    IfOk-weaker c.process_of.result _ _
    (made-means around process c.args.heading said c.in-Some.transitions
    (subst (AreTransitionsOf (for_transitions around) process) c.in-Some.is c.in_ok-transitions.ensures.table)
    (subst (HasEach (length (beginnings process))) c.in-Some.is c.in_ok-transitions.ensures.entries)
    (ap (λ reading. reading.numbering.conditions) c.in_ok-numbering.ensures.read)
    (ap (meanings_at names) (c.in_ok-said.ensures.read ∙ ap (λ list. map (λ t. Some t) (tables_of list names)) are)
    ∙ meanings-read parts names
    ∙ ap (λ list. map (λ m. Some m) (map (state_of parts) list)) c.requires.names)) c.process_of.ensures

pub returns-in_default-clause-there : goal.returns-in_default-clause-there
returns-in_default-clause-there c =
    let around = process_scope_of c.args.around.now in
    no-flow around (process_value c.args.definition.now) c.in_ok-transitions.field-0 c.in_default.is
    c.in_ok-transitions.ensures.table

pub returns-clause-there : goal.returns-clause-there
returns-clause-there c =
    let around = process_scope_of c.args.around.now in
    let process = process_value c.args.definition.now in
    let parts = (process_read (for_stimuli around) process).parts in
    let said : Said = record {
      names = names_listed c.args.around.now.states.names.now;
      tables = map table_value c.in_ok-said.said.tables.items;
      numbers = c.in_ok-said.said.of_states.items;
      conditions = c.in_ok-numbering.field-0.numbering.conditions.items;
    } in
    let are : map part_value c.deref.result.now ≡ parts =
    ap (map part_value) c.deref.ensures.value ∙ ap (λ reading. reading.parts) c.in_ok-numbering.ensures.read in
    IfOk-weaker c.process_of.result _ _
    (made-unless around process said c.in-Some.transitions
    (subst (HasEach (length (beginnings process))) c.in-Some.is c.in_ok-transitions.ensures.entries)
    (ap (λ reading. reading.numbering.conditions) c.in_ok-numbering.ensures.read)
    (subst (λ list. All (IsOfName list) said.tables) are c.in_ok-said.ensures.each) c.args.heading) c.process_of.ensures

pub returns-clause-keeps : goal.returns-clause-keeps
returns-clause-keeps c =
    let around = process_scope_of c.args.around.now in
    let process = process_value c.args.definition.now in
    let context = for_stimuli around in
    let said : Said = record {
      names = names_listed c.args.around.now.states.names.now;
      tables = map table_value c.in_ok-said.said.tables.items;
      numbers = c.in_ok-said.said.of_states.items;
      conditions = c.in_ok-numbering.field-0.numbering.conditions.items;
    } in
    let are : map part_value c.deref.result.now ≡ (process_read context process).parts =
    ap (map part_value) c.deref.ensures.value ∙ ap (λ reading. reading.parts) c.in_ok-numbering.ensures.read in
    IfOk-weaker c.process_of.result _ _
    (made-keeps around.signals said c.in-Some.transitions c.args.heading
    (named-enabling context process.body said.tables
    (subst (λ list. All (IsOfName list) said.tables) are c.in_ok-said.ensures.each))) c.process_of.ensures
