use Rattle.std.proofs.Common.{◌∙◌, ap, flat_map, map}
use Rattle.build_names.specs.Faults.{least_of}
use Rattle.build_states.specs.States.{left_out_faults}
use Rattle.build_states.specs.Tabled.{is_state}
use Rattle.build_states.specs.Context.{context_of}
use Rattle.build_states.specs.Reading.{body_faults}
use Rattle.sdl_tree.specs.Views.{body_part_value}
use Rattle.build_process.specs.ProcessScope.{for_stimuli, process_scope_of}
use Rattle.build_process.proofs.FaultLemmas.{two-noted}
use Rattle.build_process.proofs.process.read_parts.Goals as goal

pub returns-clause-noted : goal.returns-clause-noted
returns-clause-noted c =
    let context = for_stimuli (process_scope_of c.args.around.now) in
    let body = map body_part_value c.args.definition.now.body.items in
    let left_out = left_out_faults (is_state c.args.around.now.states.table.now) in
    let old = c.args.faults.now in
    let first = c.read_body.new.faults in
    two-noted old first c.note_left_out.new.faults (body_faults context body) (flat_map left_out body)
    (c.in_ok-read.ensures.noted
    ∙ ap (λ list. least_of old (body_faults (context_of c.for_stimuli-context.result) (map body_part_value list)))
    c.deref.ensures.value
    ∙ ap (λ one. least_of old (body_faults one body)) c.for_stimuli-context.ensures)
    (c.note_left_out.ensures
    ∙ ap (λ list. least_of first (flat_map left_out (map body_part_value list))) c.deref-2.ensures.value)
