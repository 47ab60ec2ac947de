use Rattle.std.proofs.Common.{Some}
use Rattle.std.proofs.lemmas.Result.{on_ok_weaker}
use Rattle.build_statements.specs.Built.{table_of}
use Rattle.build_statements.specs.Contexts.{context_of}
use Rattle.build_statements.specs.Transitions.{body_in, labelled}
use Rattle.sdl_tree.specs.Views.{name_value, transition_value}
use Rattle.build_process.proofs.added.add_connection.Goals as goal

pub returns-clause-added : goal.returns-clause-added
returns-clause-added c =
    let context = context_of c.args.context.now in
    let before = table_of c.args.added.now.table in
    let whole = body_in context (transition_value c.args.action.now.transition) in
    on_ok_weaker c.note_entry.result (λ more found holds.
    more before found (labelled context (Some (name_value c.args.action.now.label)) whole) holds
    (c.in_ok-add_label.ensures before whole c.in_ok-place.ensures.built)) c.note_entry.ensures
