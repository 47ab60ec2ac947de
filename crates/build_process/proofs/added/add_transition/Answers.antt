use Rattle.std.proofs.lemmas.Result.{on_ok_weaker}
use Rattle.build_process.proofs.AddedLemmas.{enters}
use Rattle.build_statements.specs.Built.{table_of}
use Rattle.build_statements.specs.Contexts.{context_of}
use Rattle.build_statements.specs.Transitions.{body_in}
use Rattle.sdl_tree.specs.Views.{transition_value}
use Rattle.build_process.proofs.added.add_transition.Goals as goal

pub returns-clause-added : goal.returns-clause-added
returns-clause-added c =
    let before = table_of c.args.added.now.table in
    let last = body_in (context_of c.args.context.now) (transition_value c.args.transition.now) in
    on_ok_weaker c.note_entry.result (λ more found holds.
    more before found last holds
    (enters before (table_of c.add.new.table) c.in_ok-place.place last c.in_ok-place.ensures.built))
    c.note_entry.ensures
