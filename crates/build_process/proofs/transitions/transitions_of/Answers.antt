use Rattle.std.proofs.Common.{subst}
use Rattle.std.proofs.lemmas.List.{length-map}
use Rattle.std.proofs.lemmas.Result.{IfOk-weaker}
use Rattle.build_process.proofs.AddedLemmas.{each-entry}
use Rattle.build_process.proofs.CloseLemmas.{bodies-closed}
use Rattle.build_process.specs.Added.{HasEach}
use Rattle.build_process.specs.Bodies.{beginning_body, bodies_of}
use Rattle.build_flow.specs.Beginnings.{beginnings}
use Rattle.build_statements.specs.Built.{table_of}
use Rattle.build_statements.specs.Contexts.{context_of}
use Rattle.sdl_tree.specs.Views.{process_value}
use Rattle.build_process.proofs.transitions.transitions_of.Goals as goal

pub returns-clause-table : goal.returns-clause-table
returns-clause-table c =
    let context = context_of c.args.context.now in
    let process = process_value c.args.process.now in
    IfOk-weaker c.finished.result _ _ (λ transitions table bodies same none numbered.
    let closed = bodies-closed context process bodies same none numbered in
    table bodies (c.in_ok-added.ensures.added.made bodies same
    (record { ends = closed.ends; once = closed.once })) closed) c.finished.ensures.table

pub returns-clause-entries : goal.returns-clause-entries
returns-clause-entries c =
    let context = context_of c.args.context.now in
    let process = process_value c.args.process.now in
    let added = c.in_ok-added.added in
    IfOk-weaker c.finished.result _ _ (λ transitions are.
    subst (λ n. HasEach n transitions) (length-map (beginnings process) (beginning_body context))
    (each-entry (table_of added.table) added.entries.items added.is_whole (bodies_of context process) transitions
    c.in_ok-added.ensures.added are)) c.finished.ensures.entries
