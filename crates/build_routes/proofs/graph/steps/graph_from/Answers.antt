use Rattle.std.proofs.Common.{get_or, false, subst}
use Rattle.build_routes.specs.Each.{ForSome}
use Rattle.build_routes.specs.Graph.{Adds}
use Rattle.build_routes.specs.Rows.{rows_of}
use Rattle.build_routes.specs.Steps.{AllSteps, ConnectSteps, PathSteps, ProcessSteps}
use Rattle.build_routes.proofs.AddLemmas.{adds_either, just_added}
use Rattle.build_routes.proofs.graph.steps.graph_from.Goals as goal

pub returns : goal.returns
returns c =
    let rows0 = rows_of c.new-graph.result in
    let rows1 = rows_of c.add_paths.new.graph in
    let rows2 = rows_of c.add_connects.new.graph in
    let rows3 = rows_of c.add_processes.new.graph in
    just_added (AllSteps c.args.network.now c.args.named.now c.args.source) rows0 (rows_of c.add_scope.new.graph) c.new-graph.ensures
    (adds_either _ _ _ _ _
    (subst (λ x. Adds (λ from step. ForSome x (λ n path. PathSteps c.args.source (get_or c.args.named.now n false) n path from step)) rows0 rows1)
    c.deref.ensures.value c.in_ok-add_paths.ensures)
    (adds_either _ _ _ _ _
    (subst (λ x. Adds (λ from step. ForSome c.args.network.now.connects.items (λ k connect. ConnectSteps x k connect from step)) rows1 rows2)
    c.deref-2.ensures.value
    (subst (λ x. Adds (λ from step. ForSome x (λ k connect. ConnectSteps c.deref-2.result.now k connect from step)) rows1 rows2)
    c.deref-3.ensures.value c.in_ok-add_connects.ensures))
    (adds_either _ _ _ _ _
    (subst (λ x. Adds (λ from step. ForSome x (λ q process. ProcessSteps c.args.network.now c.args.source q process from step)) rows2 rows3)
    c.deref-4.ensures.value c.in_ok-add_processes.ensures)
    (adds_either _ _ _ _ _ c.in_ok-add_blocks.ensures c.in_ok-add_scope.ensures))))
