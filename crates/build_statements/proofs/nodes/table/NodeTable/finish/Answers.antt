use Rattle.std.proofs.Common.{◌≡◌, ◌∙◌, List, ap, map, subst, sym}
use Rattle.std.proofs.lemmas.Result.{IfOk-weaker}
use Rattle.build_statements.specs.Built.{table_of}
use Rattle.build_statements.specs.Linked.{first_mark, linked, place_at}
use Rattle.build_statements.proofs.LinkLemmas.{same-places}
use Rattle.build_statements.proofs.MadeLemmas.{is-table}
use Rattle.sdl_system.specs.Table.{IsTableOf}
use Rattle.sdl_system.specs.declared.id.LabelId.{LabelId}
use Rattle.sdl_system.specs.declared.statement.Node.{Node}
use Rattle.build_statements.proofs.nodes.table.NodeTable.finish.Goals as goal

pub returns-clause-table : goal.returns-clause-table
returns-clause-table c =
    let table = table_of c.args.self in
    let places = c.in_ok-places.places.items in
    let are : (l : LabelId) → place_at places l ≡ first_mark table.marks l =
    λ l. c.in_ok-places.ensures l ∙ ap (λ marks. first_mark marks l) c.deref.ensures.value in
    IfOk-weaker c.link_all.result _ _ (λ list is bodies entries made closed.
    subst (λ (nodes : List Node). IsTableOf bodies entries nodes)
    (sym (is ∙ ap (λ p. map (linked (place_at p)) table.nodes) c.deref-2.ensures.value
    ∙ ap (λ f. map (linked f) table.nodes) (same-places (place_at places) (first_mark table.marks) are)))
    (is-table bodies entries table places are made closed)) c.link_all.ensures
