use Rattle.std.proofs.Common.{Option, Some, None, ap, subst, sym, ◌∙◌}
use Rattle.std.proofs.lemmas.Result.{on_ok_weaker}
use Rattle.build_process.proofs.AddedLemmas.{label-enters, no-place}
use Rattle.build_process.specs.Added.{Enters}
use Rattle.build_statements.specs.Built.{BuiltIf, table_of}
use Rattle.build_statements.specs.Contexts.{context_of, label_in}
use Rattle.build_statements.specs.Transitions.{labelled}
use Rattle.sdl_system.specs.declared.id.NodeId.{NodeId}
use Rattle.sdl_tree.specs.Views.{name_value}
use Rattle.build_process.proofs.added.add_label.Goals as goal

pub returns-in_default : goal.returns-in_default
returns-in_default c = λ before found.
    let context = context_of c.args.context.now in
    let name = name_value c.args.label.now in
    let table = table_of c.args.table.now in
    subst (λ (place : Option NodeId). BuiltIf before table place found None →
    Enters before table place (labelled context (Some name) found)) (sym c.in_default.is)
    (no-place context name before table found)

pub returns-in-Some-get : goal.returns-in-Some-get
returns-in-Some-get c =
    let context = context_of c.args.context.now in
    let name = name_value c.args.label.now in
    let old = table_of c.args.table.now in
    let new = table_of c.add_label.new.self in
    on_ok_weaker c.add_label.result (λ marks before found.
    subst (λ (place : Option NodeId). BuiltIf before old place found None →
    Enters before new place (labelled context (Some name) found)) (sym c.in-Some.is)
    (λ built. label-enters context name before old new c.in-Some.node c.in-Some-get.label found
    (ap (label_in context) (sym c.deref.ensures) ∙ sym c.get.ensures ∙ c.in-Some-get.is) built marks))
    c.add_label.ensures
