use Rattle.std.proofs.Common.{sym, subst}
use Rattle.std.proofs.lemmas.Result.{on_ok_weaker}
use Rattle.build_statements.specs.Built.{Built, Table, table_of}
use Rattle.sdl_system.specs.Body as body
use Rattle.build_statements.specs.declared.nodes.table.Mark.{Mark}
use Rattle.build_statements.proofs.BuiltLemmas.{Built-label, with_mark}
use Rattle.build_statements.proofs.TransitionLemmas.{table-is}
use Rattle.std.proofs.Common.{Some, ap}
use Rattle.build_statements.proofs.nodes.table.NodeTable.add_label.Goals as goal

pub returns : goal.returns
returns c =
    let old = table_of c.args.self.now in
    let mark : Mark = record { label = c.args.label; node = c.args.node } in
    on_ok_weaker c.mark.result (λ is before whole to built.
    subst (λ (t : Table). Built before t (Some c.args.node) (body.label c.args.label whole) to)
    (sym (table-is (table_of c.mark.new.self) (with_mark old mark) (ap (λ v. v.items) c.mark.ensures.nodes) is))
    (Built-label before old c.args.label c.args.node whole to built)) c.mark.ensures.marks
