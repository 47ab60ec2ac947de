use Rattle.std.proofs.Common.{None, option_map}
use Rattle.build_statements.specs.Built.{table_of}
use Rattle.build_statements.specs.Contexts.{context_of}
use Rattle.build_statements.proofs.ListLemmas.{if_on}
use Rattle.build_statements.proofs.TransitionLemmas.{ending-built, placed-built}
use Rattle.sdl_tree.specs.Views.{name_value}
use Rattle.build_statements.proofs.nodes.transition.add_terminator.Goals as goal

pub returns-clause-built : goal.returns-clause-built
returns-clause-built c =
    let old = table_of c.args.table.now in
    if_on c.place.result c.place.ensures.place c.place.ensures.table (λ place is table_is.
    placed-built old _ _ place _ _ c.args.next table_is is
    (ending-built (context_of c.args.context.now) old (option_map name_value c.args.ending.now.label)
    c.resolve_terminator-statement.result _ None c.args.next c.resolve_terminator-statement.ensures.terminator))
