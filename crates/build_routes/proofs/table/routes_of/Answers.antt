use Rattle.build_routes.specs.declared.network.joined.End.TheVariants as at
use Rattle.build_routes.specs.declared.network.joined.Scope.TheVariants as its
use Rattle.build_routes.proofs.TableLemmas.{row_kept, routes_are}
use Rattle.build_routes.proofs.table.routes_of.Goals as goal

pub returns : goal.returns
returns c =
    routes_are c.args.network.now (record { lists = c.in_ok-lists.lists; env = c.in_ok-env.env; processes = c.in_ok-processes.processes })
    c.process_rows.new.lists c.in_ok-lists.ensures.lists c.in_ok-lists.ensures.distinct
    (row_kept c.args.network.now (record { end = at.Env; scope = its.System }) c.row_from.new.lists c.process_rows.new.lists c.args.network.now.signals
    c.in_ok-env.env.items c.in_ok-processes.ensures.kept c.in_ok-env.ensures.row)
    c.in_ok-processes.ensures.rows
