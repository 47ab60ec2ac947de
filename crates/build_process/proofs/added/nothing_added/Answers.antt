use Rattle.std.proofs.Common.{[], true, sym, subst}
use Rattle.build_process.proofs.AddedLemmas.{stand-nothing}
use Rattle.build_process.specs.Added.{Stand}
use Rattle.build_statements.specs.Built.{table_of}
use Rattle.build_process.proofs.added.nothing_added.Goals as goal

pub returns : goal.returns
returns c =
    subst (λ list. Stand (table_of c.new.result) list true []) (sym c.new-2.ensures.items)
    (stand-nothing (table_of c.new.result) c.new.ensures)
