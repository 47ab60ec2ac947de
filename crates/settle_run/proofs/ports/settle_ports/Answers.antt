-- All ports are counted, and all are looked at. The rows are those of the counted ports.
use Rattle.std.proofs.Common.{subst, sym}
use Rattle.settle_run.proofs.CourseLemmas.{counted_puts}
use Rattle.settle_run.specs.Parts.{AreThensOf}
use Rattle.settle_run.proofs.ports.settle_ports.Goals as goal

pub look_at_all-requires : goal.look_at_all-requires
look_at_all-requires g c = subst (AreThensOf g.K.Fixed.owners) (sym c.deref.ensures.value) c.requires.thens

pub returns-clause-kept : goal.returns-clause-kept
returns-clause-kept g c =
    counted_puts g.K.Fixed.puts g.K.Fixed.owners c.args.ports.places.len c.args.records.now c.in_ok-counted.counted.items
    c.in_ok-kept.kept c.in_ok-counted.ensures c.in_ok-kept.ensures.puts
