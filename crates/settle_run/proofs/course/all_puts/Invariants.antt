use Rattle.std.specs.List.{AllZip}
use Rattle.settle_run.specs.Course.{HasPutsOf}
use Rattle.settle_run.proofs.course.all_puts.Given as goal

abbrev pub invariant-loop-one : goal.invariant-loop-one
invariant-loop-one g l = AllZip (HasPutsOf g.K.Fixed.puts g.K.Fixed.owners) l.yielded l.rows.items
