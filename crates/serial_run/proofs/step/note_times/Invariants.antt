-- So many are noted so far.
use Rattle.std.proofs.Common.{replicate}
use Rattle.serial_run.proofs.step.note_times.Given as goal
use Rattle.serial_run.specs.Told.{NotesThese}

abbrev pub invariant-loop : goal.invariant-loop
invariant-loop l = NotesThese l.fn.order (replicate l.counter l.number) l.order
