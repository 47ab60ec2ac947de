use Rattle.std.proofs.Common.{length}
use Rattle.threads_shared.proofs.tables.Tables.end_with.Given as goal

abbrev pub decreases-loop-local : goal.decreases-loop-local
decreases-loop-local g l = length l.locals.items
