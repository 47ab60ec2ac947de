use Rattle.settle_run.proofs.CourseLemmas.{AreNoted}
use Rattle.settle_run.proofs.course.noted_in.Given as goal

abbrev pub invariant-loop-log : goal.invariant-loop-log
invariant-loop-log l = AreNoted l.yielded l.drawn.items l.versions.items
