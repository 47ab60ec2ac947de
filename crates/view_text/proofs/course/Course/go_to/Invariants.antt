use Rattle.std.proofs.Common.{List}
use Rattle.run_record.specs.Record.{RecordValue}
use Rattle.sdl_system.specs.System.{SystemValue}
use Rattle.view_text.proofs.Going.{Comes}
use Rattle.view_text.specs.Course.{IsAfter, steps_left}
use Rattle.view_text.specs.Walk.{StepValue}
use Rattle.view_text.proofs.course.Course.go_to.Given as goal

abbrev pub invariant-steps : goal.invariant-steps
invariant-steps l =
    (system : SystemValue) (records : List RecordValue) (told left : List StepValue)
    → IsAfter system records told left l.fn.self → Comes system records told left l.at l.self

abbrev pub decreases-steps : goal.decreases-steps
decreases-steps l = steps_left l.self
