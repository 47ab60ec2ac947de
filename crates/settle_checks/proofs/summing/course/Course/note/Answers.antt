-- The event is one more.
use Rattle.run_record.specs.Entry.{event_of}
use Rattle.settle_checks.proofs.CourseLemmas.{course_more}
use Rattle.settle_checks.specs.declared.summing.course.Course.{Course}
use Rattle.settle_checks.proofs.summing.course.Course.note.Goals as goal

pub returns : goal.returns
returns c = λ noted done values is.
    let new : Course = record {
      time = c.in-Some-time_with.time;
      start = c.in-Some-start_with.start;
      transitions = c.in-Some.transitions;
    } in
    course_more done (event_of c.args.entry values) c.args.self.now new (c.in-Some-time_with.ensures values)
    (c.in-Some-start_with.ensures values) (c.in-Some.ensures values) is
