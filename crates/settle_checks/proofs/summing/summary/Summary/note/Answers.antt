-- Each part of the summary has one event more.
use Rattle.std.proofs.lemmas.Result.{IfOk-weaker}
use Rattle.settle_checks.proofs.summing.summary.Summary.note.Goals as goal

pub returns : goal.returns
returns c =
    IfOk-weaker c.note-5.result _ _
    (λ noted taking right done values is. record {
      course = c.note.ensures c.if-not-note.false done values is.course;
      fate = c.note-2.ensures done values is.fate;
      creating = c.in_ok-note.ensures.noted done values is.course.time (c.in-Some.ensures c.args.process done is)
          is.creating;
      sending = c.in_ok-note-2.ensures c.if-not-branch.false done values is.course.time is.sending;
      taking = taking right done values is.taking;
    })
    c.note-5.ensures
