use Rattle.std.proofs.Common.{◌≡◌, ◌+◌, ◌∷◌, ◌∙◌, [], ap, length-append, rules, sym}
use Rattle.view_text.proofs.Going.{living-more, next-left}
use Rattle.view_text.specs.Course.{with_next}
use Rattle.view_text.specs.Living.{living_in}
use Rattle.view_text.specs.Sending.{did_of}
use Rattle.view_text.specs.Step.{step_value}
use Rattle.view_timeline.specs.Did.{did}
use Rattle.view_timeline.specs.Lives.{lives_on}
use Rattle.view_text.proofs.course.Course.tell.Goals as goal

pub returns-clause-told : goal.returns-clause-told
returns-clause-told c = λ system records told left now goes.
    let step = step_value c.in-Some.step in
    let old = c.args.self.now in
    record {
      step = step;
      more = old.walk;
      left_was = now.left_is ∙ ap (λ next. with_next next old.walk) c.in-Some.is;
      is_before = sym (c.comes_after.ensures c.in-Some.step.values.now) ∙ c.if-comes_after.false;
      is_after = record {
        living = record {
          records_are = ap (λ rs. rs.now) c.in_ok-note.ensures.records ∙ now.living.records_are;
          processes_are = c.in_ok-note.ensures.processes ∙ now.living.processes_are;
          numbers = λ n.
              c.in_ok-note.ensures.numbers c.in-Some.step.values.now n
              ∙ ap (λ number. lives_on n (did number step.event) (living_in old.living n)) c.pid.ensures
              ∙ ap (lives_on n (did_of step)) (now.living.numbers n)
              ∙ sym (living-more records told step n);
          least = c.in_ok-note.ensures.least now.living.least;
        };
        place =
            let more : c.in_ok-self.field-0 ≡ old.place + 1 = search rules in
            more ∙ ap (λ n. n + 1) now.place ∙ sym (length-append told (step ∷ []));
        left_is = next-left c.next-self.result old.walk c.next-self.new.self c.next-self.ensures.left;
      };
    }
