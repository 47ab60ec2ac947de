-- What a step says.
use Rattle.run_record.specs.Entry.{event_of}
use Rattle.view_text.specs.Walk.{StepValue}
use Rattle.view_text.specs.declared.walk.Step.{Step}

abbrev pub step_value : Step → StepValue
step_value step = record {
  trace = step.«record».now;
  event = event_of step.entry step.values.now;
  link = step.link;
  at = step.at;
  place = step.place;
  closes = step.closes;
}
