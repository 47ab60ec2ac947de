-- What is told next of a timeline.
use Rattle.view_text.specs.Occurrences.{Done, Lost, Occurrence}
use Rattle.view_text.specs.Sending.{sending_value}
use Rattle.view_text.specs.Step.{step_value}
use Rattle.view_text.specs.declared.occurrences.Occurrence as next
use Rattle.view_text.specs.declared.occurrences.Occurrence.TheVariants as is

abbrev pub occurrence_value : next.Occurrence → Occurrence
occurrence_value (is.Done step) = Done (step_value step)
occurrence_value (is.Lost lost) = Lost (sending_value lost.now)
