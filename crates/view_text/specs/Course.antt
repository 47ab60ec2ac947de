-- How far a timeline is told when the environment sends.
use Rattle.std.specs.Prelude.{◌≡◌, ℕ, false, ◌∷◌, ◌++◌, List, [], Option, None, Some, length}
use Rattle.run_record.specs.Record.{RecordValue}
use Rattle.sdl_system.specs.System.{SystemValue}
use Rattle.view_text.specs.Living.{AreLiving}
use Rattle.view_text.specs.Sending.{after, before, comes_after, living_after}
use Rattle.view_text.specs.Step.{step_value}
use Rattle.view_text.specs.Walk.{StepValue}
use Rattle.view_text.specs.declared.course.Course.{Course}
use Rattle.view_text.specs.declared.walk.Step.{Step}

-- the next step and those after it; if there is none, none is left
abbrev pub with_next : Option Step → List StepValue → List StepValue
with_next None later = []
with_next (Some step) later = step_value step ∷ later

-- These steps are told, and those are left.
pub record IsAfter (system : SystemValue) (records : List RecordValue) (told left : List StepValue) (course : Course)
    : Type 0 where
  pub living : AreLiving records (length system.processes) (living_after records told) course.living
  pub place : course.place ≡ length told
  pub left_is : left ≡ with_next course.next course.walk

-- how many are left
abbrev pub steps_left : Course → ℕ
steps_left course = length (with_next course.next course.walk)

-- One of those that were left is told: it comes before what is sent at this time.
pub record GoesOn (system : SystemValue) (records : List RecordValue) (told left : List StepValue) (at : ℕ)
    (course : Course) : Type 0 where
  pub step : StepValue
  pub more : List StepValue
  pub left_was : left ≡ step ∷ more
  pub is_before : comes_after at step.event ≡ false
  pub is_after : IsAfter system records (told ++ step ∷ []) more course

-- Nothing that is left comes before what is sent at this time.
pub record StandsAt (system : SystemValue) (records : List RecordValue) (told left : List StepValue) (at : ℕ)
    (course : Course) : Type 0 where
  pub none_before : before at left ≡ []
  pub all_after : after at left ≡ left
  pub is_after : IsAfter system records told left course
