-- How a timeline goes on while the environment sends.
use Rattle.std.proofs.Common.{◌≡◌, ◌==◌, ◌&&◌, ℕ, Bool, false, List, [], ◌∷◌, ◌++◌, Option, None, Some, MatchOption, if◌then◌else◌, ap, append_assoc, append-nil, length, map, refl, sym, ◌∙◌, subst}
use Rattle.std.proofs.lemmas.List.{map-append}
use Rattle.std.specs.List.{find, range_with_len}
use Rattle.std.specs.Option.{option_map}
use Rattle.run_record.specs.Record.{RecordValue}
use Rattle.sdl_system.specs.declared.route.Target as target
use Rattle.sdl_system.specs.declared.route.Target.TheVariants as reached
use Rattle.sdl_script.specs.declared.script.ScriptSignal.{ScriptSignal}
use Rattle.sdl_system.specs.Route.{target_in}
use Rattle.sdl_system.specs.System.{SystemValue}
use Rattle.sdl_system.specs.declared.route.Source.TheVariants as from
use Rattle.view_text.specs.Course.{GoesOn, IsAfter, StandsAt, with_next}
use Rattle.view_text.specs.Living.{living_in}
use Rattle.view_text.specs.Sending.{SendingValue, after, before, comes_after, did_of, is_there, least_living, least_of, lives_of, living_after, sending_of}
use Rattle.view_text.specs.Step.{step_value}
use Rattle.view_text.specs.Walk.{StepValue}
use Rattle.view_text.specs.declared.course.Course.{Course}
use Rattle.view_text.specs.declared.walk.Step.{Step}
use Rattle.view_timeline.proofs.Lifetimes.{lives-last}
use Rattle.view_timeline.specs.Lives.{lives, lives_on}

-- ---- what comes before

pub before-step : (at : ℕ) (step : StepValue) (more : List StepValue) → comes_after at step.event ≡ false
    → before at (step ∷ more) ≡ step ∷ before at more
before-step at step more is = ap (λ b. if b then [] else step ∷ before at more) is

pub after-step : (at : ℕ) (step : StepValue) (more : List StepValue) → comes_after at step.event ≡ false
    → after at (step ∷ more) ≡ after at more
after-step at step more is = ap (λ b. if b then step ∷ more else after at more) is

-- one step more is told
pub told-more : (at : ℕ) (told : List StepValue) (step : StepValue) (more : List StepValue)
    → comes_after at step.event ≡ false
    → (told ++ step ∷ []) ++ before at more ≡ told ++ before at (step ∷ more)
told-more at told step more is =
    append_assoc told (step ∷ []) (before at more) ∙ ap (λ l. told ++ l) (sym (before-step at step more is))

-- ---- up to what is sent

-- These steps are told by now, and those are left. What comes before that which is sent is the same.
pub record Comes (system : SystemValue) (records : List RecordValue) (told left : List StepValue) (at : ℕ)
    (course : Course) : Type 0 where
  pub told' : List StepValue
  pub left' : List StepValue
  pub now : IsAfter system records told' left' course
  pub told_is : told' ++ before at left' ≡ told ++ before at left
  pub left_is : after at left' ≡ after at left

pub comes-none : (system : SystemValue) (records : List RecordValue) (told left : List StepValue) (at : ℕ)
    (course : Course) → IsAfter system records told left course → Comes system records told left at course
comes-none system records told left at course now = record {
  told' = told;
  left' = left;
  now = now;
  told_is = refl;
  left_is = refl;
}

pub comes-more : (system : SystemValue) (records : List RecordValue) (told left : List StepValue) (at : ℕ)
    (old new : Course) (so_far : Comes system records told left at old)
    → GoesOn system records so_far.told' so_far.left' at new → Comes system records told left at new
comes-more system records told left at old new so_far goes = record {
  told' = so_far.told' ++ goes.step ∷ [];
  left' = goes.more;
  now = goes.is_after;
  told_is =
      told-more at so_far.told' goes.step goes.more goes.is_before
      ∙ ap (λ l. so_far.told' ++ before at l) (sym goes.left_was)
      ∙ so_far.told_is;
  left_is =
      sym (after-step at goes.step goes.more goes.is_before) ∙ ap (after at) (sym goes.left_was) ∙ so_far.left_is;
}

pub comes-to : (system : SystemValue) (records : List RecordValue) (told left : List StepValue) (at : ℕ)
    (old new : Course) (so_far : Comes system records told left at old)
    → StandsAt system records so_far.told' so_far.left' at new
    → IsAfter system records (told ++ before at left) (after at left) new
comes-to system records told left at old new so_far stands =
    subst (λ l. IsAfter system records (told ++ before at left) l new) (sym stands.all_after ∙ so_far.left_is)
    (subst (λ l. IsAfter system records l so_far.left' new)
    (sym (append-nil so_far.told') ∙ ap (λ l. so_far.told' ++ l) (sym stands.none_before) ∙ so_far.told_is)
    stands.is_after)

-- what a walk has next, and after it
pub next-left : (next : Option Step) (old new : List StepValue)
    → MatchOption next (old ≡ []) (λ step. old ≡ step_value step ∷ new) → old ≡ with_next next new
next-left None old new is = is
next-left (Some step) old new is = is

-- ---- who lives

-- once one more step is told
pub living-more : (records : List RecordValue) (told : List StepValue) (step : StepValue) (number : ℕ)
    → living_after records (told ++ step ∷ []) number ≡ lives_on number (did_of step) (living_after records told number)
living-more records told step number =
    ap (λ done. lives records done number) (map-append did_of told (step ∷ []))
    ∙ lives-last records (map did_of told) (did_of step) number

-- by two accounts of who lives
module _ (one other : ℕ → Bool) (same : (number : ℕ) → one number ≡ other number) where
  pub there-same : (to : target.Target) → is_there one to ≡ is_there other to
  there-same (reached.Instance number) = same number
  there-same reached.Env = refl
  there-same reached.Null = refl
  there-same reached.Nobody = refl

  least_of-same : (records : List RecordValue) (process : ℕ)
      → least_of one records process ≡ least_of other records process
  least_of-same records process = ap (option_map (λ (trace : RecordValue). trace.pid)) (found records)
    where
      found : (records : List RecordValue) → find (lives_of one process) records ≡ find (lives_of other process) records
      found [] = refl
      found (trace ∷ more) =
          ap (λ b. if (trace.process.0 == process) && b then Some trace else find (lives_of one process) more)
          (same trace.pid)
          ∙ ap (λ rest. if (trace.process.0 == process) && other trace.pid then Some trace else rest) (found more)

  mapped : (records : List RecordValue) (processes : List ℕ)
      → map (least_of one records) processes ≡ map (least_of other records) processes
  mapped records [] = refl
  mapped records (process ∷ more) =
      ap (λ x. x ∷ map (least_of one records) more) (least_of-same records process)
      ∙ ap (λ l. least_of other records process ∷ l) (mapped records more)

  pub least-same : (records : List RecordValue) (processes : ℕ)
      → least_living one records processes ≡ least_living other records processes
  least-same records processes = mapped records (range_with_len 0 processes)

-- ---- what is sent

abbrev pub sent_so : ScriptSignal → ℕ → target.Target → Bool → ℕ → SendingValue
sent_so signal time to there place = record {
  at = time;
  item = signal.item;
  target = to;
  arrives = there;
  place = place;
}

module _ (system : SystemValue) (records : List RecordValue) (told left : List StepValue) (course : Course) (at : ℕ)
    (signal : ScriptSignal) (now : IsAfter system records told left course) where
  abbrev least : List (Option ℕ)
  least = least_living (living_after records told) records (length system.processes)

  least-is : course.living.least.items ≡ least
  least-is =
      now.living.least.numbers
      ∙ ap (λ rs. least_living (living_in course.living) rs course.living.processes) now.living.records_are
      ∙ ap (least_living (living_in course.living) records) now.living.processes_are
      ∙ least-same (living_in course.living) (living_after records told) now.living.numbers records
      (length system.processes)

  abbrev to : target.Target
  to = target_in system.routes signal.item.name from.Env signal.to least

  pub sending-same : (time place : ℕ) (reached' : target.Target) (arrives : Bool) → time ≡ at → place ≡ course.place
      → reached' ≡ target_in system.routes signal.item.name from.Env signal.to course.living.least.items
      → arrives ≡ is_there (living_in course.living) reached'
      → sent_so signal time reached' arrives place ≡ sending_of system records told at signal
  sending-same time place reached' arrives time_is place_is reached_is arrives_is =
      ap (λ t. sent_so signal t reached' arrives place) time_is
      ∙ ap (λ n. sent_so signal at reached' arrives n) (place_is ∙ now.place)
      ∙ ap (λ there. sent_so signal at reached' there (length told)) there_is
      ∙ ap (λ r. sent_so signal at r (is_there (living_after records told) to) (length told)) to_is
    where
      to_is : reached' ≡ to
      to_is = reached_is ∙ ap (target_in system.routes signal.item.name from.Env signal.to) least-is

      there_is : arrives ≡ is_there (living_after records told) to
      there_is =
          arrives_is
          ∙ there-same (living_in course.living) (living_after records told) now.living.numbers reached'
          ∙ ap (is_there (living_after records told)) to_is
