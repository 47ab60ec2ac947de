-- What is kept of a run for those who draw it, or tell what it covered.
use Rattle.std.specs.Prelude.{◌≡◌, ◌⊎◌, ℕ, Bool, true, false, List, Option, None, Some, IfSome}
use Rattle.sdl_failures.specs.Ending.{has_failed}
use Rattle.run_semantics.specs.Behaves.{AreBehaviours}
use Rattle.sdl_engine.specs.Input.{IsRead}
use Rattle.sdl_engine.specs.declared.input.Input.{Input}
use Rattle.sdl_engine.specs.declared.input.Input.TheVariants.{Held, TooLong}
use Rattle.sdl_engine.specs.declared.texts.Texts.{Texts}
use Rattle.sdl_system.specs.Behaviour.{Behaviour}
use Rattle.sdl_engine.specs.Answer.{IsRunOfInput, TellsRun, outcome_by}
use Rattle.sdl_engine.specs.Log.{IsLogBy}
use Rattle.sdl_engine.specs.declared.options.Command.TheVariants as command
use Rattle.sdl_engine.specs.declared.options.Options.{Options}
use Rattle.sdl_engine.specs.declared.options.Outcome.{Outcome}
use Rattle.sdl_engine.specs.declared.options.Outcome.TheVariants as outcome
use Rattle.sdl_engine.specs.declared.run.Run.{Run}

-- What was kept of this run, with so many workers, so that its order can be told: for all behaviours that the processes
-- of its system mean.
abbrev pub IsLogged : Option ℕ → ℕ → Run → Type 0
IsLogged workers limit run = (ps : List Behaviour) → AreBehaviours run.system ps
    → IfSome run.log (IsLogBy workers ps run.system run.script.lines.items limit run.report)

-- This is a run of the input as it was asked for. It came to this, and what went out tells it, up to the instance that
-- can't go on, if one can't.
pub record IsToldRun (input : Input) (options : Options) (how : Outcome) (run : Run) (stuck : Option ℕ)
    (old new : Option (List ℕ)) : Type 0 where
  pub asked : options.command ≡ command.Run
  pub ran : IsRunOfInput input options.workers options.limit run.system run.report run.script.lines.items
      run.log
  pub came : how ≡ outcome_by run.report.whole
  pub tells : TellsRun options.view run.log run.system run.report run.script.lines.items stuck old new

-- No run was told: it was a check, or something was refused.
abbrev pub TellsNoRun : Options → Outcome → Type 0
TellsNoRun options how =
    (options.command ≡ command.Check) ⊎ (how ≡ outcome.TextRefused) ⊎ (how ≡ outcome.RunRefused)

-- There is no run to keep: none is to be kept, or none was told.
abbrev pub HasNone : Bool → Options → Outcome → Type 0
HasNone keeps options how = (keeps ≡ false) ⊎ TellsNoRun options how

-- The run that is kept is the one that was told.
abbrev pub KeepsRun : Bool → Input → Options → Outcome → Option Run → Option ℕ → Option (List ℕ) → Option (List ℕ)
    → Type 0
KeepsRun keeps input options how None stuck old new = HasNone keeps options how
KeepsRun keeps input options how (Some run) stuck old new =
    (keeps ≡ true) × IsToldRun input options how run stuck old new

-- the texts that are kept with a run of this input
abbrev pub texts_with : Option Run → Input → Option Texts
texts_with None input = None
texts_with (Some run) TooLong = None
texts_with (Some run) (Held texts) = Some texts

-- The whole input was read. If that is asked for, the run of it that was told is kept, and with it the texts of the
-- input.
pub record IsKept (keeps : Bool) (text : Option (List ℕ)) (script : Option (Option (List ℕ))) (options : Options)
    (how : Outcome) (run : Option Run) (texts : Option Texts) (stuck : Option ℕ)
    (old new : Option (List ℕ)) : Type 0 where
  pub input : Input
  pub read : IsRead text script input
  pub keeps_run : KeepsRun keeps input options how run stuck old new
  pub keeps_texts : texts ≡ texts_with run input

-- no failure is told: none is to be told, or none came
abbrev pub TellsNone : Bool → Bool → Type 0
TellsNone tells failed = tells ≡ true → failed ≡ false

-- this is whether an instance of the run that was told failed, by its records
pub record FailsAsTold (input : Input) (options : Options) (how : Outcome) (stuck : Option ℕ) (failed : Bool)
    (old new : Option (List ℕ)) : Type 0 where
  pub run : Run
  pub told : IsToldRun input options how run stuck old new
  pub is : failed ≡ has_failed run.report.records.items

-- the same of any command: where no run was told, none failed
abbrev pub SaysFailed : Input → Options → Outcome → Option ℕ → Bool → Option (List ℕ) → Option (List ℕ) → Type 0
SaysFailed input options how stuck failed old new =
    (TellsNoRun options how × (failed ≡ false)) ⊎ FailsAsTold input options how stuck failed old new

-- The whole input was read, and this is whether an instance of the run of it that was told failed.
pub record KnowsFailed (text : Option (List ℕ)) (script : Option (Option (List ℕ))) (options : Options) (how : Outcome)
    (stuck : Option ℕ) (failed : Bool) (old new : Option (List ℕ)) : Type 0 where
  pub input : Input
  pub read : IsRead text script input
  pub says : SaysFailed input options how stuck failed old new
