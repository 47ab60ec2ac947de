-- Laws of the serial order.
use Rattle.std.specs.Prelude.{◌≡◌, ◌++◌, ℕ, List, All, IfSome}
use Rattle.port_model.specs.declared.values.pid.Pid.TheVariants.{Env}
use Rattle.run_semantics.specs.Behaves.{AreBehaviours}
use Rattle.serial_order.specs.Execution.{Execution, Happening}
use Rattle.serial_order.specs.RunState.{RunState, beginning}
use Rattle.serial_order.specs.Times.{AreTimed}
use Rattle.serial_order.specs.Told.{AreMatched, AreTold, first_moment, lines_of}
use Rattle.sdl_script.specs.declared.script.ScriptLine.{ScriptLine}
use Rattle.sdl_script.specs.declared.script.ScriptSignal.{ScriptSignal}
use Rattle.sdl_system.specs.Behaviour.{Behaviour}
use Rattle.sdl_system.specs.System.{SystemValue}

-- this holds at the end of each run of a system from its beginning
abbrev pub AtEachEnd : (List Behaviour → SystemValue → List ScriptLine → List Happening → RunState → Type 0) → Type 0
AtEachEnd Holds =
    (ps : List Behaviour) (system : SystemValue) (lines : List ScriptLine) (time : ℕ) (happenings : List Happening)
    (last : RunState)
    → AreBehaviours system ps → Execution ps time (beginning system lines) happenings last
    → Holds ps system lines happenings last

-- The record of each instance, and a run of its process that gives it, are told by the list of all that happened.
abbrev pub EachIsTold : Type 0
EachIsTold = AtEachEnd (λ ps system lines happenings last. AreTold ps system happenings last)

-- the signals of the script come from the environment
abbrev pub AreFromEnv : List ScriptLine → Type 0
AreFromEnv lines = All (λ (line : ScriptLine). IfSome line.signal (λ (s : ScriptSignal). s.item.sender ≡ Env)) lines

-- Each signal that is put was sent, each that is sent to an instance that is there is put, once, and in the order of
-- its sender.
abbrev pub EachIsMatched : Type 0
EachIsMatched = AtEachEnd (λ ps system lines happenings last. AreFromEnv lines → AreMatched system happenings)

-- The lines of the script are heard in their order, and what is left is the rest of them.
abbrev pub LinesAreHeard : Type 0
LinesAreHeard = AtEachEnd (λ ps system lines happenings last. lines_of happenings ++ last.script ≡ lines)

-- Each time in a record is the clock's time as it was told.
abbrev pub EachReadsTheClock : Type 0
EachReadsTheClock = AtEachEnd (λ ps system lines happenings last. AreTimed (first_moment system) happenings)
