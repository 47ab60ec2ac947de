-- The headline of a run: whatever the schedule was, each instance has done what its process does, over the standard's port
-- of one thread (Z.101: agent, input port).
use Rattle.std.specs.Prelude.{◌≡◌, true, List, ◌∷◌, ◌++◌, All}
use Rattle.port_model.specs.History.{IsLegal, PortEvent, Stop, Take}
use Rattle.port_model.specs.Laws.{IsFromOutside}
use Rattle.port_model.specs.Port.{PortState, empty_port}
use Rattle.port_model.specs.Take.{IsSaved}
use Rattle.port_model.specs.declared.selection.Class.{Class}
use Rattle.port_model.specs.declared.taken.Taken.TheVariants.{Nothing}
use Rattle.run_record.specs.Record.{RecordValue}
use Rattle.run_record.specs.declared.record.Report.{Report}
use Rattle.run_semantics.specs.Behaves.{AreBehaviours}
use Rattle.sdl_system.specs.Behaviour.{Behaviour}
use Rattle.sdl_system.specs.System.{SystemValue}
use Rattle.settle_meaning.specs.Histories.{IsRunOn}

-- ---- a port

-- After this much of the history the port lives, and all that waits in it is saved: there is nothing to consume, and
-- nothing to discard.
pub record HasNothingFor (classes : List Class) (before : List PortEvent) : Type 0 where
  pub port : PortState
  pub legal : IsLegal empty_port before port
  pub lives : port.alive ≡ true
  pub saved : All (IsSaved classes) port.waiting

-- each take that found nothing had nothing to consume at its moment
abbrev pub FindNothingRightly : List PortEvent → Type 0
FindNothingRightly history =
    (before later : List PortEvent) (classes : List Class) → history ≡ before ++ Take classes Nothing ∷ later
    → HasNothingFor classes before

-- once it has stopped, the owner asks nothing more: what comes then comes from outside
abbrev pub AsksNoMore : List PortEvent → Type 0
AsksNoMore history =
    (before later : List PortEvent) → history ≡ before ++ Stop ∷ later → All IsFromOutside later

-- ---- an instance

-- Each put, expiry and call of the owner was one step of the standard's port, one after the other, from the empty port on.
-- The record is a run of its process on just these. A take that found nothing had nothing to consume at its moment, and
-- once the instance had stopped or failed, it asked nothing more.
pub record HasHeadline (ps : List Behaviour) (system : SystemValue) (trace : RecordValue) : Type 0 where
  pub history : List PortEvent
  pub port : PortState
  pub legal : IsLegal empty_port history port
  pub run : IsRunOn ps system trace history port
  pub nothing : FindNothingRightly history
  pub stops : AsksNoMore history

-- ---- the report

-- It is so of each record of the report, for all behaviours that the processes of the system mean.
abbrev pub IsHeadline : SystemValue → Report → Type 0
IsHeadline system report =
    (ps : List Behaviour) → AreBehaviours system ps → All (HasHeadline ps system) report.records.items
