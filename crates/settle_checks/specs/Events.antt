-- What the checks ask of an event.
use Rattle.std.specs.Prelude.{◌≡◌, ℕ, Contains, List, Option, None, Some}
use Rattle.run_record.specs.declared.evaluation.identity.Identity.{Identity}
use Rattle.run_record.specs.Event as event
use Rattle.run_record.specs.Event.{Event}
use Rattle.run_record.specs.Record.{RecordValue}
use Rattle.sdl_system.specs.declared.id.ProcessId.{ProcessId}
use Rattle.sdl_system.specs.declared.route.Source.TheVariants as source
use Rattle.settle_checks.specs.declared.targets.Routed.{Routed}
use Rattle.settle_meaning.specs.Identities.{identities_of}

-- the process of which the event creates null
abbrev pub refused_in : Event → Option ProcessId
refused_in (event.Create process None) = Some process
refused_in happened = None

-- the output of an instance of this process: the signal, where it is sent and where it went
abbrev pub routed_in : ProcessId → Event → Option Routed
routed_in process (event.Output signal to values target) =
    Some (record { signal = signal; from = source.Process process; to = to; target = target })
routed_in process happened = None

-- an instance with this number has a record, and is of this process
pub record IsProcessOf (records : List RecordValue) (number : ℕ) (process : ProcessId) : Type 0 where
  pub who : Identity
  pub among : Contains (identities_of records) who
  pub process_is : who.process ≡ process
  pub number_is : who.pid ≡ number
