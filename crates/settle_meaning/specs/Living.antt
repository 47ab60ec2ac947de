-- Where signals go (Z.101: channel; Z.102: output), by who may have lived then.
use Rattle.std.specs.Prelude.{◌≡◌, ◌==◌, ◌&&◌, ℕ, Bool, true, false, not, List, All, Contains, Option, filter, map}
use Rattle.std.specs.List.{list_any}
use Rattle.port_model.specs.Timers.{IsLeast}
use Rattle.port_model.specs.declared.values.item.SignalId.{SignalId}
use Rattle.port_model.specs.declared.values.pid.Pid.{Pid}
use Rattle.port_model.specs.declared.values.pid.Pid.TheVariants.{Null}
use Rattle.run_record.specs.declared.evaluation.identity.Identity.{Identity}
use Rattle.run_record.specs.Event as event
use Rattle.run_record.specs.Event.{Event}
use Rattle.run_record.specs.Record.{RecordValue}
use Rattle.sdl_system.specs.Route.{living_in, target_in}
use Rattle.sdl_system.specs.System.{SystemValue}
use Rattle.sdl_system.specs.declared.id.ProcessId.{ProcessId}
use Rattle.sdl_system.specs.declared.route.Dest.{Dest}
use Rattle.sdl_system.specs.declared.route.Source.{Source}
use Rattle.sdl_system.specs.declared.route.Source.TheVariants as source
use Rattle.sdl_system.specs.declared.route.Target.{Target}
use Rattle.settle_meaning.specs.Identities.{identities_of, identity_of}

-- ---- who may have lived

-- the instance ends: by a stop or by a failure
abbrev pub is_end : Event → Bool
is_end event.Stop = true
is_end (event.Failed why) = true
is_end (event.FailedAt at why) = true
is_end happened = false

-- an instance with which the system begins has no parent
abbrev pub is_null : Pid → Bool
is_null Null = true
is_null pid = false

-- an instance with which the system begins, and that never ends
abbrev pub is_lasting : RecordValue → Bool
is_lasting trace = is_null trace.parent && not (list_any is_end trace.events)

abbrev pub is_instance_of : ProcessId → Identity → Bool
is_instance_of process who = who.process.0 == process.0

-- the numbers of the instances of a process among these
abbrev pub numbers_of : ProcessId → List Identity → List ℕ
numbers_of process living = map (λ (who : Identity). who.pid) (filter (is_instance_of process) living)

-- Some instances may have lived at one time: each has a record, and each instance is among them that the system begins
-- with and that never ends. Of each process the least number among them is given.
pub record AreLiving (records : List RecordValue) (least : List (Option ℕ)) : Type 0 where
  pub living : List Identity
  pub recorded : All (Contains (identities_of records)) living
  pub lasting : All (λ (trace : RecordValue). is_lasting trace ≡ true → Contains living (identity_of trace)) records
  pub least_is : (process : ProcessId) → IsLeast (numbers_of process living) (living_in least process)

-- ---- targets

-- the signal goes where the routes of the system lead it, by some instances that may have lived then; a Pid is its own
-- target, whoever lives
pub record GoesBy (system : SystemValue) (records : List RecordValue) (signal : SignalId) (from : Source) (to : Dest)
    (target : Target) : Type 0 where
  pub least : List (Option ℕ)
  pub living : AreLiving records least
  pub goes : target ≡ target_in system.routes signal from to least

-- an event that is an output of an instance of this process has such a target
abbrev pub IsMeant : SystemValue → List RecordValue → ProcessId → Event → Type 0
IsMeant system records process (event.Output signal to values target) =
    GoesBy system records signal (source.Process process) to target
IsMeant system records process happened = Unit {0}

-- so has each output of a record
abbrev pub AreMeant : SystemValue → List RecordValue → RecordValue → Type 0
AreMeant system records trace = All (IsMeant system records trace.process) trace.events
