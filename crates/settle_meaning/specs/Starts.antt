-- When instances start, whom they create, and how many live on (Z.101: agent; Z.102: start, create).
use Rattle.std.specs.Prelude.{◌≡◌, ◌==◌, ◌&&◌, ◌<◌, ◌≤◌, ℕ, Bool, List, ◌∷◌, ◌++◌, All, Contains, IfSome, Some, count_by, max, not, slice_get}
use Rattle.std.specs.List.{list_any}
use Rattle.port_model.specs.declared.values.pid.Pid.TheVariants.{Null}
use Rattle.run_record.specs.Event as event
use Rattle.run_record.specs.Event.{Event}
use Rattle.run_record.specs.Record.{RecordValue}
use Rattle.sdl_system.specs.System.{SystemValue}
use Rattle.sdl_system.specs.declared.id.ProcessId.{ProcessId}
use Rattle.sdl_system.specs.declared.process.Process.{Process}
use Rattle.settle_meaning.specs.Living.{is_end}
use Rattle.settle_meaning.specs.Times.{time_by}

-- ---- starts

-- a start is at this time
abbrev pub IsStartAt : ℕ → Event → Type 0
IsStartAt time (event.Start at) = at ≡ time
IsStartAt time happened = Unit {0}

abbrev pub StartsAt : ℕ → RecordValue → Type 0
StartsAt time trace = All (IsStartAt time) trace.events

-- An instance has a greater number than its creator, and starts at the time of its create.
pub record IsBornOf (creator child : RecordValue) : Type 0 where
  pub later : creator.pid < child.pid
  pub starts : (before behind : List Event) (process : ProcessId)
      → creator.events ≡ before ++ event.Create process (Some child.pid) ∷ behind → StartsAt (time_by 0 before) child

-- an event that creates this number is in the record
abbrev pub Creates : ℕ → RecordValue → Type 0
Creates number trace = (process : ProcessId) × Contains trace.events (event.Create process (Some number))

-- Who is there at the beginning starts at time 0, and all others start as they are created.
pub record AreStarted (records : List RecordValue) : Type 0 where
  pub first : All (λ (trace : RecordValue). trace.parent ≡ Null → StartsAt 0 trace) records
  pub created : All (λ (creator : RecordValue). All (λ (child : RecordValue).
      Creates child.pid creator → IsBornOf creator child) records) records

-- ---- how many live on

-- the instance is of the process of this number, and its record has no stop and no failure
abbrev pub lives_on : ℕ → RecordValue → Bool
lives_on process trace = (trace.process.0 == process) && not (list_any is_end trace.events)

-- no more of each process live on than may live, or than the system begins with
abbrev pub IsWithin : List RecordValue → ℕ → Process → Type 0
IsWithin records number process =
    IfSome process.maximum (λ most. count_by (lives_on number) records ≤ max most process.initial)

abbrev pub AreWithin : SystemValue → List RecordValue → Type 0
AreWithin system records =
    (number : ℕ) (process : Process) → slice_get system.processes number ≡ Some process
    → IsWithin records number process
