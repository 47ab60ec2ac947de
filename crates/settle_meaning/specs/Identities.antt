-- Whose the records of a report are (Z.101: agent; Z.102: create).
use Rattle.std.specs.Prelude.{◌≡◌, ◌==◌, ◌<◌, ◌≤◌, ◌+◌, ◌++◌, ℕ, zero, suc, Bool, true, false, List, [], ◌∷◌, Option, None, Some, IsPermutation, count_by, length, map, slice_get}
use Rattle.std.specs.List.{flat_map, list_any}
use Rattle.std.specs.Option.{option_map_or}
use Rattle.port_model.specs.declared.values.pid.Pid.TheVariants.{Null, Of}
use Rattle.run_record.specs.declared.evaluation.identity.Identity.{Identity}
use Rattle.run_record.specs.Event as event
use Rattle.run_record.specs.Event.{Event}
use Rattle.run_record.specs.Record.{RecordValue}
use Rattle.run_record.specs.declared.failure.Failure.TheVariants.{Memory}
use Rattle.run_semantics.specs.World.{most_instances}
use Rattle.sdl_system.specs.System.{SystemValue}
use Rattle.sdl_system.specs.declared.id.ProcessId.{ProcessId}
use Rattle.sdl_system.specs.declared.process.Process.{Process}

-- who the instance of a record is
abbrev pub identity_of : RecordValue → Identity
identity_of trace = record { process = trace.process; pid = trace.pid; parent = trace.parent }

abbrev pub identities_of : List RecordValue → List Identity
identities_of records = map identity_of records

-- ---- who there is

-- the first of these instances has this number
abbrev pub first_of : ℕ → ProcessId → ℕ → List Identity
first_of number process zero = []
first_of number process (suc more) =
    record { process = process; pid = number; parent = Null } ∷ first_of (number + 1) process more

-- so many instances of each process as its head says, in the order of the text; the first process here has the number
-- `id`, and its first instance the number `number`
abbrev pub first_identities : ℕ → ℕ → List Process → List Identity
first_identities number id [] = []
first_identities number id (process ∷ more) =
    first_of number (record { 0 = id }) process.initial ++ first_identities (number + process.initial) (id + 1) more

-- the instances with which a system begins
abbrev pub initial_of : SystemValue → List Identity
initial_of system = first_identities 1 0 system.processes

-- whom an event of the instance `parent` creates: one, where it is a create that gave a number
abbrev pub created_by : ℕ → Event → List Identity
created_by parent (event.Create process (Some number)) =
    record { process = process; pid = number; parent = Of parent } ∷ []
created_by parent happened = []

abbrev pub created_in : RecordValue → List Identity
created_in trace = flat_map (created_by trace.pid) trace.events

-- the instances with which a system begins, and those that the records create
abbrev pub all_made : SystemValue → List RecordValue → List Identity
all_made system records = initial_of system ++ flat_map created_in records

-- the numbers of the records rise
abbrev pub AreRising : ℕ → List RecordValue → Type 0
AreRising last [] = Unit {0}
AreRising last (trace ∷ rest) = (last < trace.pid) × AreRising trace.pid rest

-- Each instance with which the system begins has a record, and so has each that a create gave a number: one of its own,
-- of just that process and with that parent. There is no other record, and no number is there twice.
pub record AreMade (system : SystemValue) (records : List RecordValue) : Type 0 where
  pub each : IsPermutation (all_made system records) (identities_of records)
  pub rising : AreRising 0 records

-- ---- creates that give null

abbrev pub is_of_process : ProcessId → RecordValue → Bool
is_of_process process trace = trace.process.0 == process.0

-- how many records there are of a process
abbrev pub count_of : List RecordValue → ProcessId → ℕ
count_of records process = count_by (is_of_process process) records

-- how many instances of a process may live at most, where that is bounded: none of one that the system doesn't have
abbrev pub most_of : SystemValue → ProcessId → Option ℕ
most_of system process = option_map_or (λ (p : Process). p.maximum) (slice_get system.processes process.0) (Some 0)

-- a failure for lack of memory
abbrev pub is_memory : Event → Bool
is_memory (event.Failed Memory) = true
is_memory (event.FailedAt at Memory) = true
is_memory happened = false

abbrev pub fails_by_memory : RecordValue → Bool
fails_by_memory trace = list_any is_memory trace.events

-- Why a create gives null: the records hold as many instances of the process as may live, or as many as there may be in
-- all; or memory was wanting somewhere.
pub data HasNoNumber (system : SystemValue) (records : List RecordValue) (process : ProcessId) : Type 0 where
  as_many : (most : ℕ) → most_of system process ≡ Some most → most ≤ count_of records process
      → HasNoNumber system records process
  all_given : most_instances ≤ length records → HasNoNumber system records process
  no_memory : list_any fails_by_memory records ≡ true → HasNoNumber system records process

-- an event that is a create of null has such a cause
abbrev pub HasCause : SystemValue → List RecordValue → Event → Type 0
HasCause system records (event.Create process None) = HasNoNumber system records process
HasCause system records happened = Unit {0}
