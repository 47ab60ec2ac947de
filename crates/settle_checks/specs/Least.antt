-- The least numbers of the instances of each process.
use Rattle.std.specs.Prelude.{◌≡◌, ◌<◌, ℕ, List, Option, Some, filter, length, map, slice_set}
use Rattle.port_model.specs.Timers.{IsLeast, earlier}
use Rattle.run_record.specs.declared.evaluation.identity.Identity.{Identity}
use Rattle.run_record.specs.Record.{RecordValue}
use Rattle.sdl_system.specs.Route.{living_in}
use Rattle.sdl_system.specs.declared.id.ProcessId.{ProcessId}
use Rattle.settle_meaning.specs.Identities.{identity_of}
use Rattle.settle_meaning.specs.Living.{is_lasting, numbers_of}

-- of each process the least number among these instances is given
abbrev pub HasLeast : List Identity → List (Option ℕ) → Type 0
HasLeast living least = (process : ProcessId) → IsLeast (numbers_of process living) (living_in least process)

-- the instances with which the system begins and that never end
abbrev pub lasting_of : List RecordValue → List Identity
lasting_of records = map identity_of (filter is_lasting records)

-- with one instance more, of a process of these
pub record Adds (old : List (Option ℕ)) (process : ProcessId) (number : ℕ) (new : List (Option ℕ)) : Type 0 where
  pub within : process.0 < length old
  pub now : new ≡ slice_set old process.0 (earlier (living_in old process) (Some number))
