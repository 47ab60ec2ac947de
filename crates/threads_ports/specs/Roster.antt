-- The instances of all processes of a system: a list that has those of each process at its number. And how often it has
-- changed who lives.
use Rattle.std.specs.Prelude.{◌≡◌, ◌+◌, ◌-◌, ◌^◌, ℕ, Bool, false, List, All, Option, map, min, slice_get, slice_set}
use Rattle.std.specs.Option.{option_map_or}
use Rattle.threads_ports.specs.Instances.{InstancesValue, AreAscending, AreWithinLimit, can_live, has_room, least, none_of}
use Rattle.threads_ports.specs.NumberSets.{is_in}
use Rattle.sdl_system.specs.declared.id.ProcessId.{ProcessId}
use Rattle.sdl_system.specs.declared.process.Process.{Process}

-- nobody lives, of these processes
abbrev pub none_living : List Process → List InstancesValue
none_living processes = map (λ p. none_of p.maximum) processes

-- for each process the least number of its living instances
abbrev pub least_living : List InstancesValue → List (Option ℕ)
least_living roster = map least roster

-- whether one more instance of a process may be made; none of a process that isn't there
abbrev pub has_room_in : List InstancesValue → ProcessId → Bool
has_room_in roster process = option_map_or has_room (slice_get roster process.0) false

-- whether an instance of a process can come to life
abbrev pub can_live_in : List InstancesValue → ProcessId → ℕ → Bool
can_live_in roster process number = option_map_or (can_live number) (slice_get roster process.0) false

-- whether an instance of a process lives
abbrev pub lives_in : List InstancesValue → ProcessId → ℕ → Bool
lives_in roster process number =
    option_map_or (λ (instances : InstancesValue). is_in number instances.living) (slice_get roster process.0) false

-- the instances of one process are changed, and those of no other
abbrev pub with_changed : (InstancesValue → InstancesValue) → List InstancesValue → ProcessId → List InstancesValue
with_changed change roster process =
    option_map_or (λ instances. slice_set roster process.0 (change instances)) (slice_get roster process.0) roster

-- the least numbers are at hand, no maximum is passed, and who lives stands in ascending order
pub record IsKept (roster : List InstancesValue) (at_hand : List (Option ℕ)) : Type 0 where
  pub least_is : at_hand ≡ least_living roster
  pub within : All AreWithinLimit roster
  pub ascending : All AreAscending roster

-- ---- the version

-- what a caller sees of a roster: the instances of each process, and its version
pub record RosterValue : Type 0 where
  pub processes : List InstancesValue
  pub version : ℕ

-- the next version, as 64 bits count
abbrev pub next_version : ℕ → ℕ
next_version version = min (version + 1) (2 ^ 64 - 1)

-- the reservations of a process are changed: the version stays
abbrev pub reserved_in : (InstancesValue → InstancesValue) → RosterValue → ProcessId → RosterValue
reserved_in change roster process = record {
  processes = with_changed change roster.processes process;
  version = roster.version;
}

-- it is changed who lives: the next version
abbrev pub turned_in : (InstancesValue → InstancesValue) → RosterValue → ProcessId → RosterValue
turned_in change roster process = record {
  processes = with_changed change roster.processes process;
  version = next_version roster.version;
}
