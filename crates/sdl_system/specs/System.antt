-- What a system is, as plain data.
use Rattle.std.specs.Prelude.{ℕ, List, [], Option, String, map, option_and_then, slice_get, string_bytes}
use Rattle.std.specs.Option.{option_map_or}
use Rattle.std.specs.Map.{lookup}
use Rattle.std.specs.Str.{bytes_eq}
use Rattle.indexmap.specs.IndexMap.{IndexMap}
use Rattle.port_model.specs.declared.values.item.SignalId.{SignalId}
use Rattle.sdl_system.specs.Process.{reaction_in}
use Rattle.sdl_system.specs.declared.id.ProcessId.{ProcessId}
use Rattle.sdl_system.specs.declared.id.StateId.{StateId}
use Rattle.sdl_system.specs.declared.process.Process.{Process}
use Rattle.sdl_system.specs.declared.route.Routes.{Routes}
use Rattle.sdl_system.specs.declared.signal.Signal.{Signal}
use Rattle.sdl_system.specs.declared.state.Reaction.{Reaction}
use Rattle.sdl_system.specs.declared.statement.Node.{Node}

pub record SystemValue : Type 0 where
  pub signals : List Signal
  pub processes : List Process
  pub routes : Routes
  -- the signals of the system's own scope, by name
  pub own_signals : List (List ℕ × SignalId)
  -- the first process of each name
  pub process_names : List (List ℕ × ProcessId)

-- the names of a table, each with what it stands for
abbrev pub named : {Y S V : Type 0} → IndexMap (String Y) V S → List (List ℕ × V)
named table = map (λ entry. (string_bytes entry.0, entry.1)) table.entries

-- what a name stands for
abbrev pub meaning_of : {V : Type 0} → List (List ℕ × V) → List ℕ → Option V
meaning_of names text = lookup (bytes_eq text) names

-- the nodes of a process; none where there is no such process
abbrev pub nodes_of : SystemValue → ProcessId → List Node
nodes_of system number = option_map_or (λ process. process.nodes.items) (slice_get system.processes number.0) []

-- what a state of a process does with a signal
abbrev pub reaction_of : SystemValue → ProcessId → StateId → SignalId → Option Reaction
reaction_of system number state signal =
    option_and_then (λ process. reaction_in process state signal) (slice_get system.processes number.0)
