-- What a state does with a signal (Z.101: state, input, save; Z.102: priority input, enabling condition).
use Rattle.std.specs.Prelude.{◌==◌, Bool, List, Option, None, Some, if◌then◌else◌}
use Rattle.std.specs.Map.{lookup}
use Rattle.port_model.specs.declared.values.item.SignalId.{SignalId}
use Rattle.port_model.specs.declared.selection.Class.TheVariants as class
use Rattle.sdl_system.specs.declared.state.Choice.{Choice}
use Rattle.sdl_system.specs.declared.state.Reaction.{Reaction}
use Rattle.sdl_system.specs.declared.state.Reaction.TheVariants as react

abbrev pub same_signal : SignalId → SignalId → Bool
same_signal one other = one.0 == other.0

-- what is done with a signal that the state names
abbrev pub named_reaction : List (SignalId × Reaction) → SignalId → Option Reaction
named_reaction reactions signal = lookup (same_signal signal) reactions

-- what is done with a signal, by what is done with it by name, whether it is in the valid input set, and what an
-- asterisk says
abbrev pub or_rest : {A : Type 0} → Option A → Bool → Option A → Option A
or_rest (Some named) is_valid rest = Some named
or_rest None is_valid rest = if is_valid then rest else None

-- the class of a signal where every condition is true, and the condition without which it waits
abbrev pub choice_of : Option Reaction → Choice
choice_of (Some (react.Input reception condition)) = record { class = class.Input; condition = condition }
choice_of (Some (react.Priority reception)) = record { class = class.Priority; condition = None }
choice_of (Some react.Save) = record { class = class.Saved; condition = None }
choice_of None = record { class = class.Discard; condition = None }
