-- The table of a state, where what the process does is sound (Z.101: state).
use Rattle.std.specs.Prelude.{◌≡◌, All, IfSome, Some}
use Rattle.port_model.specs.declared.values.item.SignalId.{SignalId}
use Rattle.laws_sound_processes.specs.Behaviours.{IsSoundBehaviour}
use Rattle.sdl_system.specs.Behaviour.{Behaviour, Means}
use Rattle.sdl_system.specs.Process.{table_of}
use Rattle.sdl_system.specs.Soundness.{IsCondition, IsNode, IsSoundReaction, IsSoundRest}
use Rattle.sdl_system.specs.State.{named_reaction}
use Rattle.sdl_system.specs.System.{SystemValue}
use Rattle.sdl_system.specs.declared.id.StateId.{StateId}
use Rattle.sdl_system.specs.declared.process.Process.{Process}
use Rattle.sdl_system.specs.declared.state.Continuous.{Continuous}
use Rattle.sdl_system.specs.declared.state.Enabling.{Enabling}
use Rattle.sdl_system.specs.declared.state.Reaction.{Reaction}
use Rattle.sdl_system.specs.declared.state.StateTable.{StateTable}

-- The numbers of a table are those of something: in each reaction that is found by its signal, in what an asterisk
-- says, in its conditions and in its continuous signals.
pub record IsSoundStateTable (system : SystemValue) (process : Process) (table : StateTable) : Type 0 where
  pub named : (signal : SignalId) (reaction : Reaction) → named_reaction table.reactions signal ≡ Some reaction
      → IsSoundReaction system process signal reaction
  pub rest : IfSome table.rest (IsSoundRest process)
  pub conditions : All (λ (e : Enabling). IsCondition process e.condition) table.conditions.items
  pub continuous : All (λ (c : Continuous). IsCondition process c.condition × IsNode process c.begin)
      table.continuous.items

-- The table of each state is so, where what the process means is sound; and the start is a node.
abbrev pub StateTablesAreSound : Type 0
StateTablesAreSound =
    (system : SystemValue) (process : Process) (p : Behaviour) → Means process p → IsSoundBehaviour system process p
    → IsNode process process.start
    × ((number : StateId) (table : StateTable) → table_of process number ≡ Some table
    → IsSoundStateTable system process table)
