-- What a process does that has this text, as plain data (Z.101: process; Z.102: transition).
use Rattle.std.specs.Prelude.{◌≡◌, ◌≤◌, ℕ, [], All, None, Some, map}
use Rattle.std.specs.List.{AllZip}
use Rattle.port_model.specs.declared.values.item.SignalId.{SignalId}
use Rattle.build_process.specs.Bodies.{bodies_of}
use Rattle.build_process.specs.Numbered.{AreNumbered}
use Rattle.build_flow.specs.Ends.{ends_faults}
use Rattle.build_states.specs.States.{StateMeaning, states_of}
use Rattle.build_states.specs.Reading.{process_read}
use Rattle.sdl_system.specs.Behaviour.{Behaviour, variable_meaning}
use Rattle.sdl_system.specs.Signal.{is_member}
use Rattle.build_tables.specs.Meant.{IsMeaning}
use Rattle.sdl_tree.specs.Tree.{ProcessDefinition}
use Rattle.build_process.specs.ProcessScope.{ProcessScope, for_stimuli, for_transitions}
use Rattle.build_process.specs.declared.heading.Heading.{Heading}

-- a state names no other signals than so many
abbrev pub NamesSignals : ℕ → StateMeaning → Type 0
NamesSignals count state = (signal : SignalId) → count ≤ signal.0 → state.named signal ≡ None

-- Its transitions do what their bodies say: each has one, and each path through them ends; the transition of the start
-- has the number 0. Its states mean what they say, where each condition stands for what it comes to.
pub record IsBehaviour (around : ProcessScope) (process : ProcessDefinition) (heading : Heading)
    (behaviour : Behaviour) : Type 0 where
  pub variables : map variable_meaning heading.variables.items ≡ behaviour.variables
  pub parameters : heading.parameters ≡ behaviour.parameters
  pub valid : (signal : SignalId) → is_member heading.valid signal ≡ behaviour.is_valid signal
  pub bodies : bodies_of (for_transitions around) process ≡ map Some behaviour.bodies
  pub ends : ends_faults process ≡ []
  pub labels : AreNumbered (for_transitions around) process
  pub start : behaviour.start ≡ 0
  pub states : AllZip (IsMeaning (process_read (for_stimuli around) process).numbering.conditions)
      (states_of (for_stimuli around) process.body) behaviour.states
  -- what its states name are signals of the system
  pub signals : All (NamesSignals around.signals) (states_of (for_stimuli around) process.body)
