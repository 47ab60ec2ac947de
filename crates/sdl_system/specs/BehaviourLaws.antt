-- The readers of a process answer what it means.
use Rattle.std.specs.Prelude.{◌≡◌, Some, slice_get}
use Rattle.port_model.specs.declared.values.item.SignalId.{SignalId}
use Rattle.sdl_system.specs.Behaviour.{Behaviour, Means, MeansResponse, StateMeaning, response_to}
use Rattle.sdl_system.specs.Process.{reaction_in}
use Rattle.sdl_system.specs.declared.id.StateId.{StateId}
use Rattle.sdl_system.specs.declared.process.Process.{Process}

-- what a state of the process does with a signal is what the state of this number means
abbrev pub ReactsAsMeant : Type 0
ReactsAsMeant =
    (process : Process) (behaviour : Behaviour) (means : Means process behaviour) (number : StateId)
    (state : StateMeaning)
    → slice_get behaviour.states number.0 ≡ Some state → (signal : SignalId)
    → MeansResponse process means.entries (reaction_in process number signal) (response_to behaviour state signal)
