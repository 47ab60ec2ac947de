-- What is known of a port as the record of its instance was closed.
use Rattle.std.specs.Prelude.{length}
use Rattle.port_model.specs.Ends.{OwnerState}
use Rattle.settle_closing.specs.declared.ending.PortThen.{PortThen}

-- of the port of this owner
abbrev pub then_of : OwnerState → PortThen
then_of owner = record { lived = owner.state.alive; waiting = length owner.state.waiting }
