-- What the record of an instance says that it sends to another (Z.102: output).
use Rattle.std.specs.Prelude.{◌==◌, ℕ, List, [], ◌∷◌, ◌++◌, if◌then◌else◌}
use Rattle.std.specs.List.{flat_map}
use Rattle.port_model.specs.declared.values.item.Item.{Item}
use Rattle.port_model.specs.declared.values.pid.Pid.TheVariants.{Of}
use Rattle.run_record.specs.Event.{Event}
use Rattle.run_record.specs.Event as event
use Rattle.run_semantics.specs.World.{Sent, has_port}
use Rattle.sdl_system.specs.declared.route.Dest.{Dest}
use Rattle.sdl_system.specs.declared.route.Target.TheVariants.{Instance}

-- what an event of the instance `who` sends to the instance `number`: a signal, if it is an output to that one
abbrev pub sent_by_one : ℕ → ℕ → Event → List Item
sent_by_one who number (event.Output signal named values (Instance to)) =
    if to == number then record { name = signal; values = values; sender = Of who } ∷ [] else []
sent_by_one who number happened = []

-- what all events send to it, in their order
abbrev pub sent_to : ℕ → List Event → ℕ → List Item
sent_to who events number = flat_map (sent_by_one who number) events

-- the output of a signal to the instance `number`, which names the destination
abbrev pub output_of : Item → Dest → ℕ → Event
output_of item named number = event.Output item.name named item.values (Instance number)

-- what was sent to each instance that has a port, once these events of the instance `who` have sent what they send
abbrev pub sent_with : ℕ → List Event → Sent → Sent
sent_with who events sent number = if has_port number then sent number ++ sent_to who events number else sent number
