-- The desks of a run's ports, as they give out senders (Z.101: input port).
use Rattle.std.specs.Prelude.{ℕ, ◌+◌, ◌-◌, List, slice_index_or, slice_set}
use Rattle.port_model.specs.Ends.{no_port}
use Rattle.input_port.specs.QueueEnds.{DeskState}

-- at the place k the desk of the port of the number k + 1
abbrev pub DesksState : Type 0
DesksState = List DeskState

-- the desk of the port of this number
abbrev pub desk_of : DesksState → ℕ → DeskState
desk_of desks number = slice_index_or desks (number - 1) (record { port = no_port; given = 0 })

-- how many senders it has given out
abbrev pub given_of : DesksState → ℕ → ℕ
given_of desks number = (desk_of desks number).given

-- once it has given out one more; all others stay
abbrev pub with_one_more : DesksState → ℕ → DesksState
with_one_more desks number =
    let desk = desk_of desks number in
    slice_set desks (number - 1) (record { port = desk.port; given = desk.given + 1 })
