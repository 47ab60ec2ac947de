-- The looks of an owner at its port that found no more in it (Z.102: input, priority input, continuous signal).
use Rattle.std.specs.Prelude.{◌==◌, ◌||◌, ℕ, Bool, true, false, List, [], ◌∷◌, ◌++◌, None, Option, Some, if◌then◌else◌, length, option_to_list}
use Rattle.std.specs.List.{list_any}
use Rattle.port_model.specs.declared.selection.Class.{Class}
use Rattle.port_model.specs.declared.selection.Class.TheVariants.{Priority}
use Rattle.run_record.specs.Event as event
use Rattle.run_record.specs.Event.{Event}
use Rattle.run_tracks.specs.ByNumber.{counted}
use Rattle.run_tracks.specs.declared.looks.Look.{Look}
use Rattle.run_tracks.specs.declared.looks.MoreFound.{MoreFound}
use Rattle.run_tracks.specs.declared.looks.MoreFound.TheVariants as found
use Rattle.sdl_system.specs.Process.{table_of}
use Rattle.sdl_system.specs.declared.id.StateId.{StateId}
use Rattle.sdl_system.specs.declared.process.Process.{Process}
use Rattle.sdl_system.specs.declared.state.StateTable.{StateTable}

-- ---- what a step found

abbrev pub is_priority : Class → Bool
is_priority Priority = true
is_priority other = false

-- a signal that has no priority is taken, or discarded, where no signal of a priority input is found
abbrev pub found_where_taken : Option StateTable → MoreFound
found_where_taken None = found.Anything
found_where_taken (Some table) = if list_any is_priority table.selection then found.Nothing else found.Anything

-- The conditions of continuous signals are asked where nothing is found, the enabling ones before a look. Where a state
-- has both, it is given whether the one that failed had looked.
abbrev pub found_where_failed : Bool → Option StateTable → MoreFound
found_where_failed looked None = found.Anything
found_where_failed looked (Some table) =
    if length table.continuous.items == 0 then found.Anything
    else (if looked || length table.conditions.items == 0 then found.Nothing else found.Anything)

-- in a state with this table; what begins no step found nothing
abbrev pub found_by : Event → Bool → Option StateTable → Option MoreFound
found_by (event.Start at) looked table = Some found.Anything
found_by (event.Prior at got) looked table = Some found.Anything
found_by (event.Provided at number) looked table = Some found.Nothing
found_by (event.Consumed at got) looked table = Some (found_where_taken table)
found_by (event.Discarded at got) looked table = Some (found_where_taken table)
found_by (event.FailedAt at why) looked table = Some (found_where_failed looked table)
found_by other looked table = None

-- ---- all steps of a record

abbrev pub state_after : Event → Option StateId → Option StateId
state_after (event.NextState next) state = Some next
state_after other state = state

abbrev pub table_in : Process → Option StateId → Option StateTable
table_in process None = None
table_in process (Some state) = table_of process state

-- what each step found, from a state on
abbrev pub found_in : Process → Bool → Option StateId → List Event → List MoreFound
found_in process looked state [] = []
found_in process looked state (one ∷ rest) =
    option_to_list (found_by one looked (table_in process state))
    ++ found_in process looked (state_after one state) rest

-- the look of a step that found nothing more
abbrev pub look_by : MoreFound → ℕ → ℕ → List Look
look_by found.Anything step drawn = []
look_by found.Nothing step drawn = record { step = step; drawn = drawn } ∷ []

-- the looks of steps, of which the first has this number, where so many entries were drawn after each
abbrev pub looks_in : ℕ → List MoreFound → List ℕ → List Look
looks_in step [] counts = []
looks_in step (one ∷ rest) [] = []
looks_in step (one ∷ rest) (count ∷ later) = look_by one step count ++ looks_in (counted step) rest later
