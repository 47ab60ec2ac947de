-- How often a run passes a point of a process.
use Rattle.std.specs.Prelude.{ℕ, ◌+◌, Bool, List, [], ◌∷◌, Option, None, Some, unwrap_or, if◌then◌else◌}
use Rattle.std.specs.List.{sum_by}
use Rattle.std.specs.Map.{lookup}
use Rattle.std.specs.Option.{option_map}
use Rattle.port_model.specs.Take.{name_of}
use Rattle.sdl_system.specs.declared.id.ProcessId.{ProcessId}
use Rattle.sdl_system.specs.declared.id.StateId.{StateId}
use Rattle.run_record.specs.Event as event
use Rattle.run_record.specs.Record.{RecordValue}
use Rattle.view_coverage.specs.contracts.point.PointPartialEq.TheImpl as points
use Rattle.view_coverage.specs.declared.point.Passage.{Passage}
use Rattle.view_coverage.specs.declared.point.Passage.TheVariants.{Entered, Provided, Taken}
use Rattle.view_coverage.specs.declared.point.Point.{Point}

-- the state after an event: the one that was entered last
abbrev pub state_after : Option StateId → event.Event → Option StateId
state_after state (event.NextState entered) = Some entered
state_after state other = state

-- the point of a passage in this state, if there is one
abbrev pub in_state : ProcessId → Option StateId → Passage → Option Point
in_state process state passage =
    option_map (λ one. record { process = process; state = one; passage = passage }) state

-- the point that an event in this state passes: a state by a nextstate, else a stimulus of this state, by what begins
-- a transition. What is discarded begins none.
abbrev pub point_of : ProcessId → Option StateId → event.Event → Option Point
point_of process state (event.NextState entered) = in_state process (Some entered) Entered
point_of process state (event.Consumed at got) = in_state process state (Taken (name_of got))
point_of process state (event.Prior at got) = in_state process state (Taken (name_of got))
point_of process state (event.Provided at number) = in_state process state (Provided number)
point_of process state other = None

abbrev pub same_point : Point → Point → Bool
same_point = points.ghosts.eq

-- one if it is this point that was passed
abbrev pub once : Option Point → Point → ℕ
once None point = 0
once (Some passed) point = if same_point passed point then 1 else 0

-- how often these events pass a point, the first of them in this state
abbrev pub times_from : ProcessId → Option StateId → List event.Event → Point → ℕ
times_from process state [] point = 0
times_from process state (first ∷ rest) point =
    once (point_of process state first) point + times_from process (state_after state first) rest point

-- how often an instance passes a point; before its first state there is none
abbrev pub times : RecordValue → Point → ℕ
times trace point = times_from trace.process None trace.events point

-- how often all of them do
abbrev pub times_in : List RecordValue → Point → ℕ
times_in records point = sum_by (λ trace. times trace point) records

-- what a table says of a point
abbrev pub counted : List (Point × ℕ) → Point → ℕ
counted table point = unwrap_or (lookup (same_point point) table) 0
