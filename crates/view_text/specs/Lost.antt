-- Which signals of the script no instance took (Z.102: input; Z.120: lost message).
use Rattle.std.specs.Prelude.{ℕ, nat_lt, Bool, false, List, [], ◌∷◌, ◌++◌, Option, None, Some, count_by, if◌then◌else◌}
use Rattle.std.specs.Option.{option_map_or}
use Rattle.port_model.specs.declared.values.item.SignalId.{SignalId}
use Rattle.sdl_script.specs.declared.script.ScriptLine.{ScriptLine}
use Rattle.sdl_system.specs.System.{SystemValue}
use Rattle.sdl_system.specs.declared.route.Target as target
use Rattle.sdl_system.specs.declared.route.Target.TheVariants as reached
use Rattle.run_record.specs.declared.record.Report.{Report}
use Rattle.view_text.specs.Fate.{fate_of}
use Rattle.view_text.specs.Sending.{SendingValue, heard_by, sendings}
use Rattle.view_text.specs.Walk.{StepValue, all_steps}
use Rattle.view_text.specs.contracts.arrival.ArrivalPartialEq.TheImpl as arrivals
use Rattle.view_text.specs.declared.arrival.Arrival.{Arrival}
use Rattle.view_text.specs.declared.fate.Fate.{Fate}
use Rattle.view_timeline.specs.declared.moves.Link.TheVariants as is
use Rattle.view_timeline.specs.declared.moves.Timeline.{Timeline}

-- ---- who took what

-- whether two signals of the environment come to one instance under one name: what `==` answers
abbrev pub same_arrival : Arrival → Arrival → Bool
same_arrival = arrivals.ghosts.eq

-- as what it comes to an instance that lives, if it does
abbrev pub arrival_at : target.Target → SignalId → Option Arrival
arrival_at (reached.Instance number) name = Some (record { number = number; signal = name })
arrival_at reached.Env name = None
arrival_at reached.Null name = None
arrival_at reached.Nobody name = None

abbrev pub arrival_of : SendingValue → Option Arrival
arrival_of sending = if sending.arrives then arrival_at sending.target sending.item.name else None

abbrev pub comes_as : Arrival → SendingValue → Bool
comes_as arrival sending = option_map_or (λ (it : Arrival). same_arrival it arrival) (arrival_of sending) false

-- whether a step takes what came so, and how many of all steps do
abbrev pub taken_as : Arrival → StepValue → Bool
taken_as arrival step =
    option_map_or (λ (name : SignalId). same_arrival (record { number = step.trace.pid; signal = name }) arrival)
    (heard_by step.event) false

abbrev pub takes : List StepValue → Arrival → ℕ
takes steps arrival = count_by (taken_as arrival) steps

-- Of one name an instance takes first what came first. So what comes to it is taken if less came before, under that
-- name, than it takes.
abbrev pub is_taken : List StepValue → List SendingValue → SendingValue → Bool
is_taken steps earlier sending =
    option_map_or (λ (arrival : Arrival). nat_lt (count_by (comes_as arrival) earlier) (takes steps arrival))
    (arrival_of sending) false

-- ---- who took nothing

-- those that nobody took, once these were sent before them
abbrev pub untaken : List StepValue → List SendingValue → List SendingValue → List SendingValue
untaken steps earlier [] = []
untaken steps earlier (sending ∷ more) =
    (if is_taken steps earlier sending then [] else sending ∷ []) ++ untaken steps (earlier ++ sending ∷ []) more

-- of all that the lines send along these steps
abbrev pub lost_in : SystemValue → Report → List StepValue → List ScriptLine → List SendingValue
lost_in system report steps lines = untaken steps [] (sendings system report [] steps lines)

-- The signals of the script that no instance took, in the order of the script.
abbrev pub lost_of : SystemValue → Report → Timeline → List ScriptLine → List SendingValue
lost_of system report told lines = lost_in system report (all_steps report.records.items told) lines

-- What became of it: it waits in the port of an instance that lives on, or is gone with one that has ended, or that
-- wasn't there. What reaches nobody has no fate.
abbrev pub fate_at : Timeline → target.Target → Bool → Option Fate
fate_at told (reached.Instance number) arrives =
    fate_of told (reached.Instance number) (if arrives then is.Waits else is.Gone)
fate_at told reached.Env arrives = None
fate_at told reached.Null arrives = None
fate_at told reached.Nobody arrives = None

abbrev pub lost_fate : Timeline → SendingValue → Option Fate
lost_fate told sending = fate_at told sending.target sending.arrives
