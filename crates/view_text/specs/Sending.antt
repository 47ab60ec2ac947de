-- What the environment sends along a timeline (Z.101: environment, channel; Z.102: output).
use Rattle.std.specs.Prelude.{ℕ, ◌==◌, ◌&&◌, ◌||◌, nat_le, nat_lt, Bool, true, false, not, List, [], ◌∷◌, ◌++◌, Option, None, Some, if◌then◌else◌, is_some, length, map}
use Rattle.std.specs.List.{find, range_with_len}
use Rattle.std.specs.Option.{option_map}
use Rattle.port_model.specs.declared.got.Got as got
use Rattle.port_model.specs.declared.got.Got.TheVariants as came
use Rattle.port_model.specs.declared.values.item.Item.{Item}
use Rattle.port_model.specs.declared.values.item.SignalId.{SignalId}
use Rattle.port_model.specs.declared.values.pid.Pid as pid
use Rattle.port_model.specs.declared.values.pid.Pid.TheVariants as who
use Rattle.sdl_script.specs.declared.script.ScriptLine.{ScriptLine}
use Rattle.sdl_script.specs.declared.script.ScriptSignal.{ScriptSignal}
use Rattle.sdl_system.specs.Route.{target_in}
use Rattle.sdl_system.specs.System.{SystemValue}
use Rattle.sdl_system.specs.declared.route.Source.TheVariants as from
use Rattle.sdl_system.specs.declared.route.Target as target
use Rattle.sdl_system.specs.declared.route.Target.TheVariants as reached
use Rattle.run_record.specs.Event as event
use Rattle.run_record.specs.Record.{RecordValue}
use Rattle.run_record.specs.declared.record.Report.{Report}
use Rattle.view_text.specs.Walk.{StepValue}
use Rattle.view_text.specs.declared.sending.Sending.{Sending}
use Rattle.view_timeline.specs.Did.{Did, did}
use Rattle.view_timeline.specs.Lives.{lives}

-- ---- what is taken of the environment

-- the name of a signal, if the environment sent it
abbrev pub from_env : pid.Pid → SignalId → Option SignalId
from_env who.Null name = None
from_env who.Env name = Some name
from_env (who.Of number) name = None

abbrev pub env_signal : got.Got → Option SignalId
env_signal (came.Signal item) = from_env item.sender item.name
env_signal (came.Timer key) = None

-- the signal of the environment that an event takes
abbrev pub heard_by : event.Event → Option SignalId
heard_by (event.Consumed at got) = env_signal got
heard_by (event.Prior at got) = env_signal got
heard_by (event.Discarded at got) = env_signal got
heard_by _ = None

-- ---- when it is sent

-- Whether a transition that begins at a time comes after what is sent at a time. What is sent at a time is sent while
-- all rest, before all transitions of that time. At time 0 it is sent after those that take nothing of the environment.
abbrev pub is_after : ℕ → ℕ → Bool → Bool
is_after at time hears = if at == 0 then nat_lt 0 time || hears else nat_le at time

-- whether a move that begins with this event comes after what is sent at this time; a record closes after all
abbrev pub comes_after : ℕ → event.Event → Bool
comes_after at (event.Start time) = is_after at time false
comes_after at (event.Consumed time got) = is_after at time (is_some (env_signal got))
comes_after at (event.Prior time got) = is_after at time (is_some (env_signal got))
comes_after at (event.Discarded time got) = is_after at time (is_some (env_signal got))
comes_after at (event.Provided time number) = is_after at time false
comes_after at (event.FailedAt time why) = is_after at time false
comes_after at (event.Rest state) = true
comes_after at (event.Cut state) = true
comes_after at _ = false

-- what is told before that which is sent at a time, and what after it
abbrev pub before : ℕ → List StepValue → List StepValue
before at [] = []
before at (step ∷ more) = if comes_after at step.event then [] else step ∷ before at more

abbrev pub after : ℕ → List StepValue → List StepValue
after at [] = []
after at (step ∷ more) = if comes_after at step.event then step ∷ more else after at more

-- how a record closes
abbrev pub closes_record : event.Event → Bool
closes_record (event.Rest state) = true
closes_record (event.Cut state) = true
closes_record _ = false

-- Whether it is sent at all, if this comes after it: a run that was cut hasn't come to it, if no transition does.
abbrev pub is_sent : Bool → List StepValue → Bool
is_sent whole [] = whole
is_sent whole (next ∷ more) = whole || not (closes_record next.event)

-- ---- whom it reaches

-- who lives once these events are told
abbrev pub did_of : StepValue → Did
did_of step = did step.trace.pid step.event

abbrev pub living_after : List RecordValue → List StepValue → ℕ → Bool
living_after records told number = lives records (map did_of told) number

-- whether the record is of an instance of the process that lives
abbrev pub lives_of : (ℕ → Bool) → ℕ → RecordValue → Bool
lives_of living process trace = (trace.process.0 == process) && living trace.pid

-- the least number of a living instance of a process, and that of each process: records are by ascending number
abbrev pub least_of : (ℕ → Bool) → List RecordValue → ℕ → Option ℕ
least_of living records process =
    option_map (λ (trace : RecordValue). trace.pid) (find (lives_of living process) records)

abbrev pub least_living : (ℕ → Bool) → List RecordValue → ℕ → List (Option ℕ)
least_living living records processes = map (least_of living records) (range_with_len 0 processes)

-- a signal of the environment: when it's sent, with its values, whom it reaches, whether that is an instance that
-- lives, and how many events are told before
pub record SendingValue : Type 0 where
  pub at : ℕ
  pub item : Item
  pub target : target.Target
  pub arrives : Bool
  pub place : ℕ

abbrev pub sending_value : Sending → SendingValue
sending_value sending = record {
  at = sending.at;
  item = sending.item.now;
  target = sending.target;
  arrives = sending.arrives;
  place = sending.place;
}

-- whether the target is an instance that lives
abbrev pub is_there : (ℕ → Bool) → target.Target → Bool
is_there living (reached.Instance number) = living number
is_there living reached.Env = false
is_there living reached.Null = false
is_there living reached.Nobody = false

-- what is sent at a time to a target, if these live and so many events are told
abbrev pub sending_to : (ℕ → Bool) → ℕ → ℕ → Item → target.Target → SendingValue
sending_to living place at item to = record {
  at = at;
  item = item;
  target = to;
  arrives = is_there living to;
  place = place;
}

-- what is sent once these events are told: to an instance that lives then, by the routes
abbrev pub sending_of : SystemValue → List RecordValue → List StepValue → ℕ → ScriptSignal → SendingValue
sending_of system records told at signal =
    sending_to (living_after records told) (length told) at signal.item
    (target_in system.routes signal.item.name from.Env signal.to
    (least_living (living_after records told) records (length system.processes)))

-- ---- all that is sent

abbrev pub signal_sent : SystemValue → List RecordValue → List StepValue → ℕ → Option ScriptSignal → List SendingValue
signal_sent system records told at None = []
signal_sent system records told at (Some signal) = sending_of system records told at signal ∷ []

-- by a line, once these events are told and those are left
abbrev pub line_sent : SystemValue → Report → List StepValue → List StepValue → ScriptLine → List SendingValue
line_sent system report told left line =
    if is_sent report.whole left then signal_sent system report.records.items told line.at line.signal else []

-- By lines, one after the other, each once what comes before it is told.
abbrev pub sendings : SystemValue → Report → List StepValue → List StepValue → List ScriptLine → List SendingValue
sendings system report told left [] = []
sendings system report told left (line ∷ lines) =
    line_sent system report (told ++ before line.at left) (after line.at left) line
    ++ sendings system report (told ++ before line.at left) (after line.at left) lines
