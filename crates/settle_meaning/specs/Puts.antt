-- What is put into a port, by what the records and the script send there (Z.101: input port; Z.102: output).
use Rattle.std.specs.Prelude.{◌≡◌, ◌≢◌, ◌==◌, ◌⊎◌, ℕ, List, [], ◌∷◌, ◌++◌, All, Contains, Some, filter, if◌then◌else◌, map, option_to_list}
use Rattle.std.specs.List.{flat_map}
use Rattle.port_model.specs.Same.{same_pid}
use Rattle.port_model.specs.declared.values.item.Item.{Item}
use Rattle.port_model.specs.declared.values.pid.Pid.{Pid}
use Rattle.port_model.specs.declared.values.pid.Pid.TheVariants.{Env, Null, Of}
use Rattle.port_model.specs.declared.values.value.Value.TheVariants as value
use Rattle.run_record.specs.Event as event
use Rattle.run_record.specs.Event.{Event}
use Rattle.run_record.specs.Record.{RecordValue}
use Rattle.run_semantics.specs.Sent.{sent_to}
use Rattle.sdl_script.specs.declared.script.ScriptLine.{ScriptLine}
use Rattle.sdl_script.specs.declared.script.ScriptSignal.{ScriptSignal}
use Rattle.sdl_system.specs.System.{SystemValue}
use Rattle.sdl_system.specs.declared.id.ProcessId.{ProcessId}
use Rattle.sdl_system.specs.declared.route.Dest.TheVariants as dest
use Rattle.sdl_system.specs.declared.route.Source.TheVariants as source
use Rattle.sdl_system.specs.declared.route.Target.{Target}
use Rattle.sdl_system.specs.declared.route.Target.TheVariants.{Instance}
use Rattle.settle_meaning.specs.Living.{GoesBy}

-- ---- the script

-- a signal of the script that was sent, and where it went
pub record Heard : Type 0 where
  pub signal : ScriptSignal
  pub target : Target

-- the signals of some lines, in their order
abbrev pub signals_of : List ScriptLine → List ScriptSignal
signals_of lines = flat_map (λ (line : ScriptLine). option_to_list line.signal) lines

-- those of the script that were sent
abbrev pub signals_heard : List Heard → List ScriptSignal
signals_heard heard = map (λ (one : Heard). one.signal) heard

-- what the environment sends to the instance `number`
abbrev pub heard_by_one : ℕ → ScriptSignal → Target → List Item
heard_by_one number signal (Instance to) = if to == number then signal.item ∷ [] else []
heard_by_one number signal target = []

abbrev pub heard_by : List Heard → ℕ → List Item
heard_by heard number = flat_map (λ (one : Heard). heard_by_one number one.signal one.target) heard

-- a signal of the script goes where the routes lead it, by some instances that may have lived then
abbrev pub IsHeardRight : SystemValue → List RecordValue → Heard → Type 0
IsHeardRight system records one =
    GoesBy system records one.signal.item.name source.Env one.signal.to one.target

-- the number stands with a signal of the script: it is sent there, or the number is among its values
pub record IsNamedBy (number : ℕ) (one : Heard) : Type 0 where
  pub named : (one.signal.to ≡ dest.Pid (Of number)) ⊎ Contains one.signal.item.values (value.Pid (Of number))

-- so it does with one of these
pub record IsNamed (heard : List Heard) (number : ℕ) : Type 0 where
  pub one : Heard
  pub among : Contains heard one
  pub names : IsNamedBy number one

-- ---- one sender

-- the signals of one sender, in their order
abbrev pub sent_by : Pid → List Item → List Item
sent_by origin items = filter (λ item. same_pid item.sender origin) items

-- the first list ends with the second
abbrev pub EndsWith : List Item → List Item → Type 0
EndsWith xs ys = (missing : List Item) × (xs ≡ missing ++ ys)

-- Of what one instance sends to another the first signals may be missing, where that is none with which the system
-- begins, not the sender itself and not its parent: they were sent before there was such an instance, or before it could
-- be found. Which numbers can be known before is for the run to say.
pub record MayMiss (Known : ℕ → Type 0) (from to : RecordValue) : Type 0 where
  pub created : to.parent ≢ Null
  pub other : from.pid ≢ to.pid
  pub no_parent : from.parent ≢ Of to.pid
  pub known : Known to.pid

-- Of what an instance sends to another this was put, each signal once and in the order in which they were sent: the end
-- of it, or all unless some may be missing; and all that was sent after the create of the other, by its creator.
pub record IsPutBy (Known : ℕ → Type 0) (from to : RecordValue) (put : List Item) : Type 0 where
  pub missing : List Item
  pub all : sent_to from.pid from.events to.pid ≡ missing ++ put
  pub allowed : (missing ≡ []) ⊎ MayMiss Known from to
  pub since : (before later : List Event) (process : ProcessId)
      → from.events ≡ before ++ event.Create process (Some to.pid) ∷ later
      → EndsWith put (sent_to from.pid later to.pid)

-- The environment sends what the script says. The first of its signals may be missing, where the instance is none with
-- which the system begins.
pub record MayMissHeard (Known : ℕ → Type 0) (to : RecordValue) : Type 0 where
  pub created : to.parent ≢ Null
  pub known : Known to.pid

pub record IsPutByEnv (Known : ℕ → Type 0) (heard : List Heard) (to : RecordValue) (put : List Item) : Type 0 where
  pub missing : List Item
  pub all : heard_by heard to.pid ≡ missing ++ put
  pub allowed : (missing ≡ []) ⊎ MayMissHeard Known to

-- ---- all senders

-- the signal is of the environment, or of an instance that has a record
abbrev pub IsOfOne : List RecordValue → Item → Type 0
IsOfOne records item = (item.sender ≡ Env) ⊎ Contains (map (λ (trace : RecordValue). Of trace.pid) records) item.sender

-- Each signal that is put into the port of an instance is one output or one signal of the script to that instance, with
-- its values and its sender; none is put twice, and those of one sender keep their order.
pub record ArePut (Known : ℕ → Type 0) (heard : List Heard) (records : List RecordValue) (to : RecordValue)
    (puts : List Item) : Type 0 where
  pub instances : All (λ (from : RecordValue). IsPutBy Known from to (sent_by (Of from.pid) puts)) records
  pub environment : IsPutByEnv Known heard to (sent_by Env puts)
  pub no_other : All (IsOfOne records) puts
