-- Nothing is taken before it is sent, and what is missing was sent before its receiver was there (Z.101: input port;
-- Z.102: input, output, create).
use Rattle.std.specs.Prelude.{◌≡◌, ◌≤◌, ℕ, List, [], ◌∷◌, ◌++◌, All, Contains, Some, length, map, option_to_list}
use Rattle.std.specs.List.{flat_map}
use Rattle.port_model.specs.declared.values.item.Item.{Item}
use Rattle.port_model.specs.declared.values.item.SignalId.{SignalId}
use Rattle.port_model.specs.declared.values.pid.Pid.{Pid}
use Rattle.port_model.specs.declared.values.pid.Pid.TheVariants.{Env, Of}
use Rattle.run_record.specs.Event as event
use Rattle.run_record.specs.Event.{Event}
use Rattle.run_record.specs.Record.{RecordValue}
use Rattle.sdl_script.specs.declared.script.ScriptLine.{ScriptLine}
use Rattle.sdl_system.specs.declared.id.ProcessId.{ProcessId}
use Rattle.settle_meaning.specs.Puts.{Heard, heard_by_one, sent_by}
use Rattle.settle_meaning.specs.Times.{Timed, all_but, last_of, of_sender, sends, takes, time_by, timed, times_of}

-- ---- one after the other

-- the first that is taken isn't taken before the first that is sent, the second not before the second, and so on
abbrev pub AreNotBefore : (sent taken : List ℕ) → Type 0
AreNotBefore sent [] = Unit {0}
AreNotBefore [] (at ∷ taken) = ⊥
AreNotBefore (time ∷ sent) (at ∷ taken) = (time ≤ at) × AreNotBefore sent taken

-- so it is for each name, of what was put and what was taken
abbrev pub AreTakenAfter : (put taken : List Timed) → Type 0
AreTakenAfter put taken = (name : SignalId) → AreNotBefore (times_of name put) (times_of name taken)

-- a create of this number, by one of the records, isn't before any of these
abbrev pub AreBeforeCreate : List RecordValue → ℕ → List Timed → Type 0
AreBeforeCreate records number signals =
    (creator : RecordValue) (before later : List Event) (process : ProcessId) → Contains records creator
    → creator.events ≡ before ++ event.Create process (Some number) ∷ later
    → All (λ (one : Timed). one.at ≤ time_by 0 before) signals

-- Of these signals of one sender the last so many were put into the port of the instance. The others were sent at the
-- time of its create at the latest, and none of these is taken before it was sent.
pub record IsOneInOrder (records : List RecordValue) (to : RecordValue) (origin : Pid) (signals : List Timed)
    (put : ℕ) : Type 0 where
  pub missing : AreBeforeCreate records to.pid (all_but put signals)
  pub taken : AreTakenAfter (last_of put signals) (of_sender origin (takes to))

-- ---- the script

-- the times of the lines that have a signal
abbrev pub times_heard : List ScriptLine → List ℕ
times_heard lines = flat_map (λ (line : ScriptLine). map (λ signal. line.at) (option_to_list line.signal)) lines

-- what the environment sends to the instance `number`, each signal with the time of its line
abbrev pub heard_from : List ℕ → List Heard → ℕ → List Timed
heard_from [] heard number = []
heard_from (at ∷ times) [] number = []
heard_from (at ∷ times) (one ∷ heard) number =
    timed at (heard_by_one number one.signal one.target) ++ heard_from times heard number

-- ---- all senders

-- Of each sender it is so, for what was put into the port of this instance.
pub record AreInOrder (lines : List ScriptLine) (heard : List Heard) (records : List RecordValue) (to : RecordValue)
    (puts : List Item) : Type 0 where
  pub instances : All (λ (from : RecordValue).
      IsOneInOrder records to (Of from.pid) (sends from to.pid) (length (sent_by (Of from.pid) puts))) records
  pub environment : IsOneInOrder records to Env (heard_from (times_heard lines) heard to.pid) (length (sent_by Env puts))
