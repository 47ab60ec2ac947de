-- When the events of a record happened, and what they sent and took by then (Z.102: input, output).
use Rattle.std.specs.Prelude.{◌==◌, ◌≤◌, ◌-◌, ℕ, List, [], ◌∷◌, ◌++◌, drop, filter, length, map, max, take}
use Rattle.std.specs.List.{flat_map}
use Rattle.port_model.specs.declared.got.Got as got
use Rattle.port_model.specs.declared.got.Got.TheVariants as came
use Rattle.port_model.specs.Same.{same_pid}
use Rattle.port_model.specs.declared.values.item.Item.{Item}
use Rattle.port_model.specs.declared.values.item.SignalId.{SignalId}
use Rattle.port_model.specs.declared.values.pid.Pid.{Pid}
use Rattle.run_record.specs.Event as event
use Rattle.run_record.specs.Event.{Event}
use Rattle.run_record.specs.Record.{RecordValue}
use Rattle.run_semantics.specs.Sent.{sent_by_one}
use Rattle.run_semantics.specs.World.{time_after_one}

-- ---- the time

-- the time of an instance once these events have happened; it was `earlier` before them
abbrev pub time_by : ℕ → List Event → ℕ
time_by earlier [] = earlier
time_by earlier (happened ∷ rest) = time_by (time_after_one earlier happened) rest

-- the greatest of some times, and 0 for none
abbrev pub greatest : List ℕ → ℕ
greatest [] = 0
greatest (time ∷ rest) = max time (greatest rest)

-- the latest time of a record, and of all of them
abbrev pub latest_in : RecordValue → ℕ
latest_in trace = greatest (map (time_after_one 0) trace.events)

abbrev pub latest : List RecordValue → ℕ
latest records = greatest (map latest_in records)

-- no time is less than one before it
abbrev pub AreRisingFrom : ℕ → List Event → Type 0
AreRisingFrom earlier [] = Unit {0}
AreRisingFrom earlier (happened ∷ rest) =
    (earlier ≤ time_after_one earlier happened) × AreRisingFrom (time_after_one earlier happened) rest

-- ---- what was sent, and what was taken

-- a signal, with the time at which it was sent or taken
pub record Timed : Type 0 where
  pub at : ℕ
  pub item : Item

abbrev pub timed : ℕ → List Item → List Timed
timed at items = map (λ item. record { at = at; item = item }) items

abbrev pub items_of : List Timed → List Item
items_of signals = map (λ (one : Timed). one.item) signals

-- What the instance `who` sends to the instance `number`, in the order of the outputs: each signal with the time of the
-- transition that sends it.
abbrev pub sent_from : ℕ → ℕ → List Event → ℕ → List Timed
sent_from earlier who [] number = []
sent_from earlier who (happened ∷ rest) number =
    timed earlier (sent_by_one who number happened)
    ++ sent_from (time_after_one earlier happened) who rest number

abbrev pub sends : RecordValue → ℕ → List Timed
sends trace number = sent_from 0 trace.pid trace.events number

-- the signal that an event takes: by an input, by a priority input, or a discard
abbrev pub got_at : ℕ → got.Got → List Timed
got_at at (came.Signal item) = timed at (item ∷ [])
got_at at (came.Timer key) = []

abbrev pub taken_by : Event → List Timed
taken_by (event.Consumed at got) = got_at at got
taken_by (event.Prior at got) = got_at at got
taken_by (event.Discarded at got) = got_at at got
taken_by happened = []

-- all that an instance takes, in its order
abbrev pub takes : RecordValue → List Timed
takes trace = flat_map taken_by trace.events

-- those of one sender
abbrev pub of_sender : Pid → List Timed → List Timed
of_sender origin signals = filter (λ (one : Timed). same_pid one.item.sender origin) signals

-- the times of those of one name
abbrev pub times_of : SignalId → List Timed → List ℕ
times_of name signals = map (λ (one : Timed). one.at) (filter (λ (one : Timed). one.item.name.0 == name.0) signals)

-- ---- the first and the last of what was sent

-- of these the last so many, and those before them
abbrev pub last_of : ℕ → List Timed → List Timed
last_of count signals = drop (length signals - count) signals

abbrev pub all_but : ℕ → List Timed → List Timed
all_but count signals = take (length signals - count) signals
