-- What is known of the records, the ports and the senders of a run, once all is counted and compared (Z.101: system).
use Rattle.std.specs.Prelude.{◌≡◌, ◌+◌, ◌<◌, ◌≤◌, ℕ, List, [], All, Contains, length, slice_index_or, take}
use Rattle.std.specs.declared.alloc.Global.{Global}
use Rattle.crossbeam_queue.specs.SegTies.{SegId}
use Rattle.input_port.specs.Ends.{HeldState}
use Rattle.port_model.specs.Ends.{OwnerState}
use Rattle.port_model.specs.declared.values.item.Item.{Item}
use Rattle.run_record.specs.Record.{RecordValue}
use Rattle.run_semantics.specs.World.{most_instances}
use Rattle.sdl_script.specs.declared.script.ScriptLine.{ScriptLine}
use Rattle.sdl_script.specs.declared.script.ScriptSignal.{ScriptSignal}
use Rattle.sdl_system.specs.System.{SystemValue}
use Rattle.sdl_system.specs.declared.route.Source.TheVariants as source
use Rattle.sdl_system.specs.declared.route.Target.{Target}
use Rattle.settle_checks.specs.Outputs.{IsEnough, IsEnoughHeard}
use Rattle.settle_checks.specs.Gathering.{CountedState, IsCounted}
use Rattle.settle_meaning.specs.Identities.{AreMade, AreRising, HasCause}
use Rattle.settle_meaning.specs.Living.{AreMeant, GoesBy}
use Rattle.settle_meaning.specs.Order.{AreInOrder, IsOneInOrder, heard_from, times_heard}
use Rattle.settle_meaning.specs.Puts.{ArePut, Heard, IsHeardRight, IsNamed, heard_by, signals_heard, signals_of}
use Rattle.settle_meaning.specs.Starts.{AreStarted, AreWithin}
use Rattle.settle_meaning.specs.Timers.{AreDue}
use Rattle.settle_meaning.specs.Times.{AreRisingFrom, sends}
use Rattle.settle_checks.specs.declared.summing.creating.Birth.{Birth}
use Rattle.settle_checks.specs.declared.summing.flows.Flow.{Flow}
use Rattle.input_port.specs.Counts.{signals_in}
use Rattle.port_model.specs.declared.values.pid.Pid.TheVariants.{Env, Of}
use Rattle.threads_ports.specs.Peers.{ArePeers, ArePeersOf, PeersState, put_to}

-- ---- places

-- it holds of each with its place in the list
abbrev pub AllAt : {X : Type 0} → (ℕ → X → Type 0) → List X → Type 0
AllAt {X} P xs = (k : ℕ) (d : X) → k < length xs → P k (slice_index_or xs k d)

-- the signals that the senders of a place have put into the port of a number
abbrev pub put_at : List PeersState → ℕ → ℕ → List Item
put_at places number place = put_to (slice_index_or places place []) number

-- these senders have put what the name says that their place has put
abbrev pub HavePut : (ℕ → ℕ → List Item) → ℕ → PeersState → Type 0
HavePut puts place peers = (number : ℕ) → put_to peers number ≡ puts number place

-- ---- records

-- Each instance has its record, and no number is more than there may be.
pub record AreAllMade (system : SystemValue) (records : List RecordValue) : Type 0 where
  pub made : AreMade system records
  pub within : All (λ (trace : RecordValue). trace.pid ≤ most_instances) records

-- of what a record sends to each instance the senders of its place have put enough
abbrev pub IsAllPut : List Heard → List RecordValue → RecordValue → PeersState → Type 0
IsAllPut heard records from peers =
    All (λ (to : RecordValue). IsEnough (IsNamed heard) from to (length (put_to peers to.pid))) records

-- so it is of what it sends to the instance of this number, if there is one
abbrev pub IsPutToOne : List Heard → List RecordValue → RecordValue → PeersState → ℕ → Type 0
IsPutToOne heard records from peers number =
    All (λ (to : RecordValue). to.pid ≡ number → IsEnough (IsNamed heard) from to (length (put_to peers to.pid))) records

-- so it is of what it sends to all to whom these flows lead
abbrev pub ArePutAlong : List Heard → List RecordValue → RecordValue → PeersState → List Flow → Type 0
ArePutAlong heard records from peers flows =
    All (λ (flow : Flow). (number : ℕ) → flow.pass.peer ≡ Of number → IsPutToOne heard records from peers number) flows

-- and to all of these births
abbrev pub ArePutToBorn : List Heard → List RecordValue → RecordValue → PeersState → List Birth → Type 0
ArePutToBorn heard records from peers births =
    All (λ (birth : Birth). IsPutToOne heard records from peers birth.number) births

-- so it is of all records; the record k has the place k + 1, since the environment has the place 0
abbrev pub AreAllPut : List Heard → List RecordValue → List PeersState → Type 0
AreAllPut heard records places =
    AllAt (λ k (from : RecordValue). IsAllPut heard records from (slice_index_or places (k + 1) [])) records

-- and of what the environment sends
abbrev pub IsAllHeard : List Heard → List RecordValue → PeersState → Type 0
IsAllHeard heard records peers =
    All (λ (to : RecordValue). IsEnoughHeard (IsNamed heard) heard to (length (put_to peers to.pid))) records

-- a signal of the script went where the routes lead it, by some instances that may have lived then
abbrev pub IsRight : SystemValue → List RecordValue → ScriptSignal → Target → Type 0
IsRight system records signal target = GoesBy system records signal.item.name source.Env signal.to target

-- ---- times

-- Of what a record sends to the instance, and of what the environment sends, the last signals were put, so many as the
-- senders of their place have put. None of these is taken before it was sent, and what is missing is older than the
-- instance.
pub record AreOrderedTo (lines : List ScriptLine) (heard : List Heard) (records : List RecordValue)
    (places : List PeersState) (to : RecordValue) : Type 0 where
  pub instances : AllAt (λ k (from : RecordValue). IsOneInOrder records to (Of from.pid) (sends from to.pid)
      (length (put_to (slice_index_or places (k + 1) []) to.pid))) records
  pub environment : IsOneInOrder records to Env (heard_from (times_heard lines) heard to.pid)
      (length (put_to (slice_index_or places 0 []) to.pid))

-- these are signals of the first lines, in their order
abbrev pub HaveSignals : List Heard → List ScriptLine → Type 0
HaveSignals heard lines = (line : ℕ) × (signals_heard heard ≡ signals_of (take line lines))

abbrev pub AreOrdered : List ScriptLine → List Heard → List RecordValue → List PeersState → Type 0
AreOrdered lines heard records places = All (AreOrderedTo lines heard records places) records

-- ---- all records

-- In each record times never fall, and no signal of a timer is taken before its time.
pub record AreTimed (trace : RecordValue) : Type 0 where
  pub rising : AreRisingFrom 0 trace.events
  pub due : AreDue trace.events

-- All instances have their records, each null its cause, all start in time, no more live on than may, all signals went
-- where the routes lead them, and enough was put and taken in time.
pub record AreCompared (system : SystemValue) (lines : List ScriptLine) (heard : List Heard) (records : List RecordValue)
    (places : List PeersState) : Type 0 where
  pub made : AreMade system records
  pub started : AreStarted records
  pub within : AreWithin system records
  pub timed : All AreTimed records
  pub nulls : All (λ (trace : RecordValue). All (HasCause system records) trace.events) records
  pub outputs : All (AreMeant system records) records
  pub signals : All (IsHeardRight system records) heard
  pub put : AreAllPut heard records places
  pub heard_put : IsAllHeard heard records (slice_index_or places 0 [])
  pub ordered : AreOrdered lines heard records places

-- ---- ports

-- the owner of the port of each record is the one that the name says, and the port is that of the record's number
pub record IsOwnerOf (owners : ℕ → OwnerState) (ports : ℕ → SegId Global) (k : ℕ) (trace : RecordValue)
    (inbox : HeldState) : Type 0 where
  pub owner : inbox.owner ≡ owners k
  pub port : inbox.owner.port ≡ ports trace.pid

abbrev pub AreOwnersOf : (ℕ → OwnerState) → (ℕ → SegId Global) → List RecordValue → List HeldState → Type 0
AreOwnersOf owners ports records inboxes =
    AllAt (λ k (inbox : HeldState). (trace : RecordValue) → k < length records
    → trace ≡ slice_index_or records k trace → IsOwnerOf owners ports k trace inbox) inboxes

-- the port of a record was counted, with the senders of so many places
pub record IsCountOf (places k : ℕ) (trace : RecordValue) (counted : CountedState) : Type 0 where
  pub at : counted.at ≡ k
  pub number : counted.number ≡ trace.pid
  pub places_are : counted.places ≡ places

-- so it is of the port of each record
pub record AreCountsOf (places : ℕ) (records : List RecordValue) (counted : List CountedState) : Type 0 where
  pub long : length counted ≡ length records
  pub each : AllAt (λ k (one : CountedState). (trace : RecordValue) → k < length records
      → trace ≡ slice_index_or records k trace → IsCountOf places k trace one) counted

-- ---- what the counts tell

-- What was put from each place is the end of what is sent from there: from the environment's what the script says, from
-- that of a record what its events say.
pub record ArePlaces (heard : List Heard) (records : List RecordValue) (places : List PeersState) : Type 0 where
  pub long : length places ≡ length records + 1
  pub environment : ArePeers Env (heard_by heard) (slice_index_or places 0 [])
  pub instances : AllAt (λ k (trace : RecordValue). ArePeersOf trace.pid trace.events (slice_index_or places (k + 1) []))
      records

-- What was sent to an instance was drawn, each signal once and in the order of its sender, and no other; and it is taken
-- in time.
pub record HasPut (lines : List ScriptLine) (heard : List Heard) (records : List RecordValue) (trace : RecordValue)
    (puts : List Item) : Type 0 where
  pub put : ArePut (IsNamed heard) heard records trace puts
  pub in_order : AreInOrder lines heard records trace puts

-- So it is where the port of a record was counted, and enough was put from all places and taken in time.
abbrev pub CountedHavePut : Type 0
CountedHavePut =
    (lines : List ScriptLine) (heard : List Heard) (records : List RecordValue) (places : List PeersState)
    (trace : RecordValue) (first owner : OwnerState) → AreRising 0 records → ArePlaces heard records places → AreAllPut heard records places
    → IsAllHeard heard records (slice_index_or places 0 []) → AreOrdered lines heard records places
    → Contains records trace
    → IsCounted (put_at places trace.pid) (length places) first owner
    → HasPut lines heard records trace (signals_in owner.drawn)
