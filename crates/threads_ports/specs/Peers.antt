-- The senders of an instance or of the environment, and what they have put (Z.101: input port).
use Rattle.std.specs.Prelude.{◌≡◌, ◌==◌, ℕ, Bool, true, false, nat_eq, List, [], ◌∷◌, ◌++◌, All, map, Option, Some}
use Rattle.std.specs.Prelude.{if◌then◌else◌, is_some}
use Rattle.std.specs.declared.alloc.Global.{Global}
use Rattle.std.specs.Map.{lookup, set_value}
use Rattle.std.specs.Option.{option_map_or}
use Rattle.crossbeam_queue.specs.SegTies.{SegId}
use Rattle.port_model.specs.declared.inbox.entry.Entry.{Entry}
use Rattle.port_model.specs.Put.{of}
use Rattle.input_port.specs.QueueCalls.{Puts}
use Rattle.input_port.specs.Counts.{signals_in}
use Rattle.input_port.specs.QueueEnds.{SenderState}
use Rattle.port_model.specs.declared.values.item.Item.{Item}
use Rattle.port_model.specs.declared.values.pid.Pid.{Pid}
use Rattle.port_model.specs.declared.values.pid.Pid.TheVariants.{Of}
use Rattle.port_model.specs.declared.course.course.SenderInto.{SenderInto}
use Rattle.threads_ports.specs.Rows.{EndsWith}
use Rattle.threads_ports.specs.declared.senders.not_put.NotPut.{NotPut}
use Rattle.threads_ports.specs.declared.senders.not_put.NotPut.TheVariants.{Memory, Unknown}
use Rattle.run_record.specs.Event.{Event}
use Rattle.run_semantics.specs.Sent.{sent_to}
use Rattle.run_semantics.specs.World.{Sent}

-- ---- the senders

-- the senders of one, each with the number of the instance into whose port it puts, in the order in which they came
abbrev pub PeersState : Type 0
PeersState = List (ℕ × SenderState)

-- the sender into the port of this instance, if there is one
abbrev pub sender_to : PeersState → ℕ → Option SenderState
sender_to peers number = lookup (nat_eq number) peers

abbrev pub is_known : PeersState → ℕ → Bool
is_known peers number = is_some (sender_to peers number)

-- into which ports they put, and which number each has there
abbrev pub sender_into : ℕ × SenderState → SenderInto
sender_into peer = record { port = peer.0; number = peer.1.number }

abbrev pub senders_into : PeersState → List SenderInto
senders_into peers = map sender_into peers

-- each sender is of the port of its number
abbrev pub AreNamed : (ℕ → SegId Global) → PeersState → Type 0
AreNamed ports peers =
    (number : ℕ) (sender : SenderState) → sender_to peers number ≡ Some sender → sender.port ≡ ports number

-- The sender of this number has put an entry. All others are as they were, and all stand in the same order.
pub record PutsTo (number at : ℕ) (entry : Entry) (old new : PeersState) : Type 0 where
  pub before : SenderState
  pub after : SenderState
  pub known : sender_to old number ≡ Some before
  pub puts : Puts before after at entry
  pub changed : new ≡ set_value (nat_eq number) old after

-- A signal that is not put comes back as it was. The cause says whether there is a sender of this number.
abbrev pub GivesBack : NotPut → Item → ℕ → PeersState → Type 0
GivesBack (Unknown back) item number peers = (back ≡ item) × (is_known peers number ≡ false)
GivesBack (Memory back) item number peers = (back ≡ item) × (is_known peers number ≡ true)

-- ---- what they have put

-- the signals that a sender has put, in their order
abbrev pub put_by : SenderState → List Item
put_by sender = signals_in (of sender.number sender.seen)

-- those that were put into the port of this instance; without a sender, none
abbrev pub put_to : PeersState → ℕ → List Item
put_to peers number = option_map_or put_by (sender_to peers number) []

-- The signals are all of this origin, and end what it sends.
pub record AreLast (origin : Pid) (sends put : List Item) : Type 0 where
  pub own : All (λ item. item.sender ≡ origin) put
  pub end : EndsWith sends put

-- So are those that were put into each port, by what the origin sends to each instance. What it sends beside them was
-- sent before there was a sender.
abbrev pub ArePeers : Pid → Sent → PeersState → Type 0
ArePeers origin sends peers = (number : ℕ) → AreLast origin (sends number) (put_to peers number)

-- so it is of an instance, which sends what its events say
abbrev pub ArePeersOf : ℕ → List Event → PeersState → Type 0
ArePeersOf who events peers = ArePeers (Of who) (sent_to who events) peers

-- what is sent to each instance, with this signal to the instance `to` after all other
abbrev pub with_signal : Sent → ℕ → Item → Sent
with_signal sends to item number = if to == number then sends number ++ item ∷ [] else sends number
