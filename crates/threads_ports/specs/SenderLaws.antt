-- What keeps the facts of senders, and where they lead.
use Rattle.std.specs.Prelude.{◌≡◌, ◌⊎◌, ℕ, List, [], ◌∷◌, ◌++◌, length}
use Rattle.port_model.specs.Put.{StartsWith}
use Rattle.port_model.specs.declared.inbox.placed.Placed.{Placed}
use Rattle.input_port.specs.QueueEnds.{SenderState}
use Rattle.port_model.specs.declared.values.item.Item.{Item}
use Rattle.port_model.specs.declared.values.pid.Pid.{Pid}
use Rattle.threads_ports.specs.Rows.{Holds}
use Rattle.run_record.specs.Event.{Event}
use Rattle.threads_ports.specs.Peers.{AreLast, ArePeers, ArePeersOf, PeersState, put_by, put_to}
use Rattle.run_semantics.specs.Sent.{sent_by_one}
use Rattle.run_semantics.specs.World.{Sent}

-- Without senders nothing was put, whatever is sent.
abbrev pub NobodyPuts : Type 0
NobodyPuts = (origin : Pid) (sends : Sent) → ArePeers origin sends []

-- Where more is sent and nothing is put, it stays so, if to each instance just as much is sent, or nothing was put into
-- its port so far.
abbrev pub OthersPutNothing : Type 0
OthersPutNothing =
    (origin : Pid) (sends more : Sent) (peers : PeersState)
    → ((number : ℕ) → (more number ≡ sends number) ⊎ (put_to peers number ≡ []))
    → ArePeers origin sends peers → ArePeers origin more peers

-- An event by which nothing is put keeps it: to each instance it sends nothing, or nothing was put into its port so far.
abbrev pub OthersRecordNothing : Type 0
OthersRecordNothing =
    (who : ℕ) (events : List Event) (happened : Event) (peers : PeersState)
    → ((number : ℕ) → (sent_by_one who number happened ≡ []) ⊎ (put_to peers number ≡ []))
    → ArePeersOf who events peers → ArePeersOf who (events ++ happened ∷ []) peers

-- Where a port knows all that a sender had seen, as after it has gathered it, the sender's row holds.
abbrev pub SendersFillRows : Type 0
SendersFillRows =
    (sends : Pid → List Item) (known : List Placed) (origin : Pid) (sender : SenderState)
    → AreLast origin (sends origin) (put_by sender) → StartsWith known sender.seen
    → Holds sends known (record { origin = origin; number = sender.number; sent = length (put_by sender) })
