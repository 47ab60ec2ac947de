-- What callers see of the ends of a port: the desk, the senders, what draws, and what is left at the end.
use Rattle.std.specs.Prelude.{◌≡◌, ℕ, ◌≤◌, ◌^◌, true, List, [], length, count_by}
use Rattle.std.specs.declared.alloc.Global.{Global}
use Rattle.crossbeam_queue.specs.SegTies.{SegId}
use Rattle.port_model.specs.Port.{empty_port}
use Rattle.port_model.specs.declared.inbox.entry.Entry.{Entry}
use Rattle.port_model.specs.declared.inbox.placed.Placed.{Placed}
use Rattle.port_model.specs.declared.inbox.placed.Gone.{Gone}
use Rattle.input_port.specs.declared.queue.rule.View.{View}
use Rattle.port_model.specs.Ends.{is_signal, OwnerState}
use Rattle.port_model.specs.Put.{of, StartsWith, AllThere, Apart}

-- what a caller sees of the desk: which port it is of, and how many numbers it has given out
pub record DeskState : Type 0 where
  pub port : SegId Global
  pub given : ℕ

-- what a caller sees of a sender: which port it is of, its number, and the beginning of the put list that it has seen
pub record SenderState : Type 0 where
  pub port : SegId Global
  pub number : ℕ
  pub seen : List Placed

-- an owner as it is made: it has drawn nothing and knows of nothing, and its port is the empty one
abbrev pub newborn : SegId Global → ℕ → OwnerState
newborn port pid =
    record { port = port; pid = pid; drawn = []; known = []; gathered = []; state = empty_port; armed = [] }

-- What every owner knows: the known list begins with what was drawn, and has all entries of the gathered senders, whose
-- numbers differ.
pub record IsKnowing (o : OwnerState) : Type 0 where
  pub begins : StartsWith o.known o.drawn
  pub there : AllThere o.known o.gathered
  pub apart : Apart o.gathered

-- What an owner leaves at its end: the entries that are left, and what it had drawn, knew and had gathered by then.
pub record FinishedState : Type 0 where
  pub entries : List Entry
  pub drawn : List Placed
  pub known : List Placed
  pub gathered : List Gone

-- what an owner leaves with these entries
abbrev pub left_with : OwnerState → List Entry → FinishedState
left_with o entries = record { entries = entries; drawn = o.drawn; known = o.known; gathered = o.gathered }

-- how many entries a sender has put, and how many of them are signals
abbrev pub sent_by : SenderState → ℕ
sent_by s = length (of s.number s.seen)

abbrev pub signals_by : SenderState → ℕ
signals_by s = count_by is_signal (of s.number s.seen)

-- a sender's fields say what its pass knows
pub record IsOfSender (known : View) (number count signals : ℕ) : Type 0 where
  pub sends : known.sends ≡ true
  pub number_is : known.number ≡ number
  pub count_is : known.count ≡ count
  pub own : length (of number known.seen) ≡ count
  pub signals_are : count_by is_signal (of number known.seen) ≡ signals
  pub fewer : signals ≤ count
  pub most : count ≤ 2 ^ 61

-- the desk's
pub record IsOfDesk (known : View) (given : ℕ) : Type 0 where
  pub gives : known.gives ≡ true
  pub given_is : known.number ≡ given

-- the owner's
pub record IsOfOwner (known : View) (gathered signals : ℕ) : Type 0 where
  pub takes : known.takes ≡ true
  pub gathered_is : length known.gathered ≡ gathered
  pub signals_are : count_by is_signal known.drawn ≡ signals
  pub begins : StartsWith known.seen known.drawn
  pub there : AllThere known.seen known.gathered
  pub apart : Apart known.gathered
