-- What callers see of an owner, and of a port for one thread.
use Rattle.std.specs.Prelude.{ℕ, Bool, true, false, List, [], count_by}
use Rattle.std.specs.declared.alloc.Global.{Global}
use Rattle.crossbeam_queue.specs.SegTies.{SegId}
use Rattle.port_model.specs.Port.{PortState}
use Rattle.port_model.specs.Timers.{Armed}
use Rattle.port_model.specs.declared.inbox.entry.Entry.{Entry}
use Rattle.port_model.specs.declared.inbox.entry.Entry.TheVariants.{Signal, Timer}
use Rattle.port_model.specs.declared.inbox.placed.Placed.{Placed}
use Rattle.port_model.specs.declared.inbox.placed.Gone.{Gone}

-- the entry is a signal
abbrev pub is_signal_entry : Entry → Bool
is_signal_entry (Signal item) = true
is_signal_entry (Timer fuse) = false

abbrev pub is_signal : Placed → Bool
is_signal placed = is_signal_entry placed.entry

-- What a caller sees of the owner: which port it is of, and its number; the entries that it has drawn; its known list; the
-- senders that are gathered with it, the last one first; the port of the standard that its calls and the drawn entries have
-- made; and what the sets of the active timers gave.
pub record OwnerState : Type 0 where
  pub port : SegId Global
  pub pid : ℕ
  pub drawn : List Placed
  pub known : List Placed
  pub gathered : List Gone
  pub state : PortState
  pub armed : List Armed

-- how many signals an owner has drawn
abbrev pub signals_drawn : OwnerState → ℕ
signals_drawn o = count_by is_signal o.drawn

-- a port that no queue stands behind, and the owner of a port for one thread, who draws nothing
abbrev pub no_port : SegId Global
no_port = record { web = (0, 0); heap = record { memory = record { seal = tt } } }

abbrev pub single : ℕ → PortState → List Armed → OwnerState
single pid state armed = record { port = no_port; pid = pid; drawn = []; known = []; gathered = []; state = state; armed = armed }

-- what a caller sees of a port for one thread
pub record AloneState : Type 0 where
  pub pid : ℕ
  pub state : PortState
  pub armed : List Armed
