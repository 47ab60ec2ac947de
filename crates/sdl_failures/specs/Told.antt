-- What an instance knows after an event of its record, by the event alone.
use Rattle.std.specs.Prelude.{ℕ, Option, Some}
use Rattle.port_model.specs.Port.{PortState, remove_from, set_in}
use Rattle.port_model.specs.Take.{name_of}
use Rattle.port_model.specs.declared.got.Got.{Got}
use Rattle.port_model.specs.declared.got.Got.TheVariants.{Signal, Timer}
use Rattle.port_model.specs.declared.values.pid.Pid.TheVariants.{Of}
use Rattle.run_record.specs.declared.evaluation.store.Store.{Store}
use Rattle.run_record.specs.Entry.{sender_of}
use Rattle.run_record.specs.Event.{Event, values_got}
use Rattle.run_record.specs.Event as event
use Rattle.run_semantics.specs.Leads.{offspring_of}
use Rattle.run_semantics.specs.Reception.{assigned}
use Rattle.sdl_system.specs.declared.id.StateId.{StateId}
use Rattle.sdl_system.specs.declared.process.Process.{Process}
use Rattle.sdl_failures.specs.Received.{received_by, reception_in}

-- ---- the store

-- what the instance of this number knows once it has taken something at this time, and once the transition of that
-- begins
abbrev pub taken_at : ℕ → ℕ → Got → Store → Store
taken_at own at got s = record s { sender = sender_of own got; time = at }

abbrev pub begun_at : ℕ → ℕ → Got → Store → Store
begun_at own at got s = record s { sender = sender_of own got; time = at; done = 0 }

-- What the instance of this number knows after an event, in the state in which it was last. Nothing is known where the
-- state takes no such signal, or a value of it doesn't fit.
abbrev pub store_after : Process → ℕ → Option StateId → Store → Event → Option Store
store_after process own state s (event.Start at) = Some (record s { time = at; done = 0 })
store_after process own state s (event.Consumed at got) =
    received_by process (reception_in process state (name_of got)) (values_got got) (begun_at own at got s)
store_after process own state s (event.Prior at got) =
    received_by process (reception_in process state (name_of got)) (values_got got) (begun_at own at got s)
store_after process own state s (event.Discarded at got) = Some (taken_at own at got s)
store_after process own state s (event.Provided at number) = Some (record s { sender = Of own; time = at; done = 0 })
store_after process own state s (event.Task variable value) = Some (assigned variable value s)
store_after process own state s (event.Create created number) = Some (record s { offspring = offspring_of number })
store_after process own state s happened = Some s

-- ---- the timers

-- a timer whose signal is taken is active no longer
abbrev pub port_without : PortState → Got → PortState
port_without port (Signal item) = port
port_without port (Timer key) = remove_from port key

abbrev pub port_after : PortState → Event → PortState
port_after port (event.Consumed at got) = port_without port got
port_after port (event.Prior at got) = port_without port got
port_after port (event.Discarded at got) = port_without port got
port_after port (event.Set key due) = set_in port key due
port_after port (event.Reset key) = remove_from port key
port_after port happened = port

-- ---- the state

-- the state in which it was last
abbrev pub state_after : Option StateId → Event → Option StateId
state_after state (event.NextState entered) = Some entered
state_after state happened = state
