-- Events as a reader of a record tells them: without their values, which stand beside them.
use Rattle.std.specs.Prelude.{ℕ, List}
use Rattle.port_model.specs.declared.got.Got as got
use Rattle.port_model.specs.declared.got.Got.TheVariants as came
use Rattle.port_model.specs.declared.values.item.SignalId.{SignalId}
use Rattle.port_model.specs.declared.values.pid.Pid as pid
use Rattle.port_model.specs.declared.values.pid.Pid.TheVariants as who
use Rattle.port_model.specs.declared.values.value.Value.{Value}
use Rattle.run_record.specs.Event as event
use Rattle.run_record.specs.declared.entry.Entry as entry
use Rattle.run_record.specs.declared.entry.Entry.TheVariants as kept
use Rattle.run_record.specs.declared.entry.Origin as origin
use Rattle.run_record.specs.declared.entry.Origin.TheVariants as from
use Rattle.run_record.specs.declared.entry.Stimulus.{Stimulus}

-- a signal of this sender
abbrev pub signal_got : SignalId → List Value → pid.Pid → got.Got
signal_got name values sender = came.Signal (record { name = name; values = values; sender = sender })

-- what came from there, with these values
abbrev pub got_from : origin.Origin → SignalId → List Value → got.Got
got_from from.Timer name values = came.Timer (record { name = name; values = values })
got_from from.Null name values = signal_got name values who.Null
got_from from.Env name values = signal_got name values who.Env
got_from (from.Instance number) name values = signal_got name values (who.Of number)

abbrev pub got_of : Stimulus → List Value → got.Got
got_of stimulus values = got_from stimulus.origin stimulus.name values

-- who sent what the instance of this number got: a timer's signal comes from the instance itself
abbrev pub sender_of : ℕ → got.Got → pid.Pid
sender_of own (came.Signal item) = item.sender
sender_of own (came.Timer key) = who.Of own

-- the event of an entry with these values
abbrev pub event_of : entry.Entry → List Value → event.Event
event_of (kept.Start at) values = event.Start at
event_of (kept.Consumed at got) values = event.Consumed at (got_of got values)
event_of (kept.Prior at got) values = event.Prior at (got_of got values)
event_of (kept.Discarded at got) values = event.Discarded at (got_of got values)
event_of (kept.Provided at number) values = event.Provided at number
event_of (kept.FailedAt at why) values = event.FailedAt at why
event_of (kept.Task variable value) values = event.Task variable value
event_of (kept.Output signal to target) values = event.Output signal to values target
event_of (kept.Set timer due) values = event.Set (record { name = timer; values = values }) due
event_of (kept.Reset timer) values = event.Reset (record { name = timer; values = values })
event_of (kept.Create process pid) values = event.Create process pid
event_of (kept.NextState state) values = event.NextState state
event_of kept.Stop values = event.Stop
event_of (kept.Failed why) values = event.Failed why
event_of (kept.Rest state) values = event.Rest state
event_of (kept.Cut state) values = event.Cut state
