-- What an instance did, and what instances send one another (Z.102: output, input).
use Rattle.std.specs.Prelude.{ℕ, Bool, true, false, List, Option, None, Some}
use Rattle.port_model.specs.declared.got.Got as got
use Rattle.port_model.specs.declared.got.Got.TheVariants as came
use Rattle.port_model.specs.declared.values.item.Item.{Item}
use Rattle.port_model.specs.declared.values.pid.Pid as pid
use Rattle.port_model.specs.declared.values.pid.Pid.TheVariants as who
use Rattle.port_model.specs.declared.values.value.Value.{Value}
use Rattle.sdl_system.specs.declared.route.Dest.TheVariants as to
use Rattle.sdl_system.specs.declared.route.Target.TheVariants as reached
use Rattle.run_record.specs.Event as event
use Rattle.run_record.specs.Event.{is_beginning}
use Rattle.view_timeline.specs.contracts.channel.ChannelPartialEq.TheImpl as channels
use Rattle.view_timeline.specs.declared.channel.Channel.{Channel}

-- an event, and the number of the instance of which it is
pub record Did : Type 0 where
  pub by : ℕ
  pub event : event.Event

abbrev pub did : ℕ → event.Event → Did
did number event = record { by = number; event = event }

-- ---- messages

-- what an instance sends another: the channel says who sends which signal to whom
pub record Message : Type 0 where
  pub channel : Channel
  pub values : List Value

-- whether two channels are the same: what `==` answers
abbrev pub same_channel : Channel → Channel → Bool
same_channel = channels.ghosts.eq

-- what an output sends, if it goes to an instance
abbrev pub sent_by : ℕ → event.Event → Option Message
sent_by own (event.Output signal to values (reached.Instance receiver)) = Some (record {
  channel = record { sender = own; receiver = receiver; signal = signal };
  values = values;
})
sent_by own _ = None

abbrev pub sent : Did → Option Message
sent d = sent_by d.by d.event

-- The instance to which an output goes that names no Pid: it is looked up among those that live.
abbrev pub looked_up : event.Event → Option ℕ
looked_up (event.Output signal to.Path values (reached.Instance number)) = Some number
looked_up (event.Output signal (to.Process process) values (reached.Instance number)) = Some number
looked_up _ = None

-- a signal that came from there to an instance, if an instance sent it
abbrev pub from_instance : ℕ → pid.Pid → Item → Option Message
from_instance own (who.Of sender) item = Some (record {
  channel = record { sender = sender; receiver = own; signal = item.name };
  values = item.values;
})
from_instance own _ item = None

abbrev pub message_got : ℕ → got.Got → Option Message
message_got own (came.Signal item) = from_instance own item.sender item
message_got own (came.Timer key) = None

-- what an input, a priority input or a discard takes, if an instance sent it
abbrev pub taken_by : ℕ → event.Event → Option Message
taken_by own (event.Consumed at got) = message_got own got
taken_by own (event.Prior at got) = message_got own got
taken_by own (event.Discarded at got) = message_got own got
taken_by own _ = None

abbrev pub taken : Did → Option Message
taken d = taken_by d.by d.event

-- ---- transitions

-- whether a move begins with the event: a transition does, so does a failure in a condition or a take, and so does how
-- a record closes
abbrev pub begins : event.Event → Bool
begins (event.FailedAt at why) = true
begins (event.Rest state) = true
begins (event.Cut state) = true
begins event = is_beginning event

-- whether a record closes with the event
abbrev pub is_closing : event.Event → Bool
is_closing (event.Rest state) = true
is_closing (event.Cut state) = true
is_closing _ = false

-- when it begins; a record closes at no time
abbrev pub time_of : event.Event → Option ℕ
time_of (event.Start at) = Some at
time_of (event.Consumed at got) = Some at
time_of (event.Prior at got) = Some at
time_of (event.Discarded at got) = Some at
time_of (event.Provided at number) = Some at
time_of (event.FailedAt at why) = Some at
time_of _ = None
