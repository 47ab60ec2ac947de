-- The words of the contracts and the proofs of a port's queue, from here and from the crates below.
pub use Rattle.crossbeam_queue.specs.SegTies.{IsSegPassOf}
pub use Rattle.port_model.specs.Calls.{after_draw, after_draws, after_reset, after_stop, known_after, AreNext, ComesBack, HasDrawn, IsDrawn, NothingWaits, SetIs, TakeIs, TakesHere}
pub use Rattle.port_model.specs.Ends.{is_signal, signals_drawn, OwnerState}
pub use Rattle.port_model.specs.Left.{AreWaiting}
pub use Rattle.port_model.specs.Put.{longer, of, one_to, shorter, AllThere, Apart, IsDueBy, IsTimely, StartsWith}
pub use Rattle.port_model.specs.declared.inbox.entry.Entry.{Entry}
pub use Rattle.port_model.specs.declared.inbox.entry.Entry.TheVariants.{Signal, Timer}
pub use Rattle.port_model.specs.declared.inbox.placed.Gone.{Gone}
pub use Rattle.port_model.specs.declared.inbox.placed.Placed.{Placed}
pub use Rattle.input_port.specs.QueueCalls.{popped_list, DrainIs, GatherIs, IsGathered, MeetIs, NextIs, PullIs, PutIs, Puts, TakesIn, TakesNext}
pub use Rattle.input_port.specs.QueueEnds.{left_with, newborn, sent_by, signals_by, FinishedState, IsKnowing, IsOfOwner, IsOfSender, SenderState}
pub use Rattle.input_port.specs.Rule.{Book, EachView, Fits, FitsDesk, FitsOwner, FitsSender, IsGiven, IsGone, Kept}
pub use Rattle.input_port.specs.Steps.{Adds, Draws, IsFresh}
pub use Rattle.input_port.specs.Views.{desk, gathers, last_gathered, owner, owner_of, sender, sender_again, spent, whole, without_first, without_last, HasGathered}
pub use Rattle.input_port.specs.declared.queue.rule.View.{View}
pub use Rattle.port_model.specs.PlainPort.{armed_left}
pub use Rattle.port_model.specs.Port.{PortState}
pub use Rattle.port_model.specs.Timers.{armed_after, due_times, is_active, Armed, IsLeast}
pub use Rattle.port_model.specs.declared.plain_port.TheConstants.{MOST_SETS}
