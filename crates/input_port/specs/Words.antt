-- The words of the contracts and the proofs of an owner, from here and from the crates below.
pub use Rattle.port_model.specs.Calls.{after_entry}
pub use Rattle.port_model.specs.Ends.{is_signal_entry}
pub use Rattle.input_port.specs.Calls.{entry_of, DrewAll, Finishes, FinishesSince, FinishIs, GatherSinceIs, GathersSince, HasDrawnSince, PullSinceIs}
pub use Rattle.input_port.specs.Ends.{HeldState, RetiredState}
pub use Rattle.input_port.specs.Held.{GatherHereIs, HasDrawnHere, IsKept, LeaveIs, Leaves}
pub use Rattle.port_model.specs.Port.{expire_in}
pub use Rattle.input_port.specs.QueueWords.{after_draw, after_draws, after_reset, after_stop, due_times, is_active, is_signal, left_with, newborn, of, owner, popped_list, sent_by, signals_drawn, AllThere, AreNext, AreWaiting, ComesBack, DrainIs, Entry, FinishedState, GatherIs, Gone, HasDrawn, IsDrawn, IsKnowing, IsLeast, IsTimely, MeetIs, MOST_SETS, OwnerState, Placed, PortState, SenderState, SetIs, Signal, TakeIs, Timer}
