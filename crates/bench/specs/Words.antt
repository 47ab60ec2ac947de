-- The words of the contracts of calls that are made again, from the crates below.
pub use Rattle.port_model.specs.Calls.{HasDrawn, TakesHere}
pub use Rattle.port_model.specs.declared.inbox.entry.Entry.TheVariants.{Signal}
pub use Rattle.input_port.specs.QueueCalls.{Gathers, Puts}
pub use Rattle.input_port.specs.QueueEnds.{newborn}
