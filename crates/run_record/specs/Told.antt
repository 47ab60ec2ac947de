-- The event that a reader of a record tells.
use Rattle.run_record.specs.Entry.{event_of}
use Rattle.run_record.specs.Event.{Event}
use Rattle.run_record.specs.declared.reader.Told.{Told}

abbrev pub event_told : Told → Event
event_told one = event_of one.entry one.values.now
