-- When two records say the same.
use Rattle.std.specs.Prelude.{◌≡◌, Bool, true, false}
use Rattle.run_record.specs.Record.{RecordValue}
use Rattle.run_record.specs.declared.entry.Entry.{Entry}
use Rattle.run_record.specs.declared.entry.Entry.TheVariants as entry

-- they are of the same instance
pub record AreOfOne (left right : RecordValue) : Type 0 where
  pub process : left.process ≡ right.process
  pub pid : left.pid ≡ right.pid
  pub parent : left.parent ≡ right.parent

-- They are of the same instance, and have the same events.
pub record SaySame (left right : RecordValue) : Type 0 where
  pub process : left.process ≡ right.process
  pub pid : left.pid ≡ right.pid
  pub parent : left.parent ≡ right.parent
  pub events : left.events ≡ right.events

-- whether an event of the entry has values
abbrev pub has_values : Entry → Bool
has_values (entry.Consumed at got) = true
has_values (entry.Prior at got) = true
has_values (entry.Discarded at got) = true
has_values (entry.Output signal to target) = true
has_values (entry.Set timer due) = true
has_values (entry.Reset timer) = true
has_values other = false
