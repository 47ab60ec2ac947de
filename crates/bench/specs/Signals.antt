-- The signals of the rows: each has a name, one value, and no sender of its own.
use Rattle.std.specs.Prelude.{ℕ, ℤ, [], ◌∷◌}
use Rattle.port_model.specs.declared.inbox.entry.Entry.{Entry}
use Rattle.port_model.specs.declared.inbox.entry.Entry.TheVariants as entry
use Rattle.port_model.specs.declared.got.Got.TheVariants as got
use Rattle.port_model.specs.declared.taken.Taken.{Taken}
use Rattle.port_model.specs.declared.taken.Taken.TheVariants.{Consumed}
use Rattle.port_model.specs.declared.values.item.Item.{Item}
use Rattle.port_model.specs.declared.values.pid.Pid.TheVariants.{Env}
use Rattle.port_model.specs.declared.values.value.Value.TheVariants.{Int}

-- the signal of a name and a value
abbrev pub item_of : ℕ → ℤ → Item
item_of name value = record { name = record { 0 = name }; values = Int value ∷ []; sender = Env }

-- that signal as an entry of a port, and as what a take consumed
abbrev pub entry_of : ℕ → ℤ → Entry
entry_of name value = entry.Signal (item_of name value)

abbrev pub taken_of : ℕ → ℤ → Taken
taken_of name value = Consumed (got.Signal (item_of name value))
