-- What a state does with a name.
use Rattle.std.specs.Prelude.{List, slice_index_or}
use Rattle.port_model.specs.declared.selection.Class.{Class}
use Rattle.port_model.specs.declared.selection.Class.TheVariants.{Discard}
use Rattle.port_model.specs.declared.values.item.SignalId.{SignalId}

-- the class of a name: what stands at its number, or Discard past the end
abbrev pub class_of : List Class → SignalId → Class
class_of classes name = slice_index_or classes name.0 Discard
