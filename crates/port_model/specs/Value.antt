-- The values that a signal or a timer carries.
use Rattle.std.specs.Prelude.{List}
use Rattle.port_model.specs.declared.values.value.Value.{Value}

-- values in the order of the parameters
abbrev pub ValueList : Type 0
ValueList = List Value
