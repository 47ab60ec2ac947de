-- The conditions of a process, where each comes to something.
use Rattle.std.specs.Prelude.{◌≡◌, List, Option, None, Some, Contains, map}
use Rattle.std.specs.Global.{Vec}
use Rattle.sdl_system.specs.declared.expression.Expression.{Expression}

-- the list has each of these, or one of them comes to nothing
abbrev pub AreWhole : List (Option Expression) → Option (Vec Expression) → Type 0
AreWhole conditions None = Contains conditions None
AreWhole conditions (Some list) = map Some list.items ≡ conditions
