-- Lists of classes, one for each name.
use Rattle.std.specs.Prelude.{List}
use Rattle.port_model.specs.declared.selection.Class.{Class}

-- the class of each name, at its number
abbrev pub ClassList : Type 0
ClassList = List Class
