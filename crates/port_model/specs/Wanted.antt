-- What a look through a port is for.
use Rattle.std.specs.Prelude.{◌≡◌, Bool, true, false, List}
use Rattle.port_model.specs.declared.selection.Class.{Class}
use Rattle.port_model.specs.declared.selection.Class.TheVariants as class
use Rattle.port_model.specs.declared.wanted.Wanted.{Wanted}
use Rattle.port_model.specs.declared.wanted.Wanted.TheVariants as wanted
use Rattle.port_model.specs.declared.got.Got.{Got}
use Rattle.port_model.specs.Selection.{class_of}
use Rattle.port_model.specs.Take.{name_of}

-- a look is for entries of this class
abbrev pub is_wanted : Wanted → Class → Bool
is_wanted wanted.Priority class.Priority = true
is_wanted wanted.Priority c = false
is_wanted wanted.Unsaved class.Saved = false
is_wanted wanted.Unsaved c = true

-- a look is for this entry, or passes over it
abbrev pub IsWanted : Wanted → List Class → Got → Type 0
IsWanted w classes got = is_wanted w (class_of classes (name_of got)) ≡ true

abbrev pub IsUnwanted : Wanted → List Class → Got → Type 0
IsUnwanted w classes got = is_wanted w (class_of classes (name_of got)) ≡ false
