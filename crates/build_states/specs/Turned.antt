-- What the code keeps of where names stand.
use Rattle.std.specs.Prelude.{ℕ, List, [], Option, None, Some}
use Rattle.std.specs.Borrow.{Bor}
use Rattle.std.specs.Global.{Vec}
use Rattle.build_names.specs.Names.{first_of}
use Rattle.build_states.specs.declared.outline.Turn.{Turn}

abbrev pub entry_kept : Bor (List ℕ) × Vec Turn → List ℕ × List Turn
entry_kept entry = (entry.0.now, entry.1.items)

abbrev pub turns_found : Option (List Turn) → List Turn
turns_found None = []
turns_found (Some turns) = turns

-- where a name stands, by a table of names
abbrev pub turns_of : List (List ℕ × List Turn) → List ℕ → List Turn
turns_of table text = turns_found (first_of table text)
