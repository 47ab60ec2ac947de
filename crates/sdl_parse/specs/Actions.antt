-- Reading of actions but decisions and `set`. A reading is a device of the proofs: what the grammar spells, `sdl_tree` says.
use Rattle.std.specs.Prelude.{ℕ, List, Option}
use Rattle.sdl_tree.specs.declared.mark.Mark.TheVariants as mark
use Rattle.sdl_tree.specs.declared.name.Spelling.{Spelling}
use Rattle.sdl_tree.specs.Tree.{Expr, Applied, Assignment, Destination, Action, Task, Output, Reset, Create}
use Rattle.sdl_tree.specs.Words.{Spot}
use Rattle.parse_expressions.specs.Expressions.{expr}
use Rattle.parse_expressions.specs.Parts.{ended}
use Rattle.parse_expressions.specs.Reading.{Parser, ◌⊗◌, behind, made, maybe, sees, expect, name, separated, enclosed, in_parentheses}

abbrev pub assignment_with : Spot × Expr → Assignment
assignment_with p = record { variable = p.0; value = p.1 }

-- NAME ":=" expr
unfoldable pub assignment : ℕ → Parser Assignment
assignment depth = made assignment_with (name ⊗ behind mark.Assign (expr depth))

abbrev pub task_with : Spelling × List Assignment → Action
task_with p = Task p.0 p.1

-- "task" NAME ":=" expr {"," NAME ":=" expr} end
unfoldable pub task : ℕ → Parser Action
task depth = made task_with (expect mark.Task ⊗ ended (separated (assignment depth)))

abbrev pub applied_with : Spot × List Expr → Applied
applied_with p = record { name = p.0; values = p.1 }

-- NAME [args]
unfoldable pub applied : ℕ → Parser Applied
applied depth = made applied_with (name ⊗ in_parentheses (expr depth))

abbrev pub destination_with : Spelling × Expr → Destination
destination_with p = record { word = p.0; value = p.1 }

-- ["to" expr]
unfoldable pub destination : ℕ → Parser (Option Destination)
destination depth = maybe (sees mark.To) (made destination_with (expect mark.To ⊗ expr depth))

abbrev pub output_with : Spelling × (List Applied × Option Destination) → Action
output_with p = Output p.0 p.1.0 p.1.1

-- "output" NAME [args] {"," NAME [args]} ["to" expr] end
unfoldable pub output : ℕ → Parser Action
output depth = made output_with (expect mark.Output ⊗ ended (separated (applied depth) ⊗ destination depth))

abbrev pub create_with : Spelling × Applied → Action
create_with p = Create p.0 p.1

-- "create" NAME [args] end
unfoldable pub create : ℕ → Parser Action
create depth = made create_with (expect mark.Create ⊗ ended (applied depth))

-- keys = "(" NAME [args] {"," NAME [args]} ")"
unfoldable pub keys : ℕ → Parser (List Applied)
keys depth = enclosed (applied depth)

abbrev pub reset_with : Spelling × List (List Applied) → Action
reset_with p = Reset p.0 p.1

-- "reset" keys {"," keys} end
unfoldable pub reset : ℕ → Parser Action
reset depth = made reset_with (expect mark.Reset ⊗ ended (separated (keys depth)))
