-- How parameters, variables and timers are read: a device of the proofs, which say that it reads what the grammar spells
-- and nothing else.
use Rattle.std.specs.Prelude.{ℕ, List, Option}
use Rattle.sdl_tree.specs.declared.mark.Mark.TheVariants as mark
use Rattle.sdl_tree.specs.declared.name.Spelling.{Spelling}
use Rattle.sdl_tree.specs.Tree.{Expr, ParameterGroup, FormalParameters, VariableGroup, TimerDefinition, TimerDefinitions}
use Rattle.sdl_tree.specs.Words.{Spot}
use Rattle.parse_expressions.specs.Expressions.{expr}
use Rattle.parse_expressions.specs.Parts.{ended}
use Rattle.parse_expressions.specs.Reading.{Parser, ◌⊗◌, behind, made, maybe, sees, expect, name, separated, in_parentheses}

abbrev pub parameters_with : List Spot × Spot → ParameterGroup
parameters_with p = record { names = p.0; sort = p.1 }

-- NAME {"," NAME} NAME
unfoldable pub parameters : Parser ParameterGroup
parameters = made parameters_with (separated name ⊗ name)

abbrev pub fpar_with : Spelling × List ParameterGroup → FormalParameters
fpar_with p = record { word = p.0; groups = p.1 }

-- "fpar" vars end, where vars = NAME {"," NAME} NAME ["," vars]
unfoldable pub fpar : Parser FormalParameters
fpar = made fpar_with (expect mark.Fpar ⊗ ended (separated parameters))

-- ["fpar" vars end]
abbrev pub some_fpar : Parser (Option FormalParameters)
some_fpar = maybe (sees mark.Fpar) fpar

-- [":=" expr]
abbrev pub initial : ℕ → Parser (Option Expr)
initial depth = maybe (sees mark.Assign) (behind mark.Assign (expr depth))

abbrev pub variables_with : List Spot × (Spot × Option Expr) → VariableGroup
variables_with p = record { names = p.0; sort = p.1.0; initial = p.1.1 }

-- NAME {"," NAME} NAME [":=" expr]
unfoldable pub variables : ℕ → Parser VariableGroup
variables depth = made variables_with (separated name ⊗ (name ⊗ initial depth))

-- "dcl" vars end, where vars = NAME {"," NAME} NAME [":=" expr] ["," vars]
unfoldable pub dcl : ℕ → Parser (List VariableGroup)
dcl depth = behind mark.Dcl (ended (separated (variables depth)))

abbrev pub timer_with : Spot × (List Spot × Option Expr) → TimerDefinition
timer_with p = record { name = p.0; sorts = p.1.0; duration = p.1.1 }

-- one = NAME [sorts] [":=" expr]
unfoldable pub one : ℕ → Parser TimerDefinition
one depth = made timer_with (name ⊗ (in_parentheses name ⊗ initial depth))

abbrev pub timers_with : Spelling × List TimerDefinition → TimerDefinitions
timers_with p = record { word = p.0; timers = p.1 }

-- timer = "timer" one {"," one} end
unfoldable pub timer : ℕ → Parser TimerDefinitions
timer depth = made timers_with (expect mark.Timer ⊗ ended (separated (one depth)))
