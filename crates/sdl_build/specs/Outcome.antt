-- What comes of building.
use Rattle.std.specs.Prelude.{◌≡◌, Bool, true, false, List, Option, None, Some}
use Rattle.sdl_build.specs.Built.{IsBroken, IsSystemOr, IsTold}
use Rattle.sdl_build.specs.Faulty.{NotesRest}
use Rattle.sdl_build.specs.Context.{IsResolved, Resolved, AreConnections, Context, resolved_of}
use Rattle.sdl_build.specs.declared.error.BuildError.{BuildError}
use Rattle.sdl_build.specs.declared.error.BuildError.TheVariants as error
use Rattle.build_definitions.specs.Definitions.{Rows}
use Rattle.build_constants.specs.ConstantTable.{constant_table_faults}
use Rattle.build_constants.specs.Synonyms.{AreSynonymConstants}
use Rattle.build_definitions.specs.Meanings.{duplicate_faults}
use Rattle.build_definitions.specs.Spaces.{AreNamesOf}
use Rattle.build_definitions.specs.declared.symbols.symbol_table.SymbolTable.{SymbolTable}
use Rattle.build_names.specs.Faults.{Diagnostic, least_of, diagnostic_at, Notes}
use Rattle.build_names.specs.declared.faults.fault.Rule.{Rule}
use Rattle.build_names.specs.declared.faults.fault.Rule.TheVariants.{Limit}
use Rattle.build_expressions.specs.declared.scope.Constant.{Constant}
use Rattle.sdl_system.specs.System.{SystemValue}
use Rattle.sdl_tree.specs.Tree.{Tree}
use Rattle.sdl_tree.specs.Views.{name_value}

abbrev pub is_limit : Rule → Bool
is_limit Limit = true
is_limit _ = false

-- whether a limit is told
abbrev pub is_past_limit : Option Diagnostic → Bool
is_past_limit None = false
is_past_limit (Some fault) = is_limit fault.rule

-- what is noted and made of what joins the agents and of the processes, where these are the definitions
pub record IsMadeOn (resolved : Resolved) (old new : Option Diagnostic) (system : Option SystemValue) : Type 0 where
  pub context : Context
  pub defined : resolved_of context ≡ resolved
  pub connections : AreConnections context
  pub noted : NotesRest context old new
  pub made : IsSystemOr context system

-- what is noted and made of the definitions of these rows: up to a limit that is passed, or all
pub data IsMadeWith (rows : Rows) (old new : Option Diagnostic) (system : Option SystemValue) : Type 0 where
  up_to_limit :
      (symbols : SymbolTable) (constants : List Constant) → AreNamesOf rows symbols
      → AreSynonymConstants rows symbols constants
      → new ≡ least_of (least_of old (duplicate_faults rows)) (constant_table_faults rows symbols constants)
      → is_past_limit new ≡ true → IsMadeWith rows old new system
  to_the_end :
      (context : Context) → context.rows ≡ rows → AreNamesOf rows context.symbols
      → AreSynonymConstants rows context.symbols context.constants → AreConnections context
      → NotesRest context
      (least_of (least_of old (duplicate_faults rows)) (constant_table_faults rows context.symbols context.constants))
      new
      → IsSystemOr context system → IsMadeWith rows old new system

-- so where the names that are declared twice are noted before
abbrev pub IsMadeBehind : Rows → Option Diagnostic → Option Diagnostic → Option SystemValue → Type 0
IsMadeBehind rows mid new system =
    (old : Option Diagnostic) → Notes old mid (duplicate_faults rows) → IsMadeWith rows old new system

-- the specification is looked at to the end: this is told, and this is made
pub record IsLookedAt (tree : Tree) (fault : Option Diagnostic) (system : Option SystemValue) : Type 0 where
  pub context : Context
  pub defined : IsResolved tree (resolved_of context)
  pub connections : AreConnections context
  pub noted : IsTold tree context fault
  pub made : IsSystemOr context system

-- the specification is looked at up to a limit that it passes
pub record IsPastLimit (tree : Tree) (fault : Option Diagnostic) : Type 0 where
  pub past : Diagnostic
  pub is : fault ≡ Some past
  pub broken : IsBroken tree past

pub data IsMadeOf (tree : Tree) (fault : Option Diagnostic) (system : Option SystemValue) : Type 0 where
  past_limit : IsPastLimit tree fault → IsMadeOf tree fault system
  looked_at : IsLookedAt tree fault system → IsMadeOf tree fault system

-- the error tells this fault
abbrev pub Tells : Diagnostic → BuildError → Type 0
Tells fault (error.Broken rule word) = fault ≡ diagnostic_at rule (name_value word)
Tells fault error.Memory = ⊥

-- why there is no system
abbrev pub IsRefusedAs : Tree → BuildError → Type 0
IsRefusedAs tree (error.Broken rule word) = IsBroken tree (diagnostic_at rule (name_value word))
IsRefusedAs tree error.Memory = Unit {0}
