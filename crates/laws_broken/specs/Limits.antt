-- Limits come first: where one is passed, it is told whatever else is noted behind it.
use Rattle.std.specs.Prelude.{◌≡◌, ◌++◌, ℕ, List, None, Some}
use Rattle.build_definitions.specs.Definitions.{Rows}
use Rattle.build_definitions.specs.declared.symbols.symbol_table.SymbolTable.{SymbolTable}
use Rattle.build_network.specs.Network.{network_faults}
use Rattle.build_process.specs.Faulty.{body_faults}
use Rattle.build_process.specs.ProcessScope.{ProcessScope}
use Rattle.build_names.specs.FaultLaws.{Each}
use Rattle.build_names.specs.Faults.{Diagnostic, least_of}
use Rattle.build_names.specs.declared.faults.fault.Rule.TheVariants.{Limit}
use Rattle.sdl_tree.specs.Tree.{ProcessDefinition}

-- the fault is no limit that is passed
abbrev pub IsNoLimit : Diagnostic → Type 0
IsNoLimit fault = fault.rule ≡ Limit → ⊥

-- No limit is passed in what joins the agents.
abbrev pub NoLimitInNetwork : Type 0
NoLimitInNetwork = (rows : Rows) (symbols : SymbolTable) → Each IsNoLimit (network_faults rows symbols)

-- None is passed in the states and transitions of a process, whatever the names of the joins that its start reaches.
abbrev pub NoLimitInBodies : Type 0
NoLimitInBodies = (around : ProcessScope) (process : ProcessDefinition) (names : List (List ℕ)) →
    Each IsNoLimit (body_faults around process names)

-- A limit that is told is told still once faults are noted that are none.
abbrev pub LimitStays : Type 0
LimitStays = (limit : Diagnostic) (more : List Diagnostic) → limit.rule ≡ Limit → Each IsNoLimit more →
    least_of (Some limit) more ≡ Some limit

-- So what stops behind a limit tells the same fault as what goes on.
abbrev pub LimitFirst : Type 0
LimitFirst = (faults : List Diagnostic) (limit : Diagnostic) (more : List Diagnostic) →
    least_of None faults ≡ Some limit →
    limit.rule ≡ Limit → Each IsNoLimit more → least_of None (faults ++ more) ≡ Some limit
