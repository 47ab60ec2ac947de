-- The names of one name space, by the scopes that declare them. A scope has a list of its names, in the order of the text,
-- each with what it stands for.
use Rattle.std.specs.Prelude.{ℕ, ◌==◌, ◌++◌, Bool, true, false, List, [], ◌∷◌, Option, None, Some, slice_index_or, if◌then◌else◌}
use Rattle.build_names.specs.declared.scopes.row.Row.{Row}
use Rattle.build_names.specs.declared.scopes.scope.ScopeId.{ScopeId}
use Rattle.build_names.specs.declared.scopes.scope.ScopeId.TheVariants.{System, Block, Process}
use Rattle.build_names.specs.declared.scopes.scope.ScopePath.{ScopePath}
use Rattle.build_names.specs.declared.scopes.spaces.Spaces.{Spaces}
use Rattle.sdl_system.specs.declared.id.BlockId.{BlockId}
use Rattle.sdl_system.specs.declared.id.ProcessId.{ProcessId}

abbrev pub is_same_scope : ScopeId → ScopeId → Bool
is_same_scope System System = true
is_same_scope System (Block other) = false
is_same_scope System (Process other) = false
is_same_scope (Block one) System = false
is_same_scope (Block one) (Block other) = one.0 == other.0
is_same_scope (Block one) (Process other) = false
is_same_scope (Process one) System = false
is_same_scope (Process one) (Block other) = false
is_same_scope (Process one) (Process other) = one.0 == other.0

-- the names of the scope of this number, and none where it has no place
abbrev pub names_at : {T : Type 0} → Row T → ℕ → List (List ℕ × T)
names_at row number = slice_index_or row.names.items number []

-- the names of a scope
abbrev pub names_of : {T : Type 0} → Spaces T → ScopeId → List (List ℕ × T)
names_of spaces System = spaces.system
names_of spaces (Block number) = names_at spaces.blocks number.0
names_of spaces (Process number) = names_at spaces.processes number.0

-- a name with what it stands for, if this holds
abbrev pub entry_if : {T : Type 0} → Bool → List ℕ → T → List (List ℕ × T)
entry_if is text what = if is then (text, what) ∷ [] else []

-- the names of a process, and none where there is no such scope
abbrev pub process_names : {T : Type 0} → Spaces T → Option ProcessId → List (List ℕ × T)
process_names spaces None = []
process_names spaces (Some number) = names_of spaces (Process number)

abbrev pub block_names : {T : Type 0} → Spaces T → Option BlockId → List (List ℕ × T)
block_names spaces None = []
block_names spaces (Some number) = names_of spaces (Block number)

-- the names that are seen in a process, in its block and in the system, those of the inner scopes first
abbrev pub seen_in : {T : Type 0} → Spaces T → ScopePath → List (List ℕ × T)
seen_in spaces path = process_names spaces path.process ++ (block_names spaces path.block ++ names_of spaces System)
