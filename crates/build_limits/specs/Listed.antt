-- What the lists stand for that are made of the parts of a tree.
use Rattle.std.specs.Prelude.{List, map}
use Rattle.std.specs.Borrow.{Bor}
use Rattle.sdl_tree.specs.Tree as tree
use Rattle.sdl_tree.specs.Views.{name_value, sorts_value, definition_value, process_value}
use Rattle.sdl_tree.specs.declared.definitions.Definition.{Definition}
use Rattle.sdl_tree.specs.declared.definitions.ProcessDefinition.{ProcessDefinition}
use Rattle.build_limits.specs.Limits as limits
use Rattle.build_limits.specs.declared.limits.Declared.{Declared}

abbrev pub definitions_listed : List (Bor Definition) → List tree.Definition
definitions_listed definitions = map (λ definition. definition_value definition.now) definitions

abbrev pub processes_listed : List (Bor ProcessDefinition) → List tree.ProcessDefinition
processes_listed processes = map (λ process. process_value process.now) processes

abbrev pub declared_value : Declared → limits.Declared
declared_value declared = record { name = name_value declared.name.now; sorts = sorts_value declared.sorts.now }

abbrev pub declared_listed : List Declared → List limits.Declared
declared_listed declared = map declared_value declared
