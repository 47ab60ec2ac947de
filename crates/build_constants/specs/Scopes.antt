-- What names stand for at a place of a specification, where its names are these and its synonyms come to these
-- constants.
use Rattle.std.specs.Prelude.{List}
use Rattle.build_definitions.specs.Definitions.{Rows, path_of}
use Rattle.build_definitions.specs.declared.symbols.symbol_table.SymbolTable.{SymbolTable}
use Rattle.build_expressions.specs.Scope.{Scope, agent_meaning, meaning, signal_meaning, value_meaning}
use Rattle.build_expressions.specs.declared.scope.Constant.{Constant}
use Rattle.build_names.specs.Spaces.{seen_in}
use Rattle.build_names.specs.declared.scopes.scope.ScopeId.{ScopeId}
use Rattle.build_names.specs.declared.scopes.scope.ScopePath.{ScopePath}

-- what is seen in these scopes
abbrev pub scope_at : SymbolTable → List Constant → ScopePath → Scope
scope_at symbols constants path = record {
  values = meaning (value_meaning constants) (seen_in symbols.values path);
  signals = meaning signal_meaning (seen_in symbols.signals path);
  agents = meaning agent_meaning (seen_in symbols.agents path);
}

-- what is seen inside a scope
abbrev pub scope_in : Rows → SymbolTable → List Constant → ScopeId → Scope
scope_in rows symbols constants place = scope_at symbols constants (path_of rows.processes place)
