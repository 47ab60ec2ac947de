-- What the synonyms of a specification come to, where its tables have these rows and its names are these.
use Rattle.std.specs.Prelude.{◌≡◌, List}
use Rattle.std.specs.List.{AllZip}
use Rattle.build_definitions.specs.Rows.{ProcessRow, SynonymRow}
use Rattle.build_definitions.specs.Definitions.{Rows, path_of}
use Rattle.build_constants.specs.Scopes.{scope_in}
use Rattle.build_definitions.specs.declared.symbols.symbol_table.SymbolTable.{SymbolTable}
use Rattle.build_names.specs.Faults.{Diagnostic}
use Rattle.build_expressions.specs.Constants.{constant_faults}
use Rattle.build_expressions.specs.Scope.{visible}
use Rattle.build_expressions.specs.declared.scope.Constant.{Constant}
use Rattle.build_names.specs.Spaces.{seen_in}
use Rattle.build_constants.specs.SettledSynonyms.{AreConstants}
use Rattle.build_constants.specs.declared.synonyms.synonym.Synonym.{Synonym}
use Rattle.sdl_tree.specs.Views.{expr_value}

-- the synonym of a row, with what is seen in the scope that it stands in
pub record IsSynonym (symbols : SymbolTable) (processes : List ProcessRow) (row : SynonymRow) (synonym : Synonym) :
    Type 0 where
  pub values : visible synonym.values ≡ seen_in symbols.values (path_of processes row.scope)
  pub signals : visible synonym.signals ≡ seen_in symbols.signals (path_of processes row.scope)
  pub agents : visible synonym.agents ≡ seen_in symbols.agents (path_of processes row.scope)
  pub sort : synonym.sort ≡ row.sort
  pub expression : expr_value synonym.expression.now ≡ row.definition.value

abbrev pub AreSynonyms : Rows → SymbolTable → List Synonym → Type 0
AreSynonyms rows symbols synonyms = AllZip (IsSynonym symbols rows.processes) rows.synonyms synonyms

-- the constants that they come to: one table, but for circles, which have no value
pub record AreSynonymConstants (rows : Rows) (symbols : SymbolTable) (constants : List Constant) : Type 0 where
  pub synonyms : List Synonym
  pub listed : AreSynonyms rows symbols synonyms
  pub come_to : AreConstants synonyms constants

-- the rules that are broken in the definition of one
abbrev pub faults_in_row : Rows → SymbolTable → List Constant → SynonymRow → List Diagnostic
faults_in_row rows symbols constants row =
    constant_faults (scope_in rows symbols constants row.scope) row.sort row.definition.value
