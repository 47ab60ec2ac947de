-- Where no rule is broken in the definitions of a specification, its names lack nothing.
use Rattle.std.specs.Prelude.{◌≡◌, ℕ, ◌+◌, ◌<◌, List, [], ◌∷◌, Some, length, slice_get}
use Rattle.port_model.specs.declared.values.item.SignalId.{SignalId}
use Rattle.build_process.specs.Numbered.{AreDifferent, numbered}
use Rattle.laws_complete.specs.Complete.{AreThere, HasDurations, HasValue, IsComplete, IsThere}
use Rattle.build_definitions.specs.Parts.{all_sort_faults, parts_in}
use Rattle.build_definitions.specs.Rows.{ProcessRow, SignalRow, SynonymRow, ValueRow}
use Rattle.build_definitions.specs.Definitions.{Rows, rows_in}
use Rattle.build_constants.specs.ConstantTable.{all_durations, constant_table_faults, sort_of_entry}
use Rattle.build_constants.specs.Scopes.{scope_in}
use Rattle.build_constants.specs.Synonyms.{AreSynonymConstants}
use Rattle.build_names.specs.Labels.{process_labels}
use Rattle.build_definitions.specs.Meanings.{duplicate_faults}
use Rattle.build_definitions.specs.Spaces.{AreNamesOf}
use Rattle.build_definitions.specs.declared.symbols.symbol_table.SymbolTable.{SymbolTable}
use Rattle.build_statements.specs.Contexts.{Context}
use Rattle.build_names.specs.FaultLaws.{Each}
use Rattle.build_names.specs.States.{different, state_names}
use Rattle.build_expressions.specs.Scope.{SignalMeaning, signal, timer, signal_in}
use Rattle.build_expressions.specs.declared.scope.Constant.{Constant}
use Rattle.build_names.specs.Spaces.{names_of}
use Rattle.build_names.specs.declared.scopes.scope.ScopeId.{ScopeId}
use Rattle.build_names.specs.declared.scopes.scope.ScopeId.TheVariants as scope
use Rattle.sdl_system.specs.declared.id.StateId.{StateId}
use Rattle.sdl_tree.specs.Tree.{Tree}
use Rattle.sdl_tree.specs.Words.{Spot}

-- all that the tree defines
abbrev pub rows_of_tree : Tree → Rows
rows_of_tree tree = rows_in (parts_in tree)

-- No rule is broken in the definitions of the tree, which declare these names, and whose synonyms come to these
-- constants.
pub record IsFaultless (tree : Tree) (symbols : SymbolTable) (constants : List Constant) : Type 0 where
  pub named : AreNamesOf (rows_of_tree tree) symbols
  pub valued : AreSynonymConstants (rows_of_tree tree) symbols constants
  pub sorts : all_sort_faults tree ≡ []
  pub constant_table : constant_table_faults (rows_of_tree tree) symbols constants ≡ []
  pub duplicates : duplicate_faults (rows_of_tree tree) ≡ []

-- ---- sorts

-- each definition has its sorts
pub record HaveSorts (rows : Rows) : Type 0 where
  pub signals : Each (λ (row : SignalRow). AreThere row.sorts) rows.signals
  pub processes : Each (λ (row : ProcessRow). AreThere row.sorts) rows.processes
  pub synonyms : Each (λ (row : SynonymRow). IsThere row.sort) rows.synonyms
  pub values : Each (λ (row : ValueRow). IsThere (sort_of_entry row.entry)) rows.values

abbrev pub SortsGiven : Type 0
SortsGiven = (tree : Tree) → all_sort_faults tree ≡ [] → HaveSorts (rows_of_tree tree)

-- ---- synonyms

-- Each synonym has a value: none is defined by itself.
abbrev pub SynonymsValued : Type 0
SynonymsValued = (tree : Tree) (symbols : SymbolTable) (constants : List Constant) →
    IsFaultless tree symbols constants →
    Each HasValue constants

-- ---- scopes

-- Whatever the place, what is seen there lacks nothing.
abbrev pub ScopesComplete : Type 0
ScopesComplete = (tree : Tree) (symbols : SymbolTable) (constants : List Constant) →
    IsFaultless tree symbols constants →
    (place : ScopeId) → IsComplete (scope_in (rows_of_tree tree) symbols constants place)

-- Each default duration has its ticks.
abbrev pub DurationsGiven : Type 0
DurationsGiven = (tree : Tree) (symbols : SymbolTable) (constants : List Constant) →
    IsFaultless tree symbols constants →
    (place : ScopeId) (context : Context) → context.scope ≡ scope_in (rows_of_tree tree) symbols constants place →
    context.durations ≡ all_durations (rows_of_tree tree) symbols constants → HasDurations context

-- the number of a signal or a timer
abbrev pub number_of_signal : SignalMeaning → SignalId
number_of_signal (signal number sorts) = number
number_of_signal (timer number sorts has_default) = number

-- Each signal that is seen has a place in the table of signals.
abbrev pub SignalsBelow : Type 0
SignalsBelow = (tree : Tree) (symbols : SymbolTable) (constants : List Constant) → IsFaultless tree symbols constants →
    (place : ScopeId) (text : List ℕ) (meaning : SignalMeaning) →
    signal_in (scope_in (rows_of_tree tree) symbols constants place) text ≡ Some meaning →
    (number_of_signal meaning).0 < length (rows_of_tree tree).signals

-- ---- labels and states of a process

-- The labels of a process are numbered in the order of the text, and no two of them have one name.
pub record HasLabels (symbols : SymbolTable) (number : ℕ) (row : ProcessRow) : Type 0 where
  pub numbers : names_of symbols.labels (scope.Process (record { 0 = number }))
      ≡ numbered 0 (process_labels row.definition)
  pub different : AreDifferent (process_labels row.definition)

abbrev pub LabelsGiven : Type 0
LabelsGiven = (tree : Tree) (symbols : SymbolTable) (constants : List Constant) → IsFaultless tree symbols constants →
    (number : ℕ) (row : ProcessRow) → slice_get (rows_of_tree tree).processes number ≡ Some row →
    HasLabels symbols number row

-- names of states, numbered from this number on
abbrev pub numbered_states : ℕ → List Spot → List (List ℕ × StateId)
numbered_states number [] = []
numbered_states number (name ∷ names) = (name.text, record { 0 = number }) ∷ numbered_states (number + 1) names

-- The states of a process are numbered in the order of their first names.
abbrev pub StatesGiven : Type 0
StatesGiven = (tree : Tree) (symbols : SymbolTable) (constants : List Constant) → IsFaultless tree symbols constants →
    (number : ℕ) (row : ProcessRow) → slice_get (rows_of_tree tree).processes number ≡ Some row →
    names_of symbols.states (scope.Process (record { 0 = number }))
    ≡ numbered_states 0 (different (state_names row.definition))
