-- What the synonyms of a specification come to (Z.104: synonyms). A synonym may be used before the place of its
-- definition; one that is defined by itself, directly or by others, has no value, nor has one that rests on such a one.
use Rattle.std.specs.Prelude.{◌≡◌, ℕ, List, Some, length, slice_get, slice_index_or}
use Rattle.build_names.specs.FaultLaws.{In}
use Rattle.build_names.specs.Faults.{Diagnostic}
use Rattle.build_expressions.specs.Constants.{constant_faults, constant_in}
use Rattle.build_expressions.specs.Scope.{Scope, agent_meaning, meaning, signal_meaning, value_meaning, visible}
use Rattle.build_expressions.specs.declared.scope.Constant.{Constant}
use Rattle.build_expressions.specs.declared.scope.Constant.TheVariants.{NoValue}
use Rattle.build_constants.specs.Named.{named_in}
use Rattle.build_constants.specs.declared.synonyms.synonym.Synonym.{Synonym}
use Rattle.sdl_tree.specs.Views.{expr_value}

-- the names that are seen where a synonym is defined, where the synonyms come to these constants
abbrev pub scope_with : List Constant → Synonym → Scope
scope_with table synonym = record {
  values = meaning (value_meaning table) (visible synonym.values);
  signals = meaning signal_meaning (visible synonym.signals);
  agents = meaning agent_meaning (visible synonym.agents);
}

-- what its expression comes to then, and the rules that are broken in it
abbrev pub constant_with : List Constant → Synonym → Constant
constant_with table synonym = constant_in (scope_with table synonym) synonym.sort (expr_value synonym.expression.now)

abbrev pub synonym_faults : List Constant → Synonym → List Diagnostic
synonym_faults table synonym = constant_faults (scope_with table synonym) synonym.sort
    (expr_value synonym.expression.now)

-- the synonyms that it names, by their numbers
abbrev pub named_by : Synonym → List ℕ
named_by synonym = named_in (visible synonym.values) (expr_value synonym.expression.now)

-- A synonym settles where each that it names does: those with no synonym in them, those that name none but such ones,
-- and so on.
pub data Settles (synonyms : List Synonym) : ℕ → Type 0 where
  settles :
      (number : ℕ) (synonym : Synonym) → slice_get synonyms number ≡ Some synonym
      → ((other : ℕ) → In other (named_by synonym) → Settles synonyms other) → Settles synonyms number

-- what the synonym of this number comes to by the table
abbrev pub constant_of : List Constant → ℕ → Constant
constant_of table number = slice_index_or table number NoValue

-- The table has what the synonyms come to: one that settles what its expression comes to, the others no value.
pub record AreConstants (synonyms : List Synonym) (table : List Constant) : Type 0 where
  pub all : length table ≡ length synonyms
  pub settled :
      (number : ℕ) (synonym : Synonym) → slice_get synonyms number ≡ Some synonym → Settles synonyms number
      → constant_of table number ≡ constant_with table synonym
  pub unsettled : (number : ℕ) → (Settles synonyms number → ⊥) → constant_of table number ≡ NoValue
