-- Which synonyms an expression names, which one rests on, and when a rule is broken in their definitions: said of the
-- parts of the expressions, and not of lists.
use Rattle.std.specs.Prelude.{◌≡◌, ℕ, List, Option, Some, slice_get}
use Rattle.build_names.specs.FaultLaws.{In}
use Rattle.build_names.specs.Faults.{Diagnostic}
use Rattle.build_names.specs.Names.{first_of}
use Rattle.build_expressions.specs.Broken.{IsBrokenConstant, Within}
use Rattle.build_expressions.specs.Scope.{visible}
use Rattle.build_expressions.specs.declared.scope.Constant.{Constant}
use Rattle.build_expressions.specs.declared.scope.SynonymId.{SynonymId}
use Rattle.build_expressions.specs.declared.scope.ValueEntry.{ValueEntry}
use Rattle.build_expressions.specs.declared.scope.ValueEntry.TheVariants as entry
use Rattle.build_constants.specs.SettledSynonyms.{scope_with}
use Rattle.build_constants.specs.declared.synonyms.synonym.Synonym.{Synonym}
use Rattle.sdl_system.specs.declared.sort.Sort.{Sort}
use Rattle.sdl_tree.specs.Tree.{Expr, Named}
use Rattle.sdl_tree.specs.Views.{expr_value}
use Rattle.sdl_tree.specs.Words.{Spot}

-- the name stands for the synonym of this number
pub record StandsFor (values : List (List ℕ × ValueEntry)) (name : Spot) (number : ℕ) : Type 0 where
  pub synonym : SynonymId
  pub sort : Option Sort
  pub meant : first_of values name.text ≡ Some (entry.Synonym synonym sort)
  pub numbered : synonym.0 ≡ number

-- a name within the expression does
pub record Names (values : List (List ℕ × ValueEntry)) (whole : Expr) (number : ℕ) : Type 0 where
  pub name : Spot
  pub within : Within (Named name) whole
  pub stands_for : StandsFor values name number

-- a synonym names the other, or one that leads to it
pub data LeadsTo (synonyms : List Synonym) (other : ℕ) : ℕ → Type 0 where
  names :
      (number : ℕ) (synonym : Synonym) → slice_get synonyms number ≡ Some synonym
      → Names (visible synonym.values) (expr_value synonym.expression.now) other → LeadsTo synonyms other number
  by :
      (number : ℕ) (synonym : Synonym) (next : ℕ) → slice_get synonyms number ≡ Some synonym
      → Names (visible synonym.values) (expr_value synonym.expression.now) next → LeadsTo synonyms other next
      → LeadsTo synonyms other number

-- a rule is broken in the definition of one of them, where the synonyms come to the constants of the table
pub record IsBrokenSynonym (synonyms : List Synonym) (table : List Constant) (fault : Diagnostic) : Type 0 where
  pub synonym : Synonym
  pub listed : In synonym synonyms
  pub broken :
      IsBrokenConstant (scope_with table synonym) synonym.sort (expr_value synonym.expression.now) fault
