-- What is known of the synonyms while they are settled one after the other.
use Rattle.std.specs.Prelude.{◌≡◌, ◌&&◌, ℕ, ◌+◌, ◌<◌, Bool, true, false, List, [], ◌∷◌, Some, length, slice_get, slice_index_or}
use Rattle.build_expressions.specs.declared.scope.Constant.{Constant}
use Rattle.build_expressions.specs.declared.scope.Constant.TheVariants.{NoValue}
use Rattle.build_constants.specs.SettledSynonyms.{Settles, constant_of, constant_with, named_by}
use Rattle.build_constants.specs.declared.synonyms.synonym.Synonym.{Synonym}

-- whether the synonym of this number is settled
abbrev pub is_settled_at : List Bool → ℕ → Bool
is_settled_at settled number = slice_index_or settled number false

abbrev pub are_settled : List Bool → List ℕ → Bool
are_settled settled [] = true
are_settled settled (number ∷ numbers) = is_settled_at settled number && are_settled settled numbers

-- how many aren't
abbrev pub count_open : List Bool → ℕ
count_open [] = 0
count_open (true ∷ rest) = count_open rest
count_open (false ∷ rest) = count_open rest + 1

-- What is settled stands: it rests on what is settled, and comes to what its expression does. All others have no value yet.
pub record IsKnown (synonyms : List Synonym) (table : List Constant) (settled : List Bool) : Type 0 where
  pub all : length table ≡ length synonyms
  pub each : length settled ≡ length synonyms
  pub open_ones : (number : ℕ) → is_settled_at settled number ≡ false → constant_of table number ≡ NoValue
  pub rests :
      (number : ℕ) (synonym : Synonym) → slice_get synonyms number ≡ Some synonym → is_settled_at settled number ≡ true
      → are_settled settled (named_by synonym) ≡ true
  pub comes_to :
      (number : ℕ) (synonym : Synonym) → slice_get synonyms number ≡ Some synonym → is_settled_at settled number ≡ true
      → constant_of table number ≡ constant_with table synonym
  pub sound : (number : ℕ) → is_settled_at settled number ≡ true → Settles synonyms number

-- Each of the first so many that isn't settled names one that isn't.
abbrev pub AreStuck : List Synonym → List Bool → ℕ → Type 0
AreStuck synonyms settled count = (number : ℕ) (synonym : Synonym) → slice_get synonyms number ≡ Some synonym →
    is_settled_at settled number ≡ false → number < count → are_settled settled (named_by synonym) ≡ false
