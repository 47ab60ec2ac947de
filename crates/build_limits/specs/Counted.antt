-- Words that are counted against a limit.
use Rattle.std.specs.Prelude.{◌≡◌, ℕ, zero, suc, List, Option, None, Some, fold}
use Rattle.sdl_tree.specs.Words.{Spot}
use Rattle.build_names.specs.Faults.{token_word}
use Rattle.build_limits.specs.declared.limits.count.Count.{Count}
use Rattle.build_limits.specs.declared.limits.count.Count.TheVariants as count

-- so many more words may come, or the first past the limit
pub data Counted : Type 0 where
  Left : (left : ℕ) → Counted
  Past : (word : Spot) → Counted

abbrev pub count_of : Count → Counted
count_of (count.Left left) = Left left
count_of (count.Past token) = Past (token_word token)

abbrev pub count_one : Counted → Spot → Counted
count_one (Left zero) word = Past word
count_one (Left (suc left)) word = Left left
count_one (Past first) word = Past first

-- once these words are counted
abbrev pub counted : Counted → List Spot → Counted
counted before words = fold count_one before words

-- the first word past the limit
abbrev pub past_limit : Counted → Option Spot
past_limit (Left left) = None
past_limit (Past word) = Some word

-- these words were counted in between
abbrev pub Counts : Count → Count → List Spot → Type 0
Counts old new words = count_of new ≡ counted (count_of old) words
