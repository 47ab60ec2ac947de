-- Names of joins that are found one after the other.
use Rattle.std.specs.Prelude.{◌≡◌, ◌++◌, ◌||◌, ℕ, ◌+◌, Bool, true, false, not, List, [], ◌∷◌, flat_map, fold, if◌then◌else◌}
use Rattle.sdl_tree.specs.Tree.{Join, Next, Stop, Terminator}
use Rattle.build_flow.specs.Beginnings.{Beginning}
use Rattle.build_flow.specs.Mentions.{beginning_mentions, is_named, join_names}
use Rattle.build_flow.specs.Reach.{AreReached, met_from}

-- the names in the joins of a process with these beginnings
abbrev pub joins_in : List Beginning → List (List ℕ)
joins_in all = flat_map join_names (flat_map beginning_mentions all)

abbrev pub with_name : List (List ℕ) → List ℕ → List (List ℕ)
with_name names text = if is_named names text then names else names ++ text ∷ []

-- these names, and that of the join, if it is new
abbrev pub with_join : List (List ℕ) → Terminator → List (List ℕ)
with_join names (Next word state) = names
with_join names (Stop word) = names
with_join names (Join word label) = with_name names label.text

abbrev pub with_joins : List (List ℕ) → List Terminator → List (List ℕ)
with_joins names terminators = fold with_join names terminators

-- whether it is a join on another name
abbrev pub is_new : List (List ℕ) → Terminator → Bool
is_new names (Next word state) = false
is_new names (Stop word) = false
is_new names (Join word label) = not (is_named names label.text)

-- whether any of them is, where each adds its name
abbrev pub any_new : List (List ℕ) → List Terminator → Bool
any_new names [] = false
any_new names (one ∷ rest) = is_new names one || any_new (with_join names one) rest

abbrev pub one_if : Bool → ℕ
one_if true = 0
one_if false = 1

-- how many of these joins have none of the names
abbrev pub count_open : List (List ℕ) → List (List ℕ) → ℕ
count_open [] names = 0
count_open (join ∷ rest) names = count_open rest names + one_if (is_named names join)

-- the terminators are those to which paths from the start come, over any joins
pub record AreAllMet (all : List Beginning) (terminators : List Terminator) : Type 0 where
  pub names : List (List ℕ)
  pub are_reached : AreReached all names
  pub met : terminators ≡ met_from all names
