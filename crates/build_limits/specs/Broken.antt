-- When a limit is passed, and at which word: said of the parts of a specification, and not of what is noted.
use Rattle.std.specs.Prelude.{◌≡◌, ◌++◌, ℕ, false, List, ◌∷◌, length}
use Rattle.std.specs.List.{list_any}
use Rattle.sdl_tree.specs.Tree.{ProcessDefinition, Tree}
use Rattle.sdl_tree.specs.Words.{Spot}
use Rattle.build_names.specs.declared.faults.fault.Rule.TheVariants.{Limit}
use Rattle.build_names.specs.Faults.{Diagnostic, diagnostic_word}
use Rattle.build_names.specs.FaultLaws.{Each, In}
use Rattle.build_limits.specs.Limits.{Declared, declared_in, limit_faults, parameter_names, processes_in, statements_in}
use Rattle.build_names.specs.States.{different, is_same_text, state_names}

-- the word stands in the list behind so many others
pub record StandsBehind (most : ℕ) (words : List Spot) (word : Spot) : Type 0 where
  pub before : List Spot
  pub after : List Spot
  pub in_words : words ≡ before ++ word ∷ after
  pub count : length before ≡ most

-- the text of the word is new in the list, and so many different ones stand before it
pub record IsNewBehind (most : ℕ) (words : List Spot) (word : Spot) : Type 0 where
  pub before : List Spot
  pub after : List Spot
  pub in_words : words ≡ before ++ word ∷ after
  pub is_new : list_any (is_same_text word) (different before) ≡ false
  pub count : length (different before) ≡ most

-- so it is of a process of the specification, with the processes that stand before it in the text
pub record AtProcess (P : List ProcessDefinition → ProcessDefinition → Spot → Type 0) (tree : Tree) (word : Spot) :
    Type 0 where
  pub before : List ProcessDefinition
  pub process : ProcessDefinition
  pub after : List ProcessDefinition
  pub in_tree : processes_in tree ≡ before ++ process ∷ after
  pub broken : P before process word

-- so it is of a signal or a timer of the specification, with those that stand before it in the text
pub record AtDeclared (P : List Declared → Declared → Spot → Type 0) (tree : Tree) (word : Spot) : Type 0 where
  pub before : List Declared
  pub declared : Declared
  pub after : List Declared
  pub in_tree : declared_in tree ≡ before ++ declared ∷ after
  pub broken : P before declared word

-- a limit is passed, and this is the first word past it
pub data PassesLimit (tree : Tree) (word : Spot) : Type 0 where
  -- a process behind 200 others
  processes :
      AtProcess (λ before process name. (length before ≡ 200) × (name ≡ process.name)) tree word
      → PassesLimit tree word
  -- a signal or a timer behind 1,000 others
  declared :
      AtDeclared (λ before declared name. (length before ≡ 1000) × (name ≡ declared.name)) tree word
      → PassesLimit tree word
  -- a statement behind 50,000 others
  statements : StandsBehind 50000 (statements_in tree) word → PassesLimit tree word
  -- the sort of a parameter of a signal or a timer behind 16 others
  sorts : AtDeclared (λ before declared sort. StandsBehind 16 declared.sorts sort) tree word → PassesLimit tree word
  -- a formal parameter of a process behind 16 others
  parameters :
      AtProcess (λ before process name. StandsBehind 16 (parameter_names process.parameters) name) tree word
      → PassesLimit tree word
  -- a state of a process behind 1,000 different ones, where it is first named
  states :
      AtProcess (λ before process name. IsNewBehind 1000 (state_names process) name) tree word → PassesLimit tree word

-- the fault is a limit that is passed
pub record IsLimit (tree : Tree) (fault : Diagnostic) : Type 0 where
  pub rule : fault.rule ≡ Limit
  pub passed : PassesLimit tree (diagnostic_word fault)

-- Each limit of the list is passed.
abbrev pub ListedBroken : Type 0
ListedBroken = (tree : Tree) → Each (IsLimit tree) (limit_faults tree)

-- Each limit that is passed is in the list.
abbrev pub BrokenListed : Type 0
BrokenListed = (tree : Tree) (fault : Diagnostic) → IsLimit tree fault → In fault (limit_faults tree)
