-- When a scope declares a name twice, and at which word: said of the names, and not of what is noted.
use Rattle.std.specs.Prelude.{◌≡◌, ◌++◌, List, ◌∷◌}
use Rattle.build_definitions.specs.Definitions.{Rows}
use Rattle.build_definitions.specs.Entries.{Standing, standings}
use Rattle.build_definitions.specs.Meanings.{agent_entries, channel_entries, duplicate_faults, label_entries, list_entries, signal_entries, value_entries}
use Rattle.build_names.specs.FaultLaws.{Each, In}
use Rattle.build_names.specs.Faults.{Diagnostic, diagnostic_at}
use Rattle.build_names.specs.declared.faults.fault.Rule.TheVariants.{Duplicate}

-- a name stands in the scope, and is spelled, as one before it
pub record IsDuplicate (names : List Standing) (fault : Diagnostic) : Type 0 where
  pub before : List Standing
  pub name : Standing
  pub after : List Standing
  pub in_names : names ≡ before ++ name ∷ after
  pub first : Standing
  pub stands_before : In first before
  pub same_scope : first.scope ≡ name.scope
  pub same_text : first.name.text ≡ name.name.text
  pub told : fault ≡ diagnostic_at Duplicate name.name

-- so it is in one of the name spaces; a state may be named again
pub data IsDeclaredTwice (rows : Rows) (fault : Diagnostic) : Type 0 where
  signal_or_timer : IsDuplicate (standings (signal_entries rows)) fault → IsDeclaredTwice rows fault
  signal_list : IsDuplicate (standings (list_entries rows)) fault → IsDeclaredTwice rows fault
  channel : IsDuplicate (standings (channel_entries rows)) fault → IsDeclaredTwice rows fault
  block_or_process : IsDuplicate (standings (agent_entries rows)) fault → IsDeclaredTwice rows fault
  variable_or_synonym : IsDuplicate (standings (value_entries rows)) fault → IsDeclaredTwice rows fault
  label : IsDuplicate (standings (label_entries rows)) fault → IsDeclaredTwice rows fault

-- Each fault of the list is a name that its scope declares twice, and each such name is in the list.
abbrev pub ListedBroken : Type 0
ListedBroken = (rows : Rows) → Each (IsDeclaredTwice rows) (duplicate_faults rows)

abbrev pub BrokenListed : Type 0
BrokenListed = (rows : Rows) (fault : Diagnostic) → IsDeclaredTwice rows fault → In fault (duplicate_faults rows)
