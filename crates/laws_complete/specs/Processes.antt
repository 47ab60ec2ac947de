-- A process in which no rule is broken is there, and what it does is there (Z.101: process).
use Rattle.std.specs.Prelude.{◌≡◌, ℕ, List, []}
use Rattle.build_process.specs.Numbered.{AreNumbered}
use Rattle.laws_complete.specs.Complete.{HasDurations, IsComplete}
use Rattle.laws_complete.specs.Ranges.{AreBelow}
use Rattle.build_process.specs.Faulty.{body_faults}
use Rattle.build_process.specs.Meant.{IsBehaviour}
use Rattle.build_process.specs.Refused.{IsRefused}
use Rattle.build_process.specs.ProcessScope.{ProcessScope, for_stimuli, for_transitions}
use Rattle.build_process.specs.declared.heading.Heading.{Heading}
use Rattle.sdl_system.specs.Behaviour.{Behaviour}
use Rattle.sdl_tree.specs.Tree.{ProcessDefinition}

-- No rule is broken in the states and transitions of the process, no name around it lacks anything, and its labels are
-- numbered. `names` are those of the joins that its start reaches.
pub record IsGiven (around : ProcessScope) (process : ProcessDefinition) (names : List (List ℕ)) : Type 0 where
  pub complete : IsComplete around.scope
  pub durations : HasDurations (for_transitions around)
  pub labels : AreNumbered (for_transitions around) process
  pub no_fault : body_faults around process names ≡ []

-- Then its text isn't refused.
abbrev pub ProcessGiven : Type 0
ProcessGiven = (around : ProcessScope) (process : ProcessDefinition) (names : List (List ℕ)) →
    IsGiven around process names → IsRefused around process → ⊥

-- And where names stand for signals of the system alone, there is something that it does, whatever its heading.
abbrev pub BehaviourGiven : Type 0
BehaviourGiven = (around : ProcessScope) (process : ProcessDefinition) (names : List (List ℕ)) (heading : Heading) →
    IsGiven around process names → AreBelow around.signals (for_stimuli around) →
    (behaviour : Behaviour) × IsBehaviour around process heading behaviour
