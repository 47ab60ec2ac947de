-- When a rule is broken in the states and transitions of a process, and at which word: said of the text and of what
-- names stand for around it, and not of what is noted.
use Rattle.std.specs.Prelude.{ℕ, List}
use Rattle.build_flow.specs.Beginnings.{Beginning, beginnings}
use Rattle.build_flow.specs.Broken.{IsEndless, IsStay}
use Rattle.build_flow.specs.Reach.{AreReached}
use Rattle.build_statements.specs.Broken as transitions
use Rattle.build_process.specs.Faulty.{body_faults}
use Rattle.build_process.specs.ProcessScope.{ProcessScope, for_stimuli, for_transitions}
use Rattle.build_names.specs.FaultLaws.{Each, In}
use Rattle.build_names.specs.Faults.{Diagnostic}
use Rattle.build_states.specs.Broken as states
use Rattle.build_states.specs.StimuliBroken as stimuli
use Rattle.sdl_tree.specs.Tree.{ProcessDefinition}

-- a rule is broken in the states and transitions of this process
pub data BrokenBody (around : ProcessScope) (process : ProcessDefinition) : Diagnostic → Type 0 where
  -- in a stimulus of a state: an input, a save, a condition
  stimulus :
      (fault : Diagnostic) → stimuli.IsBroken (for_stimuli around) process.body fault → BrokenBody around process fault
  -- in what its states say: something is mentioned twice, or an asterisk leaves out what is no state
  state :
      (fault : Diagnostic) → states.IsBroken (for_stimuli around) process.body fault → BrokenBody around process fault
  -- in a statement of the transition of its start, of a stimulus or of a connection
  transition :
      (beginning : Beginning) → In beginning (beginnings process) → (fault : Diagnostic)
      → transitions.IsBroken (for_transitions around) beginning.transition fault → BrokenBody around process fault
  -- a path through a transition runs off its end
  endless : (fault : Diagnostic) → IsEndless process fault → BrokenBody around process fault
  -- the start can reach a `nextstate -`
  stay : (fault : Diagnostic) → IsStay process fault → BrokenBody around process fault

-- ---- laws, where the joins that the start reaches have these names

-- Each fault of the list is broken.
abbrev pub ListedBroken : Type 0
ListedBroken = (around : ProcessScope) (process : ProcessDefinition) (names : List (List ℕ)) →
    AreReached (beginnings process) names → Each (BrokenBody around process) (body_faults around process names)

-- Each rule that is broken is in the list.
abbrev pub BrokenListed : Type 0
BrokenListed = (around : ProcessScope) (process : ProcessDefinition) (names : List (List ℕ)) →
    AreReached (beginnings process) names → (fault : Diagnostic) → BrokenBody around process fault →
    In fault (body_faults around process names)
