-- When a rule on the ends of transitions is broken: said of paths, and not of lists.
use Rattle.std.specs.Prelude.{◌≡◌}
use Rattle.build_names.specs.FaultLaws.{In}
use Rattle.build_names.specs.Faults.{Diagnostic, diagnostic_at, mark_word}
use Rattle.build_names.specs.declared.faults.fault.Rule.TheVariants.{NoEnd, NoState}
use Rattle.sdl_tree.specs.Tree.{Next, ProcessDefinition, Same}
use Rattle.sdl_tree.specs.Words.{Spot}
use Rattle.sdl_tree.specs.declared.mark.Mark.TheVariants as mark
use Rattle.sdl_tree.specs.declared.name.Spelling.{Spelling}
use Rattle.build_flow.specs.Beginnings.{Beginning, beginnings}
use Rattle.build_flow.specs.Mentions.{Joined, process_mentions}
use Rattle.build_flow.specs.Paths.{AtFirst, AtLabel, Origin, RunsOff}
use Rattle.build_flow.specs.Reach.{StartReaches}

-- a path through a transition of the process begins there: at its first statement, or at a label that a join of the
-- process names
pub data Begins (process : ProcessDefinition) : Origin → Type 0 where
  at_first : Begins process AtFirst
  joined :
      (label name : Spot) → In (Joined name) (process_mentions process) → name.text ≡ label.text
      → Begins process (AtLabel label)

-- NoEnd: a path through the transition of a start, a stimulus or a connection runs off its end
pub record IsEndless (process : ProcessDefinition) (fault : Diagnostic) : Type 0 where
  pub beginning : Beginning
  pub of_process : In beginning (beginnings process)
  pub from : Origin
  pub begins : Begins process from
  pub runs_off : RunsOff from beginning.transition
  pub told_is : fault ≡ diagnostic_at NoEnd beginning.word

-- NoState: the start can reach a `nextstate -`
pub record IsStay (process : ProcessDefinition) (fault : Diagnostic) : Type 0 where
  pub word : Spelling
  pub dash : Spelling
  pub reached : StartReaches (beginnings process) (Next word (Same dash))
  pub told_is : fault ≡ diagnostic_at NoState (mark_word mark.Minus dash)
