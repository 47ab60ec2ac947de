-- `nextstate -` that the start can reach: there is no state to stay in (Z.101: nextstate).
use Rattle.std.specs.Prelude.{ℕ, List, [], ◌∷◌, Option, flat_map}
use Rattle.build_names.specs.Faults.{Diagnostic, diagnostic_at, mark_word, Notes}
use Rattle.build_names.specs.declared.faults.fault.Rule.TheVariants.{NoState}
use Rattle.sdl_tree.specs.Tree.{Join, Next, Stop, Terminator, NextState, Same, To, ProcessDefinition}
use Rattle.sdl_tree.specs.declared.mark.Mark.TheVariants as mark
use Rattle.build_flow.specs.Beginnings.{Beginning, beginnings}
use Rattle.build_flow.specs.Reach.{AreReached, met_from}

-- NoState at the `-`
abbrev pub next_fault : NextState → List Diagnostic
next_fault (Same dash) = diagnostic_at NoState (mark_word mark.Minus dash) ∷ []
next_fault (To state) = []

abbrev pub stay_fault : Terminator → List Diagnostic
stay_fault (Next word state) = next_fault state
stay_fault (Stop word) = []
stay_fault (Join word label) = []

-- each such fault where the joins that the start reaches have these names, in the order of the text
abbrev pub stay_faults : List Beginning → List (List ℕ) → List Diagnostic
stay_faults all names = flat_map stay_fault (met_from all names)

-- each such fault of the process is noted in between
pub record NotesStays (process : ProcessDefinition) (old new : Option Diagnostic) : Type 0 where
  pub names : List (List ℕ)
  pub are_reached : AreReached (beginnings process) names
  pub noted : Notes old new (stay_faults (beginnings process) names)
