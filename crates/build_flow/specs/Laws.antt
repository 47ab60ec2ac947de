-- What holds of paths and of what is noted.
use Rattle.std.specs.Prelude.{◌≡◌, ℕ, Bool, true, List}
use Rattle.build_names.specs.FaultLaws.{Each, In}
use Rattle.build_names.specs.Faults.{Diagnostic}
use Rattle.sdl_tree.specs.Tree.{ProcessDefinition, Terminator, Transition}
use Rattle.sdl_tree.specs.Words.{Spot}
use Rattle.build_flow.specs.Beginnings.{Beginning, beginnings}
use Rattle.build_flow.specs.Broken.{IsEndless, IsStay}
use Rattle.build_flow.specs.Ends.{ends_faults}
use Rattle.build_flow.specs.Met.{transition_met}
use Rattle.build_flow.specs.Passing.{transition_passed}
use Rattle.build_flow.specs.Paths.{ComesTo, Origin, AtFirst, AtLabel, RunsOff}
use Rattle.build_flow.specs.Reach.{AreReached, StartReaches, met_from}
use Rattle.build_flow.specs.Stays.{stay_faults}

-- whether paths begin there, where `enters` says which labels are entered, and `comes` whether one comes to the first
-- statement
abbrev pub begins : (Spot → Bool) → Bool → Origin → Bool
begins enters comes AtFirst = comes
begins enters comes (AtLabel label) = enters label

-- Where it is said that a path runs off the end, one does from a place where paths begin.
abbrev pub PassedRuns : Type 0
PassedRuns = (enters : Spot → Bool) (t : Transition) (comes : Bool) → transition_passed enters t comes ≡ true →
    (from : Origin) × (begins enters comes from ≡ true) × RunsOff from t

-- And where one does, it is said.
abbrev pub RunsPassed : Type 0
RunsPassed = (enters : Spot → Bool) (t : Transition) (comes : Bool) (from : Origin) → begins enters comes from ≡ true →
    RunsOff from t → transition_passed enters t comes ≡ true

-- Each terminator of the list is one to which a path comes, and each such terminator is in the list.
abbrev pub MetComes : Type 0
MetComes = (enters : Spot → Bool) (terminator : Terminator) (t : Transition) (comes : Bool) →
    In terminator (transition_met enters t comes) →
    (from : Origin) × (begins enters comes from ≡ true) × ComesTo terminator from t

abbrev pub ComesMet : Type 0
ComesMet = (enters : Spot → Bool) (terminator : Terminator) (t : Transition) (comes : Bool) (from : Origin) →
    begins enters comes from ≡ true → ComesTo terminator from t → In terminator (transition_met enters t comes)

-- Each fault of the list is a transition without an end, and each such transition is in the list.
abbrev pub ListedEndless : Type 0
ListedEndless = (process : ProcessDefinition) → Each (IsEndless process) (ends_faults process)

abbrev pub EndlessListed : Type 0
EndlessListed = (process : ProcessDefinition) (fault : Diagnostic) → IsEndless process fault →
    In fault (ends_faults process)

-- Where the names are those of the joins that the start reaches, it reaches each terminator that is met, and no other.
abbrev pub MetReached : Type 0
MetReached = (all : List Beginning) (names : List (List ℕ)) → AreReached all names → (terminator : Terminator) →
    In terminator (met_from all names) → StartReaches all terminator

abbrev pub ReachedMet : Type 0
ReachedMet = (all : List Beginning) (names : List (List ℕ)) → AreReached all names → (terminator : Terminator) →
    StartReaches all terminator → In terminator (met_from all names)

-- Each fault of the list stands at a `nextstate -` that the start reaches, and each such one is in the list.
abbrev pub ListedStays : Type 0
ListedStays = (process : ProcessDefinition) (names : List (List ℕ)) → AreReached (beginnings process) names →
    Each (IsStay process) (stay_faults (beginnings process) names)

abbrev pub StaysListed : Type 0
StaysListed = (process : ProcessDefinition) (names : List (List ℕ)) → AreReached (beginnings process) names →
    (fault : Diagnostic) → IsStay process fault → In fault (stay_faults (beginnings process) names)
