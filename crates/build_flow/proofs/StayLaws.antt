-- NoState is listed at each `nextstate -` that the start reaches, and nowhere else.
use Rattle.std.proofs.Common.{ℕ, inl, List, refl}
use Rattle.build_names.proofs.FaultLemmas.{each-of, in-each}
use Rattle.build_names.specs.FaultLaws.{Each, In}
use Rattle.build_names.specs.Faults.{Diagnostic}
use Rattle.sdl_tree.specs.Tree.{Join, Next, ProcessDefinition, Same, Stop, Terminator, To}
use Rattle.build_flow.specs.Beginnings.{beginnings}
use Rattle.build_flow.specs.Broken.{IsStay}
use Rattle.build_flow.specs.Reach.{AreReached, StartReaches, met_from}
use Rattle.build_flow.specs.Stays.{stay_fault, stay_faults}
use Rattle.build_flow.proofs.ReachLaws.{met-reached, reached-listed}

each-stay : (process : ProcessDefinition) (terminator : Terminator) → StartReaches (beginnings process) terminator →
    Each (IsStay process) (stay_fault terminator)
each-stay process (Next word (Same dash)) is = (record { word = word; dash = dash; reached = is; told_is = refl }, tt)
each-stay process (Next word (To state)) is = tt
each-stay process (Stop word) is = tt
each-stay process (Join word label) is = tt

pub listed-stays : (process : ProcessDefinition) (names : List (List ℕ)) → AreReached (beginnings process) names →
    Each (IsStay process) (stay_faults (beginnings process) names)
listed-stays process names are =
    each-of (IsStay process) stay_fault (met_from (beginnings process) names)
    (λ terminator at. each-stay process terminator
    (met-reached (beginnings process) names are.each terminator at))

pub stays-listed : (process : ProcessDefinition) (names : List (List ℕ)) → AreReached (beginnings process) names →
    (fault : Diagnostic) → IsStay process fault → In fault (stay_faults (beginnings process) names)
stays-listed process names are fault is =
    in-each fault stay_fault (met_from (beginnings process) names) (Next is.word (Same is.dash))
    (reached-listed (beginnings process) names are (Next is.word (Same is.dash)) is.reached)
    (inl is.told_is)
