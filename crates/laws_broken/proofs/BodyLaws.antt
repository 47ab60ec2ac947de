-- The faults of the states and transitions of a process are the rules that are broken in them.
use Rattle.std.proofs.Common.{◌++◌, ℕ, List}
use Rattle.build_process.specs.Bodies.{bodies_faults, statement_faults}
use Rattle.laws_broken.specs.Bodies as broken
use Rattle.laws_broken.specs.Bodies.{BrokenBody, BrokenListed, ListedBroken}
use Rattle.build_flow.proofs.EndlessLaws.{endless-listed, listed-endless}
use Rattle.build_flow.proofs.StayLaws.{listed-stays, stays-listed}
use Rattle.build_flow.specs.Beginnings.{beginnings}
use Rattle.build_flow.specs.Broken.{IsEndless, IsStay}
use Rattle.build_flow.specs.Ends.{ends_faults}
use Rattle.build_flow.specs.Reach.{AreReached}
use Rattle.build_flow.specs.Stays.{stay_faults}
use Rattle.build_statements.proofs.BrokenLaws as node_laws
use Rattle.build_statements.proofs.ListedLaws as node_listed
use Rattle.build_statements.specs.Broken as transitions
use Rattle.build_process.specs.Faulty.{body_faults}
use Rattle.build_process.specs.ProcessScope.{ProcessScope, for_stimuli, for_transitions}
use Rattle.build_names.proofs.FaultLemmas.{each-both, each-of, in-each, in-left, in-right}
use Rattle.build_names.specs.FaultLaws.{Each, In}
use Rattle.build_names.specs.Faults.{Diagnostic}
use Rattle.build_expressions.proofs.ListedLaws.{each-weaker}
use Rattle.build_states.proofs.BrokenLaws as state_laws
use Rattle.build_states.specs.Broken as states
use Rattle.build_states.specs.States.{states_faults}
use Rattle.build_states.proofs.StimuliBrokenLaws as stimulus_laws
use Rattle.build_states.specs.StimuliBroken as stimuli
use Rattle.build_states.specs.Reading as reading
use Rattle.sdl_tree.specs.Tree.{ProcessDefinition}

module _ (around : ProcessScope) (process : ProcessDefinition) (names : List (List ℕ))
    (are : AreReached (beginnings process) names) where
  abbrev Breaks : Diagnostic → Type 0
  Breaks fault = BrokenBody around process fault

  abbrev of_stimuli : List Diagnostic
  of_stimuli = reading.body_faults (for_stimuli around) process.body

  abbrev of_states : List Diagnostic
  of_states = states_faults (for_stimuli around) process.body

  abbrev of_transitions : List Diagnostic
  of_transitions = bodies_faults (for_transitions around) process

  abbrev of_ends : List Diagnostic
  of_ends = ends_faults process

  abbrev of_stays : List Diagnostic
  of_stays = stay_faults (beginnings process) names

  -- ---- each fault is broken

  each-transition : Each Breaks of_transitions
  each-transition =
      each-of Breaks (statement_faults (for_transitions around)) (beginnings process) (λ beginning among.
      each-weaker (transitions.IsBroken (for_transitions around) beginning.transition) Breaks
      (statement_faults (for_transitions around) beginning)
      (λ fault breaks. broken.transition beginning among fault breaks)
      (node_listed.listed-broken (for_transitions around) beginning.transition))

  each-end : Each Breaks (of_ends ++ of_stays)
  each-end =
      each-both Breaks of_ends of_stays
      (each-weaker (IsEndless process) Breaks of_ends (λ fault breaks. broken.endless fault breaks)
      (listed-endless process))
      (each-weaker (IsStay process) Breaks of_stays (λ fault breaks. broken.stay fault breaks)
      (listed-stays process names are))

  each-state : Each Breaks (of_stimuli ++ of_states)
  each-state =
      each-both Breaks of_stimuli of_states
      (each-weaker (stimuli.IsBroken (for_stimuli around) process.body) Breaks of_stimuli
      (λ fault breaks. broken.stimulus fault breaks) (stimulus_laws.listed-broken (for_stimuli around) process.body))
      (each-weaker (states.IsBroken (for_stimuli around) process.body) Breaks of_states
      (λ fault breaks. broken.state fault breaks) (state_laws.listed-broken (for_stimuli around) process.body))

  each-fault : Each Breaks (body_faults around process names)
  each-fault =
      each-both Breaks (of_stimuli ++ of_states) (of_transitions ++ (of_ends ++ of_stays)) each-state
      (each-both Breaks of_transitions (of_ends ++ of_stays) each-transition each-end)

  -- ---- each that is broken is listed

  in-states : (fault : Diagnostic) → In fault (of_stimuli ++ of_states) → In fault (body_faults around process names)
  in-states fault at = in-left fault (of_stimuli ++ of_states) (of_transitions ++ (of_ends ++ of_stays)) at

  in-flow : (fault : Diagnostic) → In fault (of_transitions ++ (of_ends ++ of_stays)) →
      In fault (body_faults around process names)
  in-flow fault at = in-right fault (of_stimuli ++ of_states) (of_transitions ++ (of_ends ++ of_stays)) at

  in-body : (fault : Diagnostic) → BrokenBody around process fault → In fault (body_faults around process names)
  in-body fault (broken.stimulus told breaks) =
      in-states told
      (in-left told of_stimuli of_states (stimulus_laws.broken-listed (for_stimuli around) process.body told breaks))
  in-body fault (broken.state told breaks) =
      in-states told
      (in-right told of_stimuli of_states (state_laws.broken-listed (for_stimuli around) process.body told breaks))
  in-body fault (broken.transition beginning among told breaks) =
      in-flow told (in-left told of_transitions (of_ends ++ of_stays)
      (in-each told (statement_faults (for_transitions around)) (beginnings process) beginning among
      (node_laws.broken-listed (for_transitions around) beginning.transition told breaks)))
  in-body fault (broken.endless told breaks) =
      in-flow told (in-right told of_transitions (of_ends ++ of_stays)
      (in-left told of_ends of_stays (endless-listed process told breaks)))
  in-body fault (broken.stay told breaks) =
      in-flow told (in-right told of_transitions (of_ends ++ of_stays)
      (in-right told of_ends of_stays (stays-listed process names are told breaks)))

pub listed-broken : ListedBroken
listed-broken around process names are = each-fault around process names are

pub broken-listed : BrokenListed
broken-listed around process names are fault breaks = in-body around process names are fault breaks
