-- A process in which no rule is broken isn't refused, and does what its text says.
use Rattle.std.proofs.Common.{◌≡◌, ◌++◌, ℕ, Contains, List, [], None, Some, length, map, refl}
use Rattle.build_process.specs.Bodies.{bodies_faults, bodies_of}
use Rattle.laws_complete.proofs.ConditionLemmas.{conditions-given, none-missing}
use Rattle.laws_complete.proofs.ExpressionLemmas.{empty-left, empty-right}
use Rattle.laws_complete.proofs.MeaningLemmas.{states-given}
use Rattle.laws_complete.proofs.RangeLemmas.{anything, each-anything, entries-reach, signals-within}
use Rattle.laws_complete.proofs.ReadLemmas.{process-table}
use Rattle.laws_complete.proofs.TransitionLemmas.{bodies-given}
use Rattle.laws_complete.specs.Processes.{BehaviourGiven, IsGiven, ProcessGiven}
use Rattle.build_flow.specs.Beginnings.{beginnings}
use Rattle.build_flow.specs.Ends.{ends_faults}
use Rattle.build_flow.specs.Stays.{stay_faults}
use Rattle.build_process.specs.Faulty.{flow_faults}
use Rattle.build_process.specs.Refused.{no_condition, no_entry, no_flow}
use Rattle.build_process.specs.ProcessScope.{ProcessScope, for_stimuli, for_transitions}
use Rattle.build_names.specs.Faults.{Diagnostic}
use Rattle.build_names.specs.States.{different}
use Rattle.build_states.specs.States.{names_in, process_faults, states_faults}
use Rattle.build_states.specs.Reading.{body_faults, process_read}
use Rattle.sdl_system.specs.Behaviour.{variable_meaning}
use Rattle.sdl_system.specs.Body.{Body}
use Rattle.sdl_system.specs.Signal.{is_member}
use Rattle.sdl_tree.specs.Tree.{ProcessDefinition}

module _ (around : ProcessScope) (process : ProcessDefinition) (names : List (List ℕ))
    (given : IsGiven around process names) where
  abbrev ends : List Diagnostic
  ends = ends_faults process ++ stay_faults (beginnings process) names

  no-flow-fault : flow_faults around process names ≡ []
  no-flow-fault =
      empty-right (process_faults (for_stimuli around) process) (flow_faults around process names) given.no_fault

  no-end : ends_faults process ≡ []
  no-end =
      empty-left (ends_faults process) (stay_faults (beginnings process) names)
      (empty-right (bodies_faults (for_transitions around) process) ends no-flow-fault)

  bodies-there : (list : List Body) × (bodies_of (for_transitions around) process ≡ map Some list)
  bodies-there =
      bodies-given (for_transitions around) process given.complete given.durations given.labels
      (empty-left (bodies_faults (for_transitions around) process) ends no-flow-fault)

  conditions-there : Contains (process_read (for_stimuli around) process).numbering.conditions None → ⊥
  conditions-there =
      none-missing (process_read (for_stimuli around) process).numbering.conditions
      (conditions-given (for_stimuli around) given.complete process.body
      (empty-left (body_faults (for_stimuli around) process.body) (states_faults (for_stimuli around) process.body)
      (empty-left (process_faults (for_stimuli around) process) (flow_faults around process names) given.no_fault)))

pub process-given : ProcessGiven
process-given around process names given (no_flow isnt) =
    let there = bodies-there around process names given in
    isnt there.0 there.1 (no-end around process names given) given.labels
process-given around process names given (no_condition listed) =
    conditions-there around process names given listed
process-given around process names given (no_entry name entries each lacks) =
    entries-reach (for_stimuli around) process name entries each lacks

pub behaviour-given : BehaviourGiven
behaviour-given around process names heading given below =
    let context = for_stimuli around in
    let there = bodies-there around process names given in
    let states = states-given (process_read context process).numbering.conditions
    (conditions-there around process names given) (length (beginnings process)) anything
    (process_read context process).parts (different (names_in process.body))
    (process-table anything context process (length (beginnings process)) refl (λ text meaning is. tt)
    (λ text list is. each-anything list)) in (
      record {
        variables = map variable_meaning heading.variables.items;
        parameters = heading.parameters;
        is_valid = is_member heading.valid;
        bodies = there.0;
        start = 0;
        states = states.0;
      },
      record {
        variables = refl;
        parameters = refl;
        valid = λ signal. refl;
        bodies = there.1;
        ends = no-end around process names given;
        labels = given.labels;
        start = refl;
        states = states.1;
        signals = signals-within around.signals context process below;
      },
    )
