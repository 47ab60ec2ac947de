-- What a process does in which no rule is broken is sound (Z.101: process), and in its runs each term comes to a value
-- of its kind (Z.104: expressions).
use Rattle.std.specs.Prelude.{◌≡◌, ℕ, true, List, [], Ok}
use Rattle.port_model.specs.History.{PortEvent}
use Rattle.port_model.specs.Port.{PortState}
use Rattle.port_model.specs.declared.values.value.Value.{Value}
use Rattle.build_flow.specs.Beginnings.{beginnings}
use Rattle.build_flow.specs.Reach.{AreReached}
use Rattle.run_record.specs.Environment.{environment}
use Rattle.run_record.specs.Value.{value_of}
use Rattle.run_record.specs.declared.evaluation.identity.Identity.{Identity}
use Rattle.run_record.specs.declared.evaluation.store.Store.{Store}
use Rattle.build_process.specs.Faulty.{body_faults}
use Rattle.build_process.specs.Meant.{IsBehaviour}
use Rattle.build_process.specs.ProcessScope.{ProcessScope}
use Rattle.build_process.specs.declared.heading.Heading.{Heading}
use Rattle.run_semantics.specs.Effect.{Deed}
use Rattle.run_semantics.specs.ControlPoint.{Definition, ControlPoint}
use Rattle.run_semantics.specs.Runs.{Runs}
use Rattle.build_expressions.specs.declared.operand_sort.OperandSort.{OperandSort}
use Rattle.laws_sound_runs.specs.Sorts.{HaveSorts}
use Rattle.laws_sound_processes.specs.Behaviours.{IsSoundAround, IsSoundBehaviour}
use Rattle.laws_sound_runs.specs.Kinds.{HasKind, has_kind}
use Rattle.sdl_system.specs.Behaviour.{Behaviour, Means}
use Rattle.sdl_system.specs.System.{SystemValue}
use Rattle.sdl_system.specs.Term.{Term}
use Rattle.sdl_system.specs.declared.process.Process.{Process}
use Rattle.sdl_tree.specs.Tree.{ProcessDefinition}

-- Where each name around a process stands for what is there, and no rule is broken in the process, what it does is
-- sound. `names` are those of the joins that its start reaches.
abbrev pub BehavioursAreSound : Type 0
BehavioursAreSound =
    (system : SystemValue) (process : Process) (around : ProcessScope) (definition : ProcessDefinition)
    (heading : Heading) (behaviour : Behaviour) (names : List (List ℕ)) → IsSoundAround system process around
    → IsBehaviour around definition heading behaviour → Means process behaviour
    → AreReached (beginnings definition) names → body_faults around definition names ≡ []
    → IsSoundBehaviour system process behaviour

-- In a run of what a process means, where each variable had a value of its sort when the run began, what a term of a
-- kind comes to is a value of that kind.
abbrev pub RunsHaveKinds : Type 0
RunsHaveKinds =
    (d : Definition) (process : Process) (who : Identity) (from place : ControlPoint) (s t : Store) (q r : PortState)
    (deeds : List Deed) (history : List PortEvent) (kind : OperandSort) (term : Term) (v : Value) →
    Means process d.behaviour
    → HaveSorts d.behaviour s.variables → Runs d who from s q deeds history place t r
    → HasKind d.system process kind term → value_of (environment d.system who t r) term ≡ Ok v
    → has_kind kind v ≡ true
