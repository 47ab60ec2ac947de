-- What a process does in which no rule is broken is sound.
use Rattle.std.proofs.Common.{◌≡◌, ◌∙◌, ◌<◌, ◌++◌, ℕ, suc, All, List, [], Some, arith, length, refl, ap, slice_get, sym, subst}
use Rattle.std.proofs.lemmas.List.{length-map}
use Rattle.std.proofs.lemmas.Slice.Zip.{AllZip-long}
use Rattle.build_process.specs.Bodies.{beginning_body, bodies_faults}
use Rattle.laws_complete.proofs.RangeLemmas.{anything, each-anything}
use Rattle.laws_complete.proofs.ReadLemmas.{bounds_of, process-table}
use Rattle.build_flow.specs.Beginnings.{beginnings, beginnings_behind}
use Rattle.build_flow.specs.Ends.{ends_faults}
use Rattle.build_flow.specs.Reach.{AreReached}
use Rattle.build_flow.specs.Stays.{stay_faults}
use Rattle.build_process.specs.Faulty.{body_faults, flow_faults}
use Rattle.build_process.specs.Meant.{IsBehaviour}
use Rattle.build_process.specs.ProcessScope.{ProcessScope, for_stimuli, for_transitions}
use Rattle.build_process.specs.declared.heading.Heading.{Heading}
use Rattle.build_names.specs.States.{different}
use Rattle.laws_sound_processes.proofs.StartLemmas.{start-leads-on}
use Rattle.laws_sound_processes.proofs.TypedLemmas.{bodies-are-typed}
use Rattle.laws_sound_processes.specs.Typed.{HasSomeKind, IsSoundContext, IsTypedAction, IsTypedBody, IsTypedTerminator}
use Rattle.laws_sound_runs.specs.Paths.{EveryPart}
use Rattle.laws_sound_runs.specs.States.{AreLed, IsLed, LeadsToStates}
use Rattle.laws_sound_processes.proofs.ConditionLemmas.{all-truths}
use Rattle.laws_sound_processes.proofs.InputLemmas.{all-good, none-left, none-right}
use Rattle.laws_sound_processes.proofs.MeaningLemmas.{states-sound}
use Rattle.laws_sound_processes.specs.Behaviours.{IsSoundAround, IsSoundBehaviour}
use Rattle.laws_sound_processes.specs.ProcessLaws.{BehavioursAreSound}
use Rattle.laws_sound_processes.specs.States.{IsSoundState}
use Rattle.build_states.specs.States.{names_in, process_faults, states_faults}
use Rattle.build_states.specs.Reading as reading
use Rattle.build_states.specs.Reading.{process_read}
use Rattle.sdl_system.specs.Behaviour.{Behaviour, Means, MeansState}
use Rattle.sdl_system.specs.Body as body
use Rattle.sdl_system.specs.Body.{Action, Body, Parts, Terminator}
use Rattle.sdl_system.specs.System.{SystemValue}
use Rattle.sdl_system.specs.Term.{Term}
use Rattle.sdl_system.specs.declared.process.Process.{Process}
use Rattle.sdl_tree.specs.Tree.{ProcessDefinition}

-- ---- typed bodies lead to states

module _ (system : SystemValue) (process : Process) (count : ℕ) (same : count ≡ length process.states.items) where
  end-led : (terminator : Terminator) → IsTypedTerminator process terminator → IsLed count terminator
  end-led (body.to_state state) is = subst (λ n. state.0 < n) (sym same) is
  end-led (body.join label) is = tt
  end-led body.to_same is = tt
  end-led body.stop is = tt

  abbrev LedParts : Parts → Type 0
  LedParts parts = EveryPart (λ (first : Action). Unit {0}) (λ (question : Term). Unit {0}) (IsLed count) parts

  abbrev TypedParts : Parts → Type 0
  TypedParts parts =
      EveryPart (IsTypedAction system process) (HasSomeKind system process) (IsTypedTerminator process) parts

  mutual
    all-led : (b : Body) → IsTypedBody system process b → AreLed count b
    all-led body.nothing is = tt
    all-led (body.action first rest) is = (tt, all-led rest is.1)
    all-led (body.decision question parts rest) is = (tt, parts-led parts is.1, all-led rest is.2)
    all-led (body.label number rest) is = all-led rest is
    all-led (body.ending terminator) is = end-led terminator is

    parts-led : (parts : Parts) → TypedParts parts → LedParts parts
    parts-led body.no_part is = tt
    parts-led (body.otherwise b) is = all-led b is
    parts-led (body.part answers b rest) is = (all-led b is.0, parts-led rest is.1)

-- ---- the whole

module _ (system : SystemValue) (process : Process) (around : ProcessScope) (definition : ProcessDefinition)
    (heading : Heading) (behaviour : Behaviour) (names : List (List ℕ))
    (sound : IsSoundAround system process around) (is : IsBehaviour around definition heading behaviour)
    (means : Means process behaviour) (reached : AreReached (beginnings definition) names)
    (none : body_faults around definition names ≡ []) where
  context-sound : IsSoundContext system process (for_transitions around)
  context-sound = record { scope = sound.scope; states = sound.states }

  many : length (beginnings definition) ≡ length behaviour.bodies
  many =
      sym (length-map (beginnings definition) (beginning_body (for_transitions around)))
      ∙ ap length is.bodies ∙ length-map behaviour.bodies Some

  states-many : length behaviour.states ≡ length process.states.items
  states-many = AllZip-long (MeansState process means.entries) process.states.items behaviour.states means.states_are

  -- no rule is broken in what its states say, and no `-` is told that the start reaches
  said-none : reading.body_faults (for_stimuli around) definition.body ≡ []
  said-none =
      none-left (reading.body_faults (for_stimuli around) definition.body)
      (states_faults (for_stimuli around) definition.body)
      (none-left (process_faults (for_stimuli around) definition) (flow_faults around definition names) none)

  stays-none : stay_faults (beginnings definition) names ≡ []
  stays-none =
      none-right (ends_faults definition) (stay_faults (beginnings definition) names)
      (none-right (bodies_faults (for_transitions around) definition)
      (ends_faults definition ++ stay_faults (beginnings definition) names)
      (none-right (process_faults (for_stimuli around) definition) (flow_faults around definition names) none))

  typed : (number : ℕ) (b : Body) → slice_get behaviour.bodies number ≡ Some b → IsTypedBody system process b
  typed number b listed =
      bodies-are-typed system process (for_transitions around) definition behaviour.bodies number b context-sound
      is.bodies listed

  leads : LeadsToStates behaviour
  leads = record {
    led = λ number b listed.
        all-led system process (length behaviour.states) states-many b (typed number b listed);
    stays = λ first listed reaches.
        start-leads-on (for_transitions around) definition names behaviour.bodies first is.bodies is.labels reached
        stays-none (subst (λ n. slice_get behaviour.bodies n ≡ Some first) is.start listed) reaches;
  }

  started : (n m : ℕ) → suc n ≡ m → 0 < m
  started n m same = omega (arith, same)

  starts : behaviour.start < length behaviour.bodies
  starts =
      subst (λ n. n < length behaviour.bodies) (sym is.start)
      (started (length (beginnings_behind definition)) (length behaviour.bodies) many)

  states : All (IsSoundState system process (length behaviour.bodies)) behaviour.states
  states =
      let context = for_stimuli around in
      let read = process_read context definition in
      subst (λ n. All (IsSoundState system process n) behaviour.states) many
      (states-sound system process read.numbering.conditions
      (all-truths system process context sound.scope definition.body)
      (bounds_of (length (beginnings definition)) context definition) around.signals sound.signals anything read.parts
      (all-good system process context sound.scope definition.body said-none)
      (process-table anything context definition (length (beginnings definition)) refl (λ text meaning found. tt)
      (λ text list found. each-anything list))
      (different (names_in definition.body)) behaviour.states is.signals is.states)

  behaviour-sound : IsSoundBehaviour system process behaviour
  behaviour-sound = record { bodies = typed; start = starts; leads = leads; states = states }

pub behaviours-are-sound : BehavioursAreSound
behaviours-are-sound = behaviour-sound
