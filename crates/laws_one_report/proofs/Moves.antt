-- Two steps from one state of the whole are the same.
use Rattle.std.proofs.Common.{◌≡◌, ◌∙◌, ◌++◌, ap, map, refl, slice_get, subst, sym, ℕ, List, [], ◌∷◌}
use Rattle.std.proofs.lemmas.Option.{same_Some}
use Rattle.port_model.specs.Ends.{single}
use Rattle.port_model.specs.Port.{PortState}
use Rattle.serial_order.specs.Execution.{Moved, Steps, is_transition}
use Rattle.serial_order.specs.RunState.{RunState, after_effects, world_at, instance_at, with_instance}
use Rattle.run_record.specs.declared.evaluation.identity.Identity.{Identity}
use Rattle.run_record.specs.declared.evaluation.store.Store.{Store}
use Rattle.sdl_interp.specs.Instance.{InstanceValue}
use Rattle.run_record.specs.Event.{Event}
use Rattle.run_semantics.specs.Effect.{Deed, effects_of, events_of}
use Rattle.run_semantics.specs.ControlPoint.{AtStart, In, ControlPoint}
use Rattle.sdl_interp.specs.Machine.{place_of}
use Rattle.sdl_interp.specs.declared.transitions.machine.Position.{Position}
use Rattle.sdl_interp.specs.declared.transitions.machine.Position.TheVariants as at
use Rattle.sdl_system.specs.Behaviour.{Behaviour}
use Rattle.sdl_system.specs.System.{SystemValue}
use Rattle.sdl_system.specs.declared.process.Process.{Process}
use Rattle.laws_one_report.proofs.Bare.{effects_bare, world_same, partner, with_bare}
use Rattle.laws_one_report.proofs.Grown.{step_events, stepped}
use Rattle.laws_one_report.proofs.Resting.{StepOf, known, step_of}
use Rattle.laws_one_report.proofs.Turns.{awake_one, turns_same}
use Rattle.laws_one_report.specs.Same.{bare, bare_whole, uncalled, uncalled_one}
use Rattle.laws_one_step.proofs.Iterates.{Told, told}
use Rattle.laws_one_step.proofs.Steps.{effects_same, events_same, stepped_alike}
use Rattle.laws_one_step.specs.Unique.{LackNothing}

-- ---- words

-- a position by its place
position_of : ControlPoint → Position
position_of AtStart = at.BeforeStart
position_of (In n) = at.In n
position_of other = at.Ended

position_back : (position : Position) → position_of (place_of position) ≡ position
unfolding position_of
position_back at.BeforeStart = refl
position_back (at.In n) = refl
position_back at.Ended = refl

same_position : (one other : Position) → place_of one ≡ place_of other → one ≡ other
same_position one other same = sym (position_back one) ∙ ap position_of same ∙ position_back other

-- what is told of deeds is all but their calls
deed_of : Told → Deed
deed_of t = record { event = t.happened; calls = []; effects = t.done }

uncalled_told : (deeds : List Deed) → map uncalled deeds ≡ map deed_of (told deeds)
unfolding deed_of
uncalled_told [] = refl
uncalled_told (deed ∷ rest) = ap (λ list. uncalled deed ∷ list) (uncalled_told rest)

uncalled_same : (deeds others : List Deed) → told deeds ≡ told others → map uncalled deeds ≡ map uncalled others
uncalled_same deeds others same =
    uncalled_told deeds ∙ ap (λ list. map deed_of list) same ∙ sym (uncalled_told others)

-- an instance by what is seen of it
abbrev made : SystemValue → Process → Identity → Position → Store → ℕ → PortState → List Event → InstanceValue
made system process who position store pid state events = record {
  system = system;
  process = process;
  who = who;
  position = position;
  store = store;
  owner = single pid state [];
  events = events;
}

same_made : (s s' : SystemValue) (p p' : Process) (w w' : Identity) (at at' : Position) (t t' : Store) (n n' : ℕ)
    (q q' : PortState) (e e' : List Event) → s ≡ s' → p ≡ p' → w ≡ w' → at ≡ at' → t ≡ t' → n ≡ n' → q ≡ q' → e ≡ e'
    → made s p w at t n q e ≡ made s' p' w' at' t' n' q' e'
same_made s s' p p' w w' at at' t t' n n' q q' e e' system process who position store pid state events =
    λ k. made (system k) (process k) (who k) (position k) (store k) (pid k) (state k) (events k)

-- ---- two steps

module _ (ps : List Behaviour) (last : ℕ) (g : RunState) (who : Identity) (deeds : List Deed) (h : RunState)
    (one : Steps ps g who deeds h) (g' : RunState) (who' : Identity) (deeds' : List Deed) (h' : RunState)
    (other : Steps ps g' who' deeds' h') (same : bare_whole g ≡ bare_whole g') (lack : LackNothing (events_of deeds))
    (lack' : LackNothing (events_of deeds')) where
  -- one turn
  turn_is : (who.pid ≡ who'.pid) × (one.bound ≡ other.bound)
  turn_is =
      turns_same ps g g' who.pid who'.pid one.bound other.bound same (awake_one ps g who deeds h one lack)
      (awake_one ps g' who' deeds' h' other lack') one.turn other.turn

  -- one instance
  old_is : bare one.old ≡ bare other.old
  old_is =
      let there = partner g g' who.pid one.old same one.is_there in
      there.2 ∙ ap bare (same_Some there.0 other.old
      (sym there.1 ∙ ap (λ n. instance_at g'.instances n) turn_is.0 ∙ other.is_there))

  who_is : who ≡ who'
  who_is = sym one.is_who ∙ ap (λ (i : InstanceValue). i.who) old_is ∙ other.is_who

  -- one behaviour
  meaning_is : one.p ≡ other.p
  meaning_is =
      same_Some one.p other.p
      (sym one.meant.listed
      ∙ ap (λ (i : InstanceValue). slice_get ps i.who.process.0) old_is
      ∙ other.meant.listed)

  -- the other step, as one of this instance
  other_of : StepOf ps one.old one.p (world_at g) (is_transition deeds') deeds' (place_of other.new.position)
      other.new.store other.new.owner.state
  other_of =
      let as_is : StepOf ps (bare other.old) other.p (world_at g') (is_transition deeds') deeds'
      (place_of other.new.position) other.new.store other.new.owner.state =
      step_of ps g' who' deeds' h' other lack' in
      subst (λ w. StepOf ps (bare one.old) one.p w (is_transition deeds') deeds' (place_of other.new.position)
      other.new.store other.new.owner.state) (sym (world_same g g' same))
      (subst (λ p. StepOf ps (bare one.old) p (world_at g') (is_transition deeds') deeds'
      (place_of other.new.position) other.new.store other.new.owner.state) (sym meaning_is)
      (subst (λ i. StepOf ps i other.p (world_at g') (is_transition deeds') deeds'
      (place_of other.new.position) other.new.store other.new.owner.state) (sym old_is) as_is))

  alike : (told deeds ≡ told deeds') × (is_transition deeds ≡ is_transition deeds')
      × (place_of one.new.position ≡ place_of other.new.position) × (one.new.store ≡ other.new.store)
      × (one.new.owner.state ≡ other.new.owner.state)
  alike =
      stepped_alike (record { system = one.old.system; behaviour = one.p }) one.old.process one.meant.is_run.behaves
      one.old.who (world_at g) (known ps g) (place_of one.old.position) one.old.store one.old.owner.state
      (is_transition deeds) (is_transition deeds') deeds deeds' (place_of one.new.position)
      (place_of other.new.position) one.new.store other.new.store one.new.owner.state other.new.owner.state
      (step_of ps g who deeds h one lack) other_of

  -- one instance behind it
  new_is : bare one.new ≡ bare other.new
  new_is =
      same_made one.new.system other.new.system one.new.process other.new.process one.new.who other.new.who
      one.new.position other.new.position one.new.store other.new.store one.new.owner.pid other.new.owner.pid
      one.new.owner.state other.new.owner.state one.new.events other.new.events
      (one.keeps.system ∙ ap (λ (i : InstanceValue). i.system) old_is ∙ sym other.keeps.system)
      (one.keeps.process ∙ ap (λ (i : InstanceValue). i.process) old_is ∙ sym other.keeps.process)
      (one.keeps.who ∙ ap (λ (i : InstanceValue). i.who) old_is ∙ sym other.keeps.who)
      (same_position one.new.position other.new.position alike.2) alike.3
      (one.keeps.pid ∙ ap (λ (i : InstanceValue). i.owner.pid) old_is ∙ sym other.keeps.pid) alike.4
      (step_events ps last g who deeds h one
      ∙ ap (λ (i : InstanceValue). i.events ++ events_of deeds) old_is
      ∙ ap (λ list. other.old.events ++ list) (events_same deeds deeds' alike.0)
      ∙ sym (step_events ps last g' who' deeds' h' other))

  -- one state of the whole, before the acts are done
  before_is : bare_whole (stepped ps last g who deeds h one) ≡ bare_whole (stepped ps last g' who' deeds' h' other)
  before_is =
      let moved : RunState → ℕ → ℕ → InstanceValue → RunState =
      λ x n bound i. record x { instances = with_instance x.instances n i; turn = n; bound = bound } in
      ap (λ list. record g { instances = list; turn = who.pid; bound = one.bound })
      (with_bare g.instances who.pid one.new)
      ∙ (λ k. moved (same k) (turn_is.0 k) (turn_is.1 k) (new_is k))
      ∙ ap (λ list. record g' { instances = list; turn = who'.pid; bound = other.bound })
      (sym (with_bare g'.instances who'.pid other.new))

  pub moves_same : (uncalled_one (Moved who deeds) ≡ uncalled_one (Moved who' deeds')) × (bare_whole h ≡ bare_whole h')
  moves_same = (
    (λ k. Moved (who_is k) (uncalled_same deeds deeds' alike.0 k)),
    ap bare_whole one.now
        ∙ effects_bare (stepped ps last g who deeds h one) (effects_of deeds)
        ∙ (λ k. after_effects (before_is k) (effects_same deeds deeds' alike.0 k))
        ∙ sym (effects_bare (stepped ps last g' who' deeds' h' other) (effects_of deeds'))
        ∙ ap bare_whole (sym other.now),
  )
