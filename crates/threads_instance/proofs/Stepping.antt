-- A step keeps that what was sent is what the record says, and that the instance is in its seat.
use Rattle.std.proofs.Common.{◌≡◌, ◌∙◌, ap, cond, refl, sym, subst, inl, inr, ℕ, Bool, true, false, List, [], ◌∷◌, ◌++◌, Option, Some, slice_get}
use Rattle.std.proofs.lemmas.Grind.{flat_map-append}
use Rattle.std.specs.declared.alloc.Global.{Global}
use Rattle.crossbeam_queue.specs.SegTies.{SegId}
use Rattle.std.proofs.lemmas.Option.{same_Some}
use Rattle.port_model.specs.declared.values.item.Item.{Item}
use Rattle.run_record.specs.declared.evaluation.identity.Identity.{Identity}
use Rattle.sdl_interp.specs.Instance.{EndsBy, InstanceValue, IsIdle, IsRunAs, Keeps, Moves, Steps, work_of}
use Rattle.sdl_interp.specs.Stimulus.{WaitsAt}
use Rattle.sdl_interp.specs.declared.instance.Stepped.{Stepped}
use Rattle.sdl_interp.specs.declared.instance.Stepped.TheVariants as stepped
use Rattle.threads_instance.specs.ThreadWorld.{world_of}
use Rattle.threads_instance.specs.Outbox.{sent_in}
use Rattle.threads_instance.specs.ThreadInstance.{HasSent, IsSeated}
use Rattle.run_record.specs.Event.{Event}
use Rattle.run_semantics.proofs.Acting.{runs_effects}
use Rattle.run_semantics.proofs.Sent.{deeds_send}
use Rattle.run_semantics.specs.Effect.{Effect, Deed, events_of}
use Rattle.run_semantics.specs.Goes.{Goes, IsOneStep, MachineValue, Waits}
use Rattle.run_semantics.specs.ControlPoint.{Definition}
use Rattle.run_semantics.specs.Sent.{sent_by_one, sent_to, sent_with}
use Rattle.run_semantics.specs.World.{Sent, WorldValue, after_effect, after_effects, after_deeds, has_port}
use Rattle.sdl_interp.specs.Machine.{place_of}
use Rattle.sdl_interp.specs.Work.{IsOf}
use Rattle.sdl_interp.specs.declared.transitions.machine.Position.{Position}
use Rattle.sdl_interp.specs.declared.transitions.machine.Position.TheVariants as at
use Rattle.sdl_system.specs.System.{SystemValue}
use Rattle.sdl_system.specs.declared.process.Process.{Process}

-- ---- the system stays, and the time of the step

effects_system : (w : WorldValue) (done : List Effect) → (after_effects w done).system ≡ w.system
effects_system w [] = refl
effects_system w (effect ∷ rest) = effects_system (after_effect w effect) rest

deeds_system : (w : WorldValue) (deeds : List Deed) → (after_deeds w deeds).system ≡ w.system
deeds_system w [] = refl
deeds_system w (deed ∷ rest) = deeds_system (after_effects w deed.effects) rest ∙ effects_system w deed.effects

effects_clock : (w : WorldValue) (done : List Effect) → (after_effects w done).clock ≡ w.clock
effects_clock w [] = refl
effects_clock w (effect ∷ rest) = effects_clock (after_effect w effect) rest

deeds_clock : (w : WorldValue) (deeds : List Deed) → (after_deeds w deeds).clock ≡ w.clock
deeds_clock w [] = refl
deeds_clock w (deed ∷ rest) = deeds_clock (after_effects w deed.effects) rest ∙ effects_clock w deed.effects

module _ (old new : InstanceValue) (before after : List (ℕ × Item)) (first last : List Effect)
    (system other : SystemValue) (time later : ℕ) where
  abbrev was : WorldValue
  was = world_of system time before first

  abbrev is : WorldValue
  is = world_of other later after last

  abbrev own : WorldValue
  own = world_of system time after last

  same_world : (v : WorldValue) → is ≡ v → v.system ≡ system → v.clock ≡ Some time → is ≡ own
  same_world v same of_system of_clock =
      let of_time : later ≡ time = same_Some later time (ap (λ (w : WorldValue). w.clock) same ∙ of_clock) in
      ap (λ (s : SystemValue). world_of s later after last) (ap (λ (w : WorldValue). w.system) same ∙ of_system)
      ∙ ap (λ (t : ℕ). world_of system t after last) of_time

  moves_as : (counts : Bool) → Moves counts old was new is → Moves counts old was new own
  moves_as counts moves = λ d is_run.
      let goes : Goes (IsOneStep counts) d (place_of old.position) (work_of old) was (place_of new.position)
      (work_of new) is = moves d is_run in
      subst (λ (v : WorldValue). Goes (IsOneStep counts) d (place_of old.position) (work_of old) was
      (place_of new.position) (work_of new) v)
      (same_world (after_deeds was goes.deeds) goes.world (deeds_system was goes.deeds) (deeds_clock was goes.deeds)) goes

  waits_as : (d : Definition) (position : Position) → WaitsAt d position (work_of old) was (work_of new) is
      → WaitsAt d position (work_of old) was (work_of new) own
  waits_as d at.BeforeStart waits = absurd waits
  waits_as d (at.In state) waits =
      subst (λ (v : WorldValue). Waits d state (work_of old) was (work_of new) v)
      (same_world was waits.world refl refl) waits
  waits_as d at.Ended waits = absurd waits

  ends_as : (counts : Bool) → EndsBy counts old was new is → EndsBy counts old was new own
  ends_as counts ends = elim ends [
    | inl over ↦ inl (over.0, over.1, sym (same_world was over.2 refl refl) ∙ over.2, over.3)
    | inr by ↦ inr (by.0, by.1, moves_as counts by.2)
  ]

  steps_as : (result : Stepped) → Steps result old was new is → Steps result old was new own
  steps_as stepped.Moved steps = (moves_as true steps.0, steps.1)
  steps_as stepped.Idle steps = (steps.0, λ d is_run. waits_as d old.position (steps.1 d is_run))
  steps_as (stepped.Ended counts) steps = ends_as counts steps

-- the instance is of the same system still
pub system_stays : (old new : InstanceValue) (system : SystemValue) → Keeps old new → old.system ≡ system
    → new.system ≡ system
system_stays old new system keeps is = keeps.system ∙ is

-- and in its seat
pub seat_stays : (system : Option SystemValue) (ports : ℕ → SegId Global) (old new : InstanceValue) → Keeps old new
    → IsSeated system ports old → IsSeated system ports new
seat_stays system ports old new keeps seated = record {
  system_is = seated.system_is ∙ ap (λ (s : SystemValue). Some s) (sym keeps.system);
  process_is = ap (λ (s : SystemValue). slice_get s.processes new.who.process.0) keeps.system
      ∙ ap (λ (who : Identity). slice_get old.system.processes who.process.0) keeps.who
      ∙ seated.process_is ∙ ap (λ (p : Process). Some p) (sym keeps.process);
  port = keeps.port ∙ seated.port ∙ ap (λ (who : Identity). ports who.pid) (sym keeps.who);
  own = keeps.pid ∙ seated.own ∙ ap (λ (who : Identity). who.pid) (sym keeps.who);
}

-- A step in a world of the instance's own system, with what it had sent and done, is one in the worlds of that system and
-- time.
pub steps_own : (result : Stepped) (old new : InstanceValue) (system other : SystemValue) (time later : ℕ)
    (taken before after : List (ℕ × Item)) (done first last : List Effect) → old.system ≡ system → taken ≡ before
    → done ≡ first → Steps result old (world_of system time taken done) new (world_of other later after last)
    → Steps result old (world_of old.system time before first) new (world_of old.system time after last)
steps_own result old new system other time later taken before after done first last own same same_done steps =
    subst (λ (s : SystemValue). Steps result old (world_of s time before first) new (world_of s time after last))
    (sym own)
    (steps_as old new before after first last system other time later result
    (subst (λ (sent : List (ℕ × Item)).
    Steps result old (world_of system time sent first) new (world_of other later after last)) same
    (subst (λ (l : List Effect).
    Steps result old (world_of system time taken l) new (world_of other later after last)) same_done steps)))

-- ---- what was sent

goes_by : (port : Bool) (before earlier more all : List Item) → before ≡ cond port earlier [] → all ≡ earlier ++ more
    → cond port (before ++ more) before ≡ cond port all []
goes_by true before earlier more all is both = ap (λ l. l ++ more) is ∙ sym both
goes_by false before earlier more all is both = is

-- what waits has done nothing
waits_still : (d : Definition) (position : Position) (m n : MachineValue) (w v : WorldValue)
    → WaitsAt d position m w n v → (v ≡ w) × (n.events ≡ m.events)
waits_still d at.BeforeStart m n w v waits = absurd waits
waits_still d (at.In state) m n w v waits = (waits.world, waits.recorded)
waits_still d at.Ended m n w v waits = absurd waits

module _ (old new : InstanceValue) (before after : List (ℕ × Item)) (first last : List Effect)
    (keeps : Keeps old new) (sent : HasSent old before) (system : SystemValue) (time : ℕ) where
  abbrev start : WorldValue
  start = world_of system time before first

  abbrev end : WorldValue
  end = world_of system time after last

  was_run : (d : Definition) → IsRunAs new d → IsRunAs old d
  was_run d is_run = subst (λ (system : SystemValue). IsOf system old.process d) keeps.system
      (subst (λ (process : Process). IsOf new.system process d) keeps.process is_run)

  moved : (counts : Bool) → Moves counts old start new end → HasSent new after
  moved counts moves = λ d is_run number.
      let was : IsRunAs old d = was_run d is_run in
      let goes : Goes (IsOneStep counts) d (place_of old.position) (work_of old) start (place_of new.position)
      (work_of new) end = moves d was in
      let more : List Event = events_of goes.deeds in
      let all : Some (sent_in after) ≡ Some (sent_with old.who.pid more (sent_in before)) =
      ap (λ (w : WorldValue). w.sent) goes.world
      ∙ deeds_send old.who.pid start goes.deeds (sent_in before)
      (runs_effects d old.who (place_of old.position) old.store old.owner.state goes.runs) refl in
      ap (λ (s : Sent). s number)
      (same_Some (sent_in after) (sent_with old.who.pid more (sent_in before)) all)
      ∙ goes_by (has_port number) (sent_in before number) (sent_to old.who.pid old.events number)
      (sent_to old.who.pid more number) (sent_to new.who.pid new.events number) (sent d was number)
      (ap (λ (who : Identity). sent_to who.pid new.events number) keeps.who
      ∙ ap (λ (events : List Event). sent_to old.who.pid events number) goes.recorded
      ∙ flat_map-append (sent_by_one old.who.pid number) old.events more)

  stayed : end ≡ start → new.events ≡ old.events → HasSent new after
  stayed same events = λ d is_run number.
      ap (λ (s : Sent). s number)
      (same_Some (sent_in after) (sent_in before) (ap (λ (w : WorldValue). w.sent) same))
      ∙ sent d (was_run d is_run) number
      ∙ ap (λ (events : List Event). cond (has_port number) (sent_to old.who.pid events number) []) (sym events)
      ∙ ap (λ (who : Identity). cond (has_port number) (sent_to who.pid new.events number) []) (sym keeps.who)

  idled : IsIdle old start new end → HasSent new after
  idled idle = λ d is_run number.
      let still : (end ≡ start) × (new.events ≡ old.events) =
      waits_still d old.position (work_of old) (work_of new) start end (idle.1 d (was_run d is_run)) in
      stayed still.0 still.1 d is_run number

  ended : (counts : Bool) → EndsBy counts old start new end → HasSent new after
  ended counts ends = elim ends [
    | inl over ↦ stayed over.2 (ap (λ (i : InstanceValue). i.events) over.1)
    | inr by ↦ moved counts by.2
  ]

  pub steps_sent : (result : Stepped) → Steps result old start new end → HasSent new after
  steps_sent stepped.Moved steps = moved true steps.0
  steps_sent stepped.Idle steps = idled steps
  steps_sent (stepped.Ended counts) steps = ended counts steps
