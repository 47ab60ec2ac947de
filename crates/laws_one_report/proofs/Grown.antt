-- What an instance did stays in its record: nothing lacks before where nothing lacks behind.
use Rattle.std.proofs.Common.{◌≡◌, ◌⊎◌, ◌∙◌, ◌++◌, ap, append_assoc, append-nil, if◌then◌else◌, inl, inr, nat_le, refl, set, slice_get, subst, sym, ℕ, zero, suc, Bool, true, false, List, [], ◌∷◌, Option, None, Some}
use Rattle.std.proofs.lemmas.Option.{none-some, same_Some}
use Rattle.port_model.specs.declared.values.pid.Pid.TheVariants.{Of}
use Rattle.port_model.specs.declared.values.value.Value.{Value}
use Rattle.serial_order.specs.Execution.{Expired, Follows, Happening, Heard, Moved, Steps, Ticked}
use Rattle.serial_order.specs.RunState.{RunState, after_effect, after_effects, change_at, changed_at, instance_at, instance_of, with_created, with_expiry, with_instance, with_put}
use Rattle.run_record.specs.declared.evaluation.identity.Identity.{Identity}
use Rattle.sdl_interp.specs.Instance.{InstanceValue}
use Rattle.run_record.specs.Event.{Event}
use Rattle.run_semantics.specs.Effect.{Effect, Arm, Create, Deed, Send, effects_of, events_of}
use Rattle.sdl_system.specs.Behaviour.{Behaviour}
use Rattle.sdl_system.specs.declared.process.Process.{Process}
use Rattle.sdl_system.specs.declared.route.Target.TheVariants.{Env, Instance, Nobody, Null}
use Rattle.sdl_timers.specs.DueOrder.{with_fuse}

-- the events of the instance of a number are a beginning of those that it has later
pub record Kept (before : InstanceValue) (later : List InstanceValue) (n : ℕ) : Type 0 where
  pub now : InstanceValue
  pub is_there : instance_at later n ≡ Some now
  pub more : List Event
  pub events : now.events ≡ before.events ++ more

abbrev pub Grown : List InstanceValue → List InstanceValue → Type 0
Grown before later = (n : ℕ) (i : InstanceValue) → instance_at before n ≡ Some i → Kept i later n

pub grown_same : (xs : List InstanceValue) → Grown xs xs
grown_same xs n i there = record { now = i; is_there = there; more = []; events = sym (append-nil i.events) }

pub grown_on : (xs ys zs : List InstanceValue) → Grown xs ys → Grown ys zs → Grown xs zs
grown_on xs ys zs first second n i there =
    let a : Kept i ys n = first n i there in
    let b : Kept a.now zs n = second n a.now a.is_there in
    record {
      now = b.now;
      is_there = b.is_there;
      more = a.more ++ b.more;
      events = b.events ∙ ap (λ e. e ++ b.more) a.events ∙ append_assoc i.events a.more b.more;
    }

-- ---- one is changed

-- what stands in a list where one place is written
at_set : (xs : List InstanceValue) (m n : ℕ) (old new i : InstanceValue) → slice_get xs m ≡ Some old
    → slice_get xs n ≡ Some i
    → ((i ≡ old) × (slice_get (set xs m new) n ≡ Some new)) ⊎ (slice_get (set xs m new) n ≡ Some i)
at_set [] m n old new i there here = absurd (none-some i here)
at_set (x ∷ xs) zero zero old new i there here =
    inl (same_Some i old (sym here ∙ there), refl)
at_set (x ∷ xs) zero (suc n) old new i there here = inr here
at_set (x ∷ xs) (suc m) zero old new i there here = inr here
at_set (x ∷ xs) (suc m) (suc n) old new i there here = at_set xs m n old new i there here

pub grown_with : (xs : List InstanceValue) (m : ℕ) (old new : InstanceValue) (more : List Event)
    → instance_at xs m ≡ Some old → new.events ≡ old.events ++ more → Grown xs (with_instance xs m new)
grown_with xs zero old new more there grows n i here = absurd (none-some old there)
grown_with xs (suc m) old new more there grows zero i here = absurd (none-some i here)
grown_with xs (suc m) old new more there grows (suc n) i here =
    elim (at_set xs m n old new i there here) [
      | inl w ↦ record {
        now = new;
        is_there = w.1;
        more = more;
        events = grows ∙ ap (λ (j : InstanceValue). j.events ++ more) (sym w.0);
      }
      | inr w ↦ record { now = i; is_there = w; more = []; events = sym (append-nil i.events) }
    ]

module _ (change : InstanceValue → InstanceValue) (same : (i : InstanceValue) → (change i).events ≡ i.events)
    (xs : List InstanceValue) (m : ℕ) where
  grown_changed : (o : Option InstanceValue) → instance_at xs m ≡ o → Grown xs (changed_at change xs m o)
  grown_changed None there = grown_same xs
  grown_changed (Some i) there =
      grown_with xs m i (change i) [] there (same i ∙ sym (append-nil i.events))

  pub grown_change : Grown xs (change_at change xs m)
  grown_change = grown_changed (instance_at xs m) refl

-- ---- one is made

get_more : (xs : List InstanceValue) (n : ℕ) (i new : InstanceValue) → slice_get xs n ≡ Some i
    → slice_get (xs ++ new ∷ []) n ≡ Some i
get_more [] n i new here = absurd (none-some i here)
get_more (x ∷ xs) zero i new here = here
get_more (x ∷ xs) (suc n) i new here = get_more xs n i new here

pub grown_more : (xs : List InstanceValue) (new : InstanceValue) → Grown xs (xs ++ new ∷ [])
grown_more xs new zero i here = absurd (none-some i here)
grown_more xs new (suc n) i here =
    record { now = i; is_there = get_more xs n i new here; more = []; events = sym (append-nil i.events) }

-- ---- what is done

module _ (g : RunState) where
  grown_created : (who : Identity) (values : List Value) (o : Option Process)
      → Grown g.instances (with_created g.system g.instances who values o)
  grown_created who values None = grown_same g.instances
  grown_created who values (Some process) = grown_more g.instances (instance_of g.system process who values)

  pub grown_effect : (effect : Effect) → Grown g.instances (after_effect g effect).instances
  grown_effect (Send (Instance n) item) = grown_change (with_put item) (λ i. refl) g.instances n
  grown_effect (Send Env item) = grown_same g.instances
  grown_effect (Send Null item) = grown_same g.instances
  grown_effect (Send Nobody item) = grown_same g.instances
  grown_effect (Arm fuse) =
      by_test (nat_le fuse.due g.clock)
      (record g { instances = change_at (with_expiry fuse g.clock) g.instances fuse.pid })
      (record g { fuses = with_fuse fuse g.fuses })
      (grown_change (with_expiry fuse g.clock) (λ i. refl) g.instances fuse.pid) (grown_same g.instances) where
        by_test : (b : Bool) (now later : RunState) → Grown g.instances now.instances
            → Grown g.instances later.instances → Grown g.instances (if b then now else later).instances
        by_test true now later first second = first
        by_test false now later first second = second
  grown_effect (Create process number parent values) =
      grown_created (record { process = process; pid = number; parent = Of parent }) values
      (slice_get g.system.processes process.0)

pub grown_effects : (g : RunState) (effects : List Effect) → Grown g.instances (after_effects g effects).instances
grown_effects g [] = grown_same g.instances
grown_effects g (effect ∷ rest) =
    grown_on g.instances (after_effect g effect).instances (after_effects (after_effect g effect) rest).instances (grown_effect g effect)
    (grown_effects (after_effect g effect) rest)

-- ---- one happening

module _ (ps : List Behaviour) (last : ℕ) where
  -- the state of the whole as a step is over, before its acts are done
  abbrev pub stepped : (g : RunState) (who : Identity) (deeds : List Deed) (h : RunState) → Steps ps g who deeds h → RunState
  stepped g who deeds h step = record g {
    instances = with_instance g.instances who.pid step.new;
    turn = who.pid;
    bound = step.bound;
  }

  pub step_events : (g : RunState) (who : Identity) (deeds : List Deed) (h : RunState) (step : Steps ps g who deeds h)
      → step.new.events ≡ step.old.events ++ events_of deeds
  step_events g who deeds h step =
      step.goes.recorded ∙ ap (λ list. step.old.events ++ events_of list) step.deeds_are

  pub grown_next : (g : RunState) (next : Happening) (h : RunState) → Follows ps last g next h
      → Grown g.instances h.instances
  grown_next g (Moved who deeds) h step =
      subst (λ (x : RunState). Grown g.instances x.instances) (sym step.now)
      (grown_on g.instances (with_instance g.instances who.pid step.new)
      (after_effects (stepped g who deeds h step) (effects_of deeds)).instances
      (grown_with g.instances who.pid step.old step.new (events_of deeds) step.is_there
      (step_events g who deeds h step))
      (grown_effects (stepped g who deeds h step) (effects_of deeds)))
  grown_next g (Expired fuse) h expires =
      subst (λ (x : RunState). Grown g.instances x.instances) (sym expires.now)
      (grown_change (with_expiry fuse g.clock) (λ i. refl) g.instances fuse.pid)
  grown_next g (Heard line effects) h hears =
      subst (λ (x : RunState). Grown g.instances x.instances) (sym hears.now)
      (grown_effects (record g { script = hears.later }) effects)
  grown_next g (Ticked time) h ticks =
      subst (λ (x : RunState). Grown g.instances x.instances) (sym ticks.now) (grown_same g.instances)
