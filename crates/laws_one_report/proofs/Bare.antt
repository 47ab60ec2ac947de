-- What is done to the whole, with its instances' ports alone.
use Rattle.std.proofs.Common.{◌≡◌, ◌∙◌, ap, cond, if◌then◌else◌, length, map, nat_le, refl, slice_get, sym, ℕ, zero, suc, ◌+◌, Bool, true, false, List, [], ◌∷◌, Option, None, Some}
use Rattle.std.proofs.lemmas.List.{length-map, map-append, map-set}
use Rattle.std.proofs.lemmas.List.Sums.{sum_by-cons}
use Rattle.std.proofs.lemmas.Option.{none-some, same_Some, slice_get-map}
use Rattle.std.specs.List.{range_with_len}
use Rattle.std.specs.Option.{option_map}
use Rattle.port_model.specs.declared.inbox.entry.Fuse.{Fuse}
use Rattle.port_model.specs.declared.values.item.Item.{Item}
use Rattle.port_model.specs.declared.values.pid.Pid.TheVariants.{Of}
use Rattle.port_model.specs.declared.values.value.Value.{Value}
use Rattle.serial_order.specs.RunState.{RunState, after_effect, after_effects, world_at, living_of, change_at, changed_at, count_living, heard_effects, instance_at, instance_of, least_living, lives_of, with_created, with_expiry, with_instance, with_put}
use Rattle.run_record.specs.declared.evaluation.identity.Identity.{Identity}
use Rattle.sdl_interp.specs.Instance.{InstanceValue}
use Rattle.run_semantics.specs.Effect.{Effect, Arm, Create, Send}
use Rattle.run_semantics.specs.World.{Living}
use Rattle.sdl_script.specs.declared.script.ScriptSignal.{ScriptSignal}
use Rattle.sdl_system.specs.Route.{target_in}
use Rattle.sdl_system.specs.System.{SystemValue}
use Rattle.sdl_system.specs.declared.process.Process.{Process}
use Rattle.sdl_system.specs.declared.route.Source.TheVariants as source
use Rattle.sdl_system.specs.declared.route.Target.TheVariants.{Env, Instance, Nobody, Null}
use Rattle.sdl_timers.specs.DueOrder.{with_fuse}
use Rattle.laws_one_report.specs.Same.{bare, bare_whole}

-- ---- instances by their numbers

pub at_bare : (xs : List InstanceValue) (n : ℕ)
    → instance_at (map bare xs) n ≡ option_map bare (instance_at xs n)
at_bare xs zero = refl
at_bare xs (suc place) = slice_get-map bare xs place

pub with_bare : (xs : List InstanceValue) (n : ℕ) (i : InstanceValue)
    → map bare (with_instance xs n i) ≡ with_instance (map bare xs) n (bare i)
with_bare xs zero i = refl
with_bare xs (suc place) i = map-set bare xs place i

module _ (change : InstanceValue → InstanceValue) (same : (i : InstanceValue) → bare (change i) ≡ change (bare i))
    (xs : List InstanceValue) (n : ℕ) where
  changed_bare : (o : Option InstanceValue)
      → map bare (changed_at change xs n o) ≡ changed_at change (map bare xs) n (option_map bare o)
  changed_bare None = refl
  changed_bare (Some i) =
      with_bare xs n (change i) ∙ ap (λ j. with_instance (map bare xs) n j) (same i)

  pub change_bare : map bare (change_at change xs n) ≡ change_at change (map bare xs) n
  change_bare =
      changed_bare (instance_at xs n) ∙ ap (λ o. changed_at change (map bare xs) n o) (sym (at_bare xs n))

-- ---- who lives

least_bare : (xs : List InstanceValue) (process : ℕ) → least_living (map bare xs) process ≡ least_living xs process
least_bare [] process = refl
least_bare (i ∷ rest) process =
    ap (λ o. if lives_of process i then Some i.who.pid else o) (least_bare rest process)

count_cons : (process : ℕ) (x : InstanceValue) (xs : List InstanceValue)
    → count_living (x ∷ xs) process ≡ cond (lives_of process x) 1 0 + count_living xs process
count_cons process x xs = sum_by-cons (λ (i : InstanceValue). cond (lives_of process i) 1 0) x xs

count_bare : (xs : List InstanceValue) (process : ℕ) → count_living (map bare xs) process ≡ count_living xs process
count_bare [] process = refl
count_bare (i ∷ rest) process =
    count_cons process (bare i) (map bare rest)
    ∙ ap (λ n. cond (lives_of process i) 1 0 + n) (count_bare rest process)
    ∙ sym (count_cons process i rest)

map_same : {A : Type 0} (f g : ℕ → A) → ((n : ℕ) → f n ≡ g n) → (list : List ℕ) → map f list ≡ map g list
map_same f g same [] = refl
map_same f g same (n ∷ rest) = ap (λ x. x ∷ map f rest) (same n) ∙ ap (λ list. g n ∷ list) (map_same f g same rest)

pub living_bare : (system : SystemValue) (xs : List InstanceValue)
    → living_of system (map bare xs) ≡ living_of system xs
living_bare system xs =
    let numbers : List ℕ = range_with_len 0 (length system.processes) in
    let made : List (Option ℕ) → List ℕ → ℕ → Living =
    λ least counts given. record { least = least; counts = counts; given = given } in
    ap (λ l. made l (map (count_living (map bare xs)) numbers) (length (map bare xs)))
    (map_same (least_living (map bare xs)) (least_living xs) (least_bare xs) numbers)
    ∙ ap (λ l. made (map (least_living xs) numbers) l (length (map bare xs)))
    (map_same (count_living (map bare xs)) (count_living xs) (count_bare xs) numbers)
    ∙ ap (λ n. made (map (least_living xs) numbers) (map (count_living xs) numbers) n) (length-map xs bare)

pub world_bare : (g : RunState) → world_at (bare_whole g) ≡ world_at g
world_bare g =
    ap (λ living.
    record { system = g.system; clock = Some g.clock; living = Some living; effects = Some []; sent = None })
    (living_bare g.system g.instances)

-- ---- what is done

module _ (g : RunState) where
  put_bare : (n : ℕ) (item : Item)
      → bare_whole (record g { instances = change_at (with_put item) g.instances n })
      ≡ record g { instances = change_at (with_put item) (map bare g.instances) n }
  put_bare n item =
      ap (λ list. record g { instances = list }) (change_bare (with_put item) (λ i. refl) g.instances n)

  pub expiry_bare : (fuse : Fuse) (at n : ℕ)
      → bare_whole (record g { instances = change_at (with_expiry fuse at) g.instances n })
      ≡ record g { instances = change_at (with_expiry fuse at) (map bare g.instances) n }
  expiry_bare fuse at n =
      ap (λ list. record g { instances = list }) (change_bare (with_expiry fuse at) (λ i. refl) g.instances n)

  created_bare : (who : Identity) (values : List Value) (o : Option Process)
      → map bare (with_created g.system g.instances who values o)
      ≡ with_created g.system (map bare g.instances) who values o
  created_bare who values None = refl
  created_bare who values (Some process) =
      map-append bare g.instances (instance_of g.system process who values ∷ [])

  pub effect_bare : (effect : Effect) → bare_whole (after_effect g effect) ≡ after_effect (bare_whole g) effect
  effect_bare (Send (Instance n) item) = put_bare n item
  effect_bare (Send Env item) = refl
  effect_bare (Send Null item) = refl
  effect_bare (Send Nobody item) = refl
  effect_bare (Arm fuse) =
      by_test (nat_le fuse.due g.clock) where
        by_test : (b : Bool)
            → bare_whole (if b then record g { instances = change_at (with_expiry fuse g.clock) g.instances fuse.pid }
            else record g { fuses = with_fuse fuse g.fuses })
            ≡ (if b then record (bare_whole g) {
              instances = change_at (with_expiry fuse g.clock) (map bare g.instances) fuse.pid;
            } else record (bare_whole g) { fuses = with_fuse fuse g.fuses })
        by_test true = expiry_bare fuse g.clock fuse.pid
        by_test false = refl
  effect_bare (Create process number parent values) =
      ap (λ list. record g { instances = list })
      (created_bare (record { process = process; pid = number; parent = Of parent }) values
      (slice_get g.system.processes process.0))

pub effects_bare : (g : RunState) (effects : List Effect) → bare_whole (after_effects g effects) ≡ after_effects (bare_whole g) effects
effects_bare g [] = refl
effects_bare g (effect ∷ rest) =
    effects_bare (after_effect g effect) rest ∙ ap (λ h. after_effects h rest) (effect_bare g effect)

pub heard_bare : (g : RunState) (signal : Option ScriptSignal) → heard_effects (bare_whole g) signal ≡ heard_effects g signal
heard_bare g None = refl
heard_bare g (Some signal) =
    ap (λ (living : Living). Send
    (target_in g.system.routes signal.item.name source.Env signal.to living.least) signal.item ∷ [])
    (living_bare g.system g.instances)

-- ---- two that are the same, but for what owners know

pub partner : (g h : RunState) (n : ℕ) (i : InstanceValue) → bare_whole g ≡ bare_whole h
    → instance_at g.instances n ≡ Some i
    → (j : InstanceValue) × (instance_at h.instances n ≡ Some j) × (bare i ≡ bare j)
partner g h n i same there =
    let is : option_map bare (instance_at h.instances n) ≡ Some (bare i) =
    sym (at_bare h.instances n)
    ∙ ap (λ (x : RunState). instance_at x.instances n) (sym same)
    ∙ at_bare g.instances n
    ∙ ap (λ o. option_map bare o) there in
    by_option (instance_at h.instances n) refl is where
      by_option : (o : Option InstanceValue) → instance_at h.instances n ≡ o → option_map bare o ≡ Some (bare i)
          → (j : InstanceValue) × (instance_at h.instances n ≡ Some j) × (bare i ≡ bare j)
      by_option None found is = absurd (none-some (bare i) is)
      by_option (Some j) found is = (j, found, sym (same_Some (bare j) (bare i) is))

-- as many instances
pub as_many : (g h : RunState) → bare_whole g ≡ bare_whole h → length g.instances ≡ length h.instances
as_many g h same =
    sym (length-map g.instances bare) ∙ ap (λ (x : RunState). length x.instances) same ∙ length-map h.instances bare

pub world_same : (g h : RunState) → bare_whole g ≡ bare_whole h → world_at g ≡ world_at h
world_same g h same = sym (world_bare g) ∙ ap world_at same ∙ world_bare h
