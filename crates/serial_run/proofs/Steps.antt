-- A step of an instance is a step of the whole.
use Rattle.std.proofs.Common.{◌≡◌, ◌≢◌, ◌∙◌, ◌+◌, ◌-◌, ◌<◌, ◌++◌, Bool, true, false, cond, ℕ, suc, List, [], ◌∷◌, Option, None, Some, refl, sym, ap, subst, arith, slice_get, set, length, length-append, map, replicate, append-nil, append_assoc}
use Rattle.std.specs.Option.{option_map}
use Rattle.port_model.specs.Ends.{OwnerState, single}
use Rattle.port_model.specs.declared.inbox.entry.Fuse.{Fuse}
use Rattle.port_model.specs.History.{Expire, PortEvent, Put, Take}
use Rattle.port_model.specs.Laws.{IsFromOutside}
use Rattle.port_model.specs.Port.{PortState}
use Rattle.port_model.specs.declared.taken.Taken.TheVariants.{Nothing}
use Rattle.serial_run.specs.StepWorld.{AreNumbered, effect_of, living_now, world_of}
use Rattle.serial_run.specs.declared.world.step_world.SerialWorld.{SerialWorld}
use Rattle.serial_order.proofs.Made.{MakeNext, deeds_make}
use Rattle.serial_order.proofs.Own.{later_none}
use Rattle.run_semantics.specs.Behaves.{AreBehaviours}
use Rattle.serial_order.specs.Execution.{Moved, Steps, is_transition}
use Rattle.serial_order.specs.RunState.{RunState, after_effects, world_at, living_of, instance_at, with_instance}
use Rattle.serial_run.proofs.LivingLemmas.{in_place}
use Rattle.serial_run.proofs.Thinning.{spent_with, thins_more}
use Rattle.serial_run.specs.Serial.{IsOfSystem, IsSerial, state_of}
use Rattle.serial_run.specs.Thinned.{IsThinned, is_spent_in}
use Rattle.serial_run.specs.declared.instances.Instances.{Instances}
use Rattle.run_record.specs.declared.evaluation.identity.Identity.{Identity}
use Rattle.run_record.specs.declared.evaluation.store.Store.{Store}
use Rattle.sdl_interp.specs.Instance.{InstanceValue, IsAtRest, IsIdle, IsQuietAt, IsRunAs, Keeps, Moves, work_of}
use Rattle.sdl_interp.specs.Stimulus.{WaitsAt}
use Rattle.run_semantics.proofs.Acting.{runs_effects}
use Rattle.run_semantics.proofs.Deeds.{after_deeds-effects}
use Rattle.run_semantics.proofs.Outside.{outside_of-append}
use Rattle.run_record.specs.Event.{Event}
use Rattle.run_semantics.specs.Effect.{Effect, Arm, Create, Deed, Send, effects_of, events_of}
use Rattle.run_semantics.specs.Goes.{Goes, IsOneStep, MachineValue, drawn_as}
use Rattle.run_semantics.specs.Leads.{IsQuiet}
use Rattle.run_semantics.specs.ControlPoint.{Definition, ControlPoint}
use Rattle.run_semantics.specs.Runs.{Runs, acts, hears, outside_of, still, turns, waits}
use Rattle.run_semantics.specs.World as world
use Rattle.run_semantics.specs.World.{WorldValue}
use Rattle.serial_run.specs.Clearing.{advances_cleared}
use Rattle.serial_run.specs.ExecutionLaws.{stays_noted}
use Rattle.serial_run.specs.Told.{NotesThese, NotesTurn}
use Rattle.serial_run.proofs.Places.{set_there}
use Rattle.serial_run.specs.Meanings.{Meaning, all_at, meaning_at, nothing_due, turn_by, turn_with}
use Rattle.serial_run.proofs.Refusals.{counts_is, refused_effects}
use Rattle.serial_run.proofs.SpentLemmas.{spent_runs}
use Rattle.serial_run.specs.Advances.{Advances, Reaches}
use Rattle.sdl_interp.specs.Machine.{place_of}
use Rattle.sdl_interp.specs.Work.{IsOf}
use Rattle.sdl_interp.specs.declared.transitions.machine.Position.{Position}
use Rattle.sdl_interp.specs.declared.transitions.machine.Position.TheVariants as at
use Rattle.serial_sweeps.specs.Sweeps.{IsTime, IsTurnBy, Moment}
use Rattle.sdl_system.specs.Behaviour.{Behaviour}
use Rattle.sdl_system.specs.System.{SystemValue}
use Rattle.sdl_system.specs.declared.process.Process.{Process}

-- ---- what a step did outside

effects_so_far : (w : WorldValue) (performed done : List Effect) → w.effects ≡ Some done
    → (world.after_effects w performed).effects ≡ Some (done ++ performed)
effects_so_far w [] done is = is ∙ ap Some (sym (append-nil done))
effects_so_far w (effect ∷ rest) done is =
    effects_so_far (world.after_effect w effect) rest (done ++ effect ∷ [])
    (ap (λ (o : Option (List Effect)). option_map (λ so_far. so_far ++ effect ∷ []) o) is)
    ∙ ap Some (append_assoc done (effect ∷ []) rest)

-- the acts of the world are those of the deeds
effects_done : (g : RunState) (v : WorldValue) (deeds : List Deed) (performed : List Effect) → v ≡ world.after_deeds (world_at g) deeds
    → v.effects ≡ Some performed → performed ≡ effects_of deeds
effects_done g v deeds performed is known =
    let all : v.effects ≡ Some ([] ++ effects_of deeds) =
    ap (λ (w : WorldValue). w.effects) (is ∙ after_deeds-effects (world_at g) deeds)
    ∙ effects_so_far (world_at g) (effects_of deeds) [] refl in
    let same : Some performed ≡ Some (effects_of deeds) = sym known ∙ all in
    cc

numbered : (system : SystemValue) (given : ℕ) (performed : List Effect) → MakeNext system given performed → AreNumbered given performed
numbered system given [] make = tt
numbered system given (Send target item ∷ rest) make = numbered system given rest make.1
numbered system given (Arm fuse ∷ rest) make = numbered system given rest make.1
numbered system given (Create process number parent values ∷ rest) make =
    (make.0.0, numbered system (given + 1) rest make.1)

-- ---- a step

-- the state after a step, before what it did outside is done
abbrev pub stepped : Moment → Instances → ℕ → ℕ → ℕ → InstanceValue → RunState
stepped m s place number bound new =
    record (state_of m s) { instances = set s.instances.items place new; turn = number; bound = bound }

-- the same deeds, of another shape
abbrev reshaped : {A B : List Deed → Type 0} {d : Definition} {from to : ControlPoint} {m n : MachineValue}
    {w v : WorldValue} → (goes : Goes A d from m w to n v) → B goes.deeds → Goes B d from m w to n v
reshaped goes shape = record {
  deeds = goes.deeds;
  news = goes.news;
  history = goes.history;
  shape = shape;
  who = goes.who;
  port = goes.port;
  pid = goes.pid;
  drawn = goes.drawn;
  fresh = goes.fresh;
  fresh_still = goes.fresh_still;
  outside = goes.outside;
  own = goes.own;
  recorded = goes.recorded;
  world = goes.world;
  time = goes.time;
  are_true = goes.are_true;
  runs = goes.runs;
}

was_transition : (counts : Bool) (left before : ℕ) → left + cond counts 1 0 ≡ before → 0 < before → left ≡ 0
    → counts ≡ true
was_transition true left before counted some spent = refl
was_transition false left before counted some spent = absurd (omega (arith, counted, some, spent))

-- The instance at a place made a step in its turn.
pub record Made (ready : List ℕ) (m : Moment) (s : Instances) (place number bound : ℕ) (old new : InstanceValue)
    (v : WorldValue) (performed : List Effect) : Type 0 where
  pub serial : IsSerial ready s
  pub time : IsTime ready m s.living.given number bound
  pub is_number : place + 1 ≡ number
  pub is_there : slice_get s.instances.items place ≡ Some old
  pub lives : old.position ≢ at.Ended
  pub keeps : Keeps old new
  pub undrawn : new.owner.drawn ≡ []
  pub known : v.effects ≡ Some performed

module _ (ready : List ℕ) (m n : Moment) (s t : Instances) (place number bound : ℕ) (old new : InstanceValue)
    (v : WorldValue) (performed : List Effect) (made : Made ready m s place number bound old new v performed) (last : ℕ)
    (k l : Option (List ℕ)) (noted : NotesTurn number old new k l) (ps : List Behaviour)
    (behaviours : AreBehaviours s.system.now ps) where
  found : Meaning ps old
  found = meaning_at ps s place old behaviours made.serial made.is_there

  abbrev d : Definition
  d = record { system = old.system; behaviour = found.p }

  abbrev Went : Bool → Type 0
  Went counts = Goes (IsOneStep counts) d (place_of old.position) (work_of old) (world_at (state_of m s))
      (place_of new.position) (work_of new) v

  number_is : number ≡ suc place
  number_is = omega (arith, made.is_number)

  pid_is : old.who.pid ≡ suc place
  pid_is = (in_place 0 s.instances.items place old made.serial.places made.is_there).0 ∙ omega arith

  -- it has as many events more as the deeds have
  more_events : (deeds : List Deed) → new.events ≡ old.events ++ events_of deeds
      → length new.events - length old.events ≡ length (events_of deeds)
  more_events deeds recorded =
      let all = ap (λ (events : List Event). length events) recorded in
      let two = length-append old.events (events_of deeds) in
      omega (arith, all, two)

  -- the state after the step, with these fuses, before what it did outside is done
  abbrev moved : List Fuse → ℕ → RunState
  moved fuses k = record (state_of m s) {
    instances = with_instance s.instances.items k new;
    turn = k;
    bound = bound;
    fuses = fuses;
  }

  thinned_moved : (counts : Bool) (goes : Went counts) (fuses : List Fuse)
      → IsThinned (record (state_of m s) { fuses = fuses }) (state_of m s)
      → IsThinned (moved fuses old.who.pid) (stepped m s place number bound new)
  thinned_moved counts goes fuses thinned =
      let xs = s.instances.items in
      let here : IsThinned (moved fuses (suc place)) (stepped m s place (suc place) bound new) = record {
        same = refl;
        in_order = thinned.in_order;
        thins = thins_more (is_spent_in xs) (is_spent_in (set xs place new))
            (λ fuse spent. spent_with fuse xs (suc place) old new made.is_there
            (λ was. spent_runs fuse.key fuse.arm fuse.due goes.runs was) spent) fuses m.fuses thinned.thins;
      } in
      subst (λ k. IsThinned (moved fuses k) (stepped m s place number bound new)) (sym pid_is)
      (subst (λ k. IsThinned (moved fuses (suc place)) (stepped m s place k bound new)) (sym number_is) here)

  goes_on : (counts : Bool) (goes : Went counts)
      → ((g : RunState) → IsThinned g (stepped m s place number bound new)
      → IsThinned (after_effects g (effects_of goes.deeds)) (state_of n t))
      → n.left + cond counts 1 0 ≡ m.left → t.system ≡ s.system → (g : RunState) → IsThinned g (state_of m s)
      → Advances ps last m s k g n t l
  goes_on counts goes now counted system =
      let counted_is = counts_is counts goes.deeds goes.shape in
      let due = nothing_due m s made.time.nothing_due in
      let transitions : n.left + cond (is_transition goes.deeds) 1 0 ≡ m.left =
      subst (λ b. n.left + cond b 1 0 ≡ m.left) (sym counted_is) counted in
      advances_cleared ps last m n s t k l due.fuses (λ fuses thinned none_due.
      let whole : RunState = record (state_of m s) { fuses = fuses } in
      let to : RunState = after_effects (moved fuses old.who.pid) (effects_of goes.deeds) in
      let step : Steps ps whole old.who goes.deeds to = record {
        old = old;
        new = new;
        p = found.p;
        bound = bound;
        world = v;
        is_there = ap (instance_at s.instances.items) pid_is ∙ made.is_there;
        is_who = refl;
        of_system = (all_at (IsOfSystem s.system.now) s.instances.items place old made.serial.members
            made.is_there).system_is;
        lives = made.lives;
        meant = found.meant;
        turn = turn_with ps (state_of m s) fuses old.who.pid bound
            (turn_by ps ready m s old.who.pid bound behaviours made.serial
            (subst (λ k. IsTurnBy ready m s.living.given k bound) (number_is ∙ sym pid_is) made.time.turn));
        nothing_due = record { fuses = none_due; lines = due.lines };
        keeps = made.keeps;
        undrawn = made.undrawn;
        goes = reshaped goes (subst (λ b. IsOneStep b goes.deeds) (sym counted_is) goes.shape);
        deeds_are = refl;
        now = refl;
      } in
      record {
        happened = Moved old.who goes.deeds;
        to = to;
        follows = step;
        thinned = now (moved fuses old.who.pid) (thinned_moved counts goes fuses thinned);
        counted = transitions;
        reached = λ spent. ap (λ b. cond b 1 0)
            (was_transition (is_transition goes.deeds) n.left m.left transitions made.time.some spent);
        noted = subst (λ one. NotesThese k (replicate (length (events_of goes.deeds)) one) l) (number_is ∙ sym pid_is)
            (subst (λ count. NotesThese k (replicate count number) l) (more_events goes.deeds goes.recorded) noted);
        system = system;
      })

  -- a transition: what it did outside is done
  counting : Moves true old (world_at (state_of m s)) new v
      → ((g : RunState) → IsThinned g (stepped m s place number bound new)
      → AreNumbered (length s.instances.items) performed → IsThinned (after_effects g performed) (state_of n t))
      → n.left + 1 ≡ m.left → t.system ≡ s.system → (g : RunState) → IsThinned g (state_of m s)
      → Advances ps last m s k g n t l
  counting moves now counted system =
      let goes = moves d found.meant.is_run in
      let effects_are = effects_done (state_of m s) v goes.deeds performed goes.world made.known in
      let make = deeds_make old.system old.who (world_at (state_of m s)) (living_of s.system.now s.instances.items) old.store.time
      goes.deeds refl (runs_effects d old.who (place_of old.position) old.store old.owner.state goes.runs)
      goes.are_true in
      let numbers = numbered s.system.now (length s.instances.items) (effects_of goes.deeds) make in
      goes_on true goes
      (λ g thinned. subst (λ (done : List Effect). IsThinned (after_effects g done) (state_of n t)) effects_are
      (now g thinned (subst (AreNumbered (length s.instances.items)) (sym effects_are) numbers)))
      counted system

  -- what fails the instance in a state, which does nothing outside
  failing : Moves false old (world_at (state_of m s)) new v
      → state_of n t ≡ stepped m s place number bound new → n.left ≡ m.left → t.system ≡ s.system
      → (g : RunState) → IsThinned g (state_of m s) → Advances ps last m s k g n t l
  failing moves now counted system =
      let goes = moves d found.meant.is_run in
      let none = refused_effects d old.who (place_of old.position) (place_of new.position) old.store new.store
      old.owner.state new.owner.state goes.deeds goes.history goes.runs goes.shape in
      goes_on false goes
      (λ g thinned. subst (λ (done : List Effect). IsThinned (after_effects g done) (state_of n t)) (sym none)
      (subst (IsThinned g) (sym now) thinned))
      (omega (arith, counted)) system

pub step_counts : (ready : List ℕ) (m n : Moment) (s t : Instances) (place number bound : ℕ) (old new : InstanceValue)
    (v : WorldValue) (performed : List Effect)
    → Made ready m s place number bound old new v performed → Moves true old (world_at (state_of m s)) new v
    → ((g : RunState) → IsThinned g (stepped m s place number bound new)
    → AreNumbered (length s.instances.items) performed → IsThinned (after_effects g performed) (state_of n t))
    → n.left + 1 ≡ m.left → t.system ≡ s.system → (last : ℕ) (k l : Option (List ℕ))
    → NotesTurn number old new k l → Reaches last m s k n t l
step_counts ready m n s t place number bound old new v performed made moves now counted system =
    λ last k l noted ps behaviours.
    counting ready m n s t place number bound old new v performed made last k l noted ps behaviours moves now counted
    system

pub step_fails : (ready : List ℕ) (m n : Moment) (s t : Instances) (place number bound : ℕ) (old new : InstanceValue)
    (v : WorldValue) (performed : List Effect)
    → Made ready m s place number bound old new v performed → Moves false old (world_at (state_of m s)) new v
    → state_of n t ≡ stepped m s place number bound new → n.left ≡ m.left → t.system ≡ s.system
    → (last : ℕ) (k l : Option (List ℕ)) → NotesTurn number old new k l → Reaches last m s k n t l
step_fails ready m n s t place number bound old new v performed made moves now counted system =
    λ last k l noted ps behaviours.
    failing ready m n s t place number bound old new v performed made last k l noted ps behaviours moves now counted
    system

-- ---- waiting

-- an owner for one thread
abbrev pub IsAlone : OwnerState → Type 0
IsAlone o = o ≡ single o.pid o.state o.armed

snoc_none : {X : Type 0} (xs : List X) (x : X) → xs ++ x ∷ [] ≡ [] → ⊥
snoc_none [] x e = cc
snoc_none (first ∷ xs) x e = cc

first_none : {X : Type 0} (first later : List X) → first ++ later ≡ [] → first ≡ []
first_none [] later e = refl
first_none (x ∷ xs) later e = let no : ⊥ = cc in absurd no

heard_outside : (heard : PortEvent) → IsFromOutside heard → outside_of (heard ∷ []) ≡ [] → ⊥
heard_outside (Put item) outside none = cc
heard_outside (Expire key arm due at) outside none = cc
heard_outside event outside none = outside

-- where nothing is done and nothing comes the port stays as it is
port_stays : {d : Definition} {who : Identity} {from : ControlPoint} {s : Store} {q : PortState} {deeds : List Deed}
    {history : List PortEvent} {to : ControlPoint} {t : Store} {r : PortState} → Runs d who from s q deeds history to t r
    → deeds ≡ [] → outside_of history ≡ [] → r ≡ q
port_stays still none quiet = refl
port_stays (acts {deeds = deeds} run deed to t r leads legal) none quiet = absurd (snoc_none deeds deed none)
port_stays (turns run to t step) none quiet = port_stays run none quiet
port_stays (hears {history = history} run heard r outside step) none quiet =
    absurd (heard_outside heard outside
    (later_none (outside_of history) (outside_of (heard ∷ [])) (sym (outside_of-append history (heard ∷ [])) ∙ quiet)))
port_stays (waits {history = history} run classes is_quiet step) none quiet =
    port_stays run none (first_none (outside_of history) (outside_of (Take classes Nothing ∷ []))
    (sym (outside_of-append history (Take classes Nothing ∷ [])) ∙ quiet))

-- whoever waits stays as it is
waited : (d : Definition) (position : Position) (m n : MachineValue) (w v : WorldValue) → WaitsAt d position m w n v
    → IsAlone m.owner → IsAlone n.owner → n ≡ m
waited d at.BeforeStart m n w v waiting one other = absurd waiting
waited d at.Ended m n w v waiting one other = absurd waiting
waited d (at.In state) m n w v waiting one other =
    let undrawn : m.owner.drawn ++ waiting.news ≡ [] = sym waiting.drawn ∙ ap (λ (o : OwnerState). o.drawn) other in
    let none : waiting.news ≡ [] = later_none m.owner.drawn waiting.news undrawn in
    let quiet : outside_of waiting.history ≡ [] = waiting.outside ∙ ap (drawn_as m.owner.pid) none in
    let port : n.owner.state ≡ m.owner.state = port_stays waiting.runs refl quiet in
    let owner : n.owner ≡ m.owner =
    other ∙ (λ i. single (waiting.pid i) (port i) (waiting.armed i)) ∙ sym one in
    λ i. record { who = waiting.who i; store = waiting.store i; owner = owner i; events = waiting.recorded i }

pub step_idles : {ready : List ℕ} (m n : Moment) (s t : Instances) (place : ℕ) (old new : InstanceValue)
    (v : WorldValue) → IsSerial ready s
    → slice_get s.instances.items place ≡ Some old → Keeps old new → IsAlone old.owner → IsAlone new.owner
    → IsIdle old (world_at (state_of m s)) new v
    → state_of n t ≡ record (state_of m s) { instances = set s.instances.items place new } → n.left ≡ m.left
    → t.system ≡ s.system → (last number : ℕ) (k l : Option (List ℕ)) → NotesTurn number old new k l
    → Reaches last m s k n t l
step_idles m n s t place old new v serial there keeps one other idle now left system =
    λ last number k l noted ps behaviours g thinned.
    let found = meaning_at ps s place old behaviours serial there in
    let work : work_of new ≡ work_of old =
    waited (record { system = old.system; behaviour = found.p }) old.position (work_of old) (work_of new)
    (world_at (state_of m s)) v (idle.1 (record { system = old.system; behaviour = found.p }) found.meant.is_run) one
    other in
    let same : new ≡ old = λ i. record {
      system = keeps.system i;
      process = keeps.process i;
      who = (work i).who;
      position = idle.0 i;
      store = (work i).store;
      owner = (work i).owner;
      events = (work i).events;
    } in
    let state : state_of n t ≡ state_of m s =
    now ∙ ap (λ xs. record (state_of m s) { instances = xs })
    (ap (set s.instances.items place) same ∙ set_there s.instances.items place old there) in
    let events : length new.events ≡ length old.events = ap (λ (i : InstanceValue). length i.events) same in
    let none : length new.events - length old.events ≡ 0 = omega (arith, events) in
    stays_noted last m n s t k l state left system
    (subst (λ count. NotesThese k (replicate count number) l) none noted) ps behaviours g thinned

quiet_at : (d : Definition) (position : Position) (old new : InstanceValue) (w v : WorldValue)
    → WaitsAt d position (work_of old) w (work_of new) v → Keeps old new → IsQuietAt d position new
quiet_at d at.BeforeStart old new w v waiting keeps = absurd waiting
quiet_at d at.Ended old new w v waiting keeps = absurd waiting
quiet_at d (at.In n) old new w v waiting keeps = (
  waiting.classes,
  subst (λ (store : Store). IsQuiet d new.who new.owner.state n store waiting.classes) (sym waiting.store)
      (subst (λ (who : Identity). IsQuiet d who new.owner.state n old.store waiting.classes) (sym keeps.who)
      waiting.quiet),
)

-- whoever waits is at rest
pub idle_rests : (old new : InstanceValue) (w v : WorldValue) → Keeps old new → IsIdle old w new v → IsAtRest new
idle_rests old new w v keeps idle = λ d is_run.
    let was : IsRunAs old d = subst (λ (system : SystemValue). IsOf system old.process d) keeps.system
    (subst (λ (process : Process). IsOf new.system process d) keeps.process is_run) in
    subst (λ (position : Position). IsQuietAt d position new) (sym idle.0)
    (quiet_at d old.position old new w v (idle.1 d was) keeps)

-- and so is one that has ended
pub ended_rests : (i : InstanceValue) → i.position ≡ at.Ended → IsAtRest i
ended_rests i ended = λ d is_run. subst (λ (position : Position). IsQuietAt d position i) (sym ended) tt

-- what the instance sees is the whole, as it is now
pub world_is : {ready : List ℕ} (m : Moment) (s : Instances) (w : SerialWorld) → IsSerial ready s
    → w.system.now ≡ s.system.now → w.clock ≡ m.clock → w.begun.now ≡ s.living → w.changed ≡ None
    → w.effects.now.items ≡ [] → world_of w ≡ world_at (state_of m s)
world_is m s w serial system clock begun changed performed =
    let living = begun ∙ serial.living in
    λ i. record {
      system = system i;
      clock = Some (clock i);
      living = Some (living_now (changed i) (living i));
      effects = Some (map effect_of (performed i));
      sent = None;
    }
