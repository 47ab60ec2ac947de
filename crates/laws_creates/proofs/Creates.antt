-- Which instances there are: those with which a system begins, and those that are created.
use Rattle.std.proofs.Common.{◌≡◌, ◌∙◌, ◌++◌, ◌+◌, ap, append-nil, append_assoc, arith, if◌then◌else◌, length-append, refl, subst, sym, ℕ, zero, suc, Bool, true, false, List, [], ◌∷◌, None, Option, Some, length, map, nat_le, set, slice_get}
use Rattle.std.proofs.lemmas.List.Concat.{flat_map-append}
use Rattle.std.proofs.lemmas.Option.{same_Some}
use Rattle.std.specs.List.{AllZip, flat_map}
use Rattle.port_model.specs.declared.values.pid.Pid.TheVariants.{Of}
use Rattle.port_model.specs.declared.values.value.Value.{Value}
use Rattle.serial_order.proofs.Made.{MakeNext, MakesNext, deeds_make}
use Rattle.serial_order.specs.Execution.{Execution, Expired, Follows, Happening, Heard, Moved, Steps, Ticked, begins, goes}
use Rattle.serial_order.specs.RunState.{RunState, after_effect, after_effects, world_at, beginning, living_of, change_at, changed_at, heard_effects, instance_at, instance_of, with_created, with_expiry, with_instance, with_put}
use Rattle.serial_order.specs.Report.{Closes}
use Rattle.serial_order.specs.Told.{given_after_one}
use Rattle.laws_creates.specs.Creates.{EachIsCreatedOnce, all_created, created_by, created_in, created_in_one, identities}
use Rattle.run_record.specs.declared.evaluation.identity.Identity.{Identity}
use Rattle.sdl_interp.specs.Instance.{InstanceValue}
use Rattle.run_record.specs.Event as event
use Rattle.run_record.specs.Event.{Event}
use Rattle.run_record.specs.Record.{RecordValue}
use Rattle.run_semantics.proofs.Acting.{AreActs, AreActsOf, runs_effects}
use Rattle.run_semantics.specs.Effect.{Effect, Arm, Create, Deed, Send, effects_of}
use Rattle.run_semantics.specs.ControlPoint.{Definition}
use Rattle.sdl_script.specs.declared.script.ScriptLine.{ScriptLine}
use Rattle.sdl_script.specs.declared.script.ScriptSignal.{ScriptSignal}
use Rattle.sdl_interp.specs.Machine.{identity_of, place_of}
use Rattle.sdl_system.specs.Behaviour.{Behaviour}
use Rattle.sdl_system.specs.System.{SystemValue}
use Rattle.sdl_system.specs.declared.id.ProcessId.{ProcessId}
use Rattle.sdl_system.specs.declared.process.Process.{Process}
use Rattle.sdl_system.specs.declared.route.Target.TheVariants.{Env, Instance, Nobody, Null}
use Rattle.sdl_timers.specs.DueOrder.{with_fuse}

-- ---- one is changed

-- one that stays who it is
who_set : (xs : List InstanceValue) (k : ℕ) (old new : InstanceValue) → slice_get xs k ≡ Some old
    → new.who ≡ old.who → identities (set xs k new) ≡ identities xs
who_set [] k old new there same = refl
who_set (x ∷ xs) zero old new there same =
    let is : old ≡ x = sym (same_Some x old there) in
    ap (λ (who : Identity). who ∷ identities xs) (same ∙ ap (λ (j : InstanceValue). j.who) is)
who_set (x ∷ xs) (suc k) old new there same =
    ap (λ (whos : List Identity). x.who ∷ whos) (who_set xs k old new there same)

who_with : (xs : List InstanceValue) (n : ℕ) (old new : InstanceValue) → instance_at xs n ≡ Some old
    → new.who ≡ old.who → identities (with_instance xs n new) ≡ identities xs
who_with xs zero old new there same = refl
who_with xs (suc k) old new there same = who_set xs k old new there same

module _ (change : InstanceValue → InstanceValue) (keeps : (i : InstanceValue) → (change i).who ≡ i.who) where
  who_changed : (xs : List InstanceValue) (n : ℕ) (o : Option InstanceValue) → instance_at xs n ≡ o
      → identities (changed_at change xs n o) ≡ identities xs
  who_changed xs n None is = refl
  who_changed xs n (Some i) is = who_with xs n i (change i) is (keeps i)

  who_change : (xs : List InstanceValue) (n : ℕ) → identities (change_at change xs n) ≡ identities xs
  who_change xs n = who_changed xs n (instance_at xs n) refl

pub who_append : (xs ys : List InstanceValue) → identities (xs ++ ys) ≡ identities xs ++ identities ys
who_append [] ys = refl
who_append (x ∷ xs) ys = ap (λ (whos : List Identity). x.who ∷ whos) (who_append xs ys)

-- the instances are as many as who they are
pub who_count : (xs : List InstanceValue) → length (identities xs) ≡ length xs
who_count [] = refl
who_count (x ∷ xs) = ap suc (who_count xs)

-- ---- acts

-- an act leaves the system as it is
pub effect_system : (g : RunState) (effect : Effect) → (after_effect g effect).system ≡ g.system
effect_system g (Send (Instance number) item) = refl
effect_system g (Send Env item) = refl
effect_system g (Send Null item) = refl
effect_system g (Send Nobody item) = refl
effect_system g (Arm fuse) =
    by_test (nat_le fuse.due g.clock)
    (record g { instances = change_at (with_expiry fuse g.clock) g.instances fuse.pid })
    (record g { fuses = with_fuse fuse g.fuses }) refl refl where
      by_test : (b : Bool) (now later : RunState) → now.system ≡ g.system → later.system ≡ g.system
          → (if b then now else later).system ≡ g.system
      by_test true now later first second = first
      by_test false now later first second = second
effect_system g (Create id number parent values) = refl

pub effects_system : (g : RunState) (done : List Effect) → (after_effects g done).system ≡ g.system
effects_system g [] = refl
effects_system g (effect ∷ rest) = effects_system (after_effect g effect) rest ∙ effect_system g effect

-- what a create of a process of the system does
pub create_is : (system : SystemValue) (g : RunState) (id : ProcessId) (number parent : ℕ) (values : List Value)
    (process : Process) → g.system ≡ system → slice_get system.processes id.0 ≡ Some process
    → after_effect g (Create id number parent values)
    ≡ record g {
      instances = g.instances
          ++ instance_of system process (record { process = id; pid = number; parent = Of parent }) values ∷ [];
    }
create_is system g id number parent values process same is =
    let who : Identity = record { process = id; pid = number; parent = Of parent } in
    ap (λ (o : Option Process). record g { instances = with_created g.system g.instances who values o })
    (ap (λ (s : SystemValue). slice_get s.processes id.0) same ∙ is)
    ∙ ap (λ (s : SystemValue). record g { instances = with_created s g.instances who values (Some process) }) same

-- whom an act creates
abbrev pub whom : Effect → List Identity
whom (Send target item) = []
whom (Arm fuse) = []
whom (Create process number parent values) = record { process = process; pid = number; parent = Of parent } ∷ []

-- what creates nobody
with_none : (whos others : List Identity) → others ≡ whos → others ≡ whos ++ []
with_none whos others same = same ∙ sym (append-nil whos)

module _ (system : SystemValue) where
  effect_who : (g : RunState) (effect : Effect) → g.system ≡ system → MakesNext system (length g.instances) effect
      → identities (after_effect g effect).instances ≡ identities g.instances ++ whom effect
  effect_who g (Send (Instance number) item) same makes =
      with_none (identities g.instances) (identities (change_at (with_put item) g.instances number))
      (who_change (with_put item) (λ i. refl) g.instances number)
  effect_who g (Send Env item) same makes = with_none (identities g.instances) (identities g.instances) refl
  effect_who g (Send Null item) same makes = with_none (identities g.instances) (identities g.instances) refl
  effect_who g (Send Nobody item) same makes = with_none (identities g.instances) (identities g.instances) refl
  effect_who g (Arm fuse) same makes =
      let changed : List InstanceValue = change_at (with_expiry fuse g.clock) g.instances fuse.pid in
      by_test (nat_le fuse.due g.clock) (record g { instances = changed }) (record g { fuses = with_fuse fuse g.fuses })
      (with_none (identities g.instances) (identities changed)
      (who_change (with_expiry fuse g.clock) (λ i. refl) g.instances fuse.pid))
      (with_none (identities g.instances) (identities g.instances) refl) where
        by_test : (b : Bool) (now later : RunState) → identities now.instances ≡ identities g.instances ++ []
            → identities later.instances ≡ identities g.instances ++ []
            → identities (if b then now else later).instances ≡ identities g.instances ++ []
        by_test true now later first second = first
        by_test false now later first second = second
  effect_who g (Create id number parent values) same makes =
      let who : Identity = record { process = id; pid = number; parent = Of parent } in
      let new : InstanceValue = instance_of system makes.1.process who values in
      ap (λ (h : RunState). identities h.instances)
      (create_is system g id number parent values makes.1.process same makes.1.is_there)
      ∙ who_append g.instances (new ∷ [])

  -- how many there are then
  pub effect_count : (g : RunState) (effect : Effect) → g.system ≡ system → MakesNext system (length g.instances) effect
      → length (after_effect g effect).instances ≡ given_after_one (length g.instances) effect
  effect_count g effect same makes =
      let all : List Identity = identities g.instances ++ whom effect in
      let count : length (identities (after_effect g effect).instances) ≡ length all =
      ap (λ (whos : List Identity). length whos) (effect_who g effect same makes) in
      let long : length all ≡ length (identities g.instances) + length (whom effect) =
      length-append (identities g.instances) (whom effect) in
      let after : length (after_effect g effect).instances ≡ length g.instances + length (whom effect) =
      omega (arith, count, long, who_count (after_effect g effect).instances, who_count g.instances) in
      after ∙ by_effect effect where
        by_effect : (effect : Effect) → length g.instances + length (whom effect) ≡ given_after_one (length g.instances) effect
        by_effect (Send target item) = omega arith
        by_effect (Arm fuse) = omega arith
        by_effect (Create process number parent values) = omega arith

  pub effects_who : (g : RunState) (done : List Effect) → g.system ≡ system → MakeNext system (length g.instances) done
      → identities (after_effects g done).instances ≡ identities g.instances ++ flat_map whom done
  effects_who g [] same make = sym (append-nil (identities g.instances))
  effects_who g (effect ∷ rest) same make =
      let h : RunState = after_effect g effect in
      let count : length h.instances ≡ given_after_one (length g.instances) effect =
      effect_count g effect same make.0 in
      effects_who h rest (effect_system g effect ∙ same) (subst (λ k. MakeNext system k rest) (sym count) make.1)
      ∙ ap (λ (whos : List Identity). whos ++ flat_map whom rest) (effect_who g effect same make.0)
      ∙ append_assoc (identities g.instances) (whom effect) (flat_map whom rest)

  heard_make : (given : ℕ) (g : RunState) (signal : Option ScriptSignal) → MakeNext system given (heard_effects g signal)
  heard_make given g None = tt
  heard_make given g (Some signal) = (tt, tt)

  heard_nobody : (g : RunState) (signal : Option ScriptSignal) → flat_map whom (heard_effects g signal) ≡ []
  heard_nobody g None = refl
  heard_nobody g (Some signal) = refl

-- ---- deeds

-- what an event does outside creates whom it tells
event_whom : (pid : ℕ) (e : Event) (done : List Effect) → AreActsOf pid e done → flat_map whom done ≡ created_by pid e
event_whom pid (event.Output signal named values target) done are = ap (λ list. flat_map whom list) are.1
event_whom pid (event.Set key due) done are = ap (λ list. flat_map whom list) are.1
event_whom pid (event.Create id None) done are = ap (λ list. flat_map whom list) are.1
event_whom pid (event.Create id (Some number)) done are = ap (λ list. flat_map whom list) are.1
event_whom pid (event.Start at) done are = ap (λ list. flat_map whom list) are
event_whom pid (event.Consumed at got) done are = ap (λ list. flat_map whom list) are
event_whom pid (event.Prior at got) done are = ap (λ list. flat_map whom list) are
event_whom pid (event.Discarded at got) done are = ap (λ list. flat_map whom list) are
event_whom pid (event.Provided at number) done are = ap (λ list. flat_map whom list) are
event_whom pid (event.FailedAt at why) done are = ap (λ list. flat_map whom list) are
event_whom pid (event.Task variable value) done are = ap (λ list. flat_map whom list) are
event_whom pid (event.Reset key) done are = ap (λ list. flat_map whom list) are
event_whom pid (event.NextState state) done are = ap (λ list. flat_map whom list) are
event_whom pid event.Stop done are = ap (λ list. flat_map whom list) are
event_whom pid (event.Failed why) done are = ap (λ list. flat_map whom list) are
event_whom pid (event.Rest state) done are = ap (λ list. flat_map whom list) are
event_whom pid (event.Cut state) done are = ap (λ list. flat_map whom list) are

pub deeds_whom : (pid : ℕ) (deeds : List Deed) → AreActs pid deeds
    → flat_map whom (effects_of deeds) ≡ flat_map (λ (deed : Deed). created_by pid deed.event) deeds
deeds_whom pid [] are = refl
deeds_whom pid (deed ∷ rest) are =
    flat_map-append whom deed.effects (effects_of rest)
    ∙ ap (λ (whos : List Identity). whos ++ flat_map whom (effects_of rest)) (event_whom pid deed.event deed.effects are.0)
    ∙ ap (λ (whos : List Identity). created_by pid deed.event ++ whos) (deeds_whom pid rest are.1)

-- ---- one happening

module _ (ps : List Behaviour) (g : RunState) (who : Identity) (deeds : List Deed) (h : RunState)
    (step : Steps ps g who deeds h) where
  -- what the deeds of a step do outside
  pub step_effects : AreActs who.pid deeds
  step_effects =
      let old : InstanceValue = step.old in
      let d : Definition = record { system = old.system; behaviour = step.p } in
      subst (λ (w : Identity). AreActs w.pid deeds) step.is_who
      (subst (λ (list : List Deed). AreActs old.who.pid list) step.deeds_are
      (runs_effects d old.who (place_of old.position) old.store old.owner.state step.goes.runs))

  -- they create the next numbers
  pub step_makes : (system : SystemValue) → g.system ≡ system → MakeNext system (length g.instances) (effects_of deeds)
  step_makes system same =
      let old : InstanceValue = step.old in
      let d : Definition = record { system = old.system; behaviour = step.p } in
      subst (λ (list : List Deed). MakeNext system (length g.instances) (effects_of list)) step.deeds_are
      (subst (λ (s : SystemValue). MakeNext s (length g.instances) (effects_of step.goes.deeds)) same
      (deeds_make old.system old.who (world_at g) (living_of g.system g.instances) old.store.time step.goes.deeds refl
      (runs_effects d old.who (place_of old.position) old.store old.owner.state step.goes.runs) step.goes.are_true))

  step_who : (system : SystemValue) → g.system ≡ system
      → identities h.instances ≡ identities g.instances ++ created_in_one (Moved who deeds)
  step_who system same =
      let stepped : RunState = record g {
        instances = with_instance g.instances who.pid step.new;
        turn = who.pid;
        bound = step.bound;
      } in
      let same_whos : identities stepped.instances ≡ identities g.instances =
      who_with g.instances who.pid step.old step.new step.is_there step.keeps.who in
      let count : length stepped.instances ≡ length g.instances =
      sym (who_count stepped.instances) ∙ ap (λ (whos : List Identity). length whos) same_whos
      ∙ who_count g.instances in
      ap (λ (h : RunState). identities h.instances) step.now
      ∙ effects_who system stepped (effects_of deeds) same
      (subst (λ k. MakeNext system k (effects_of deeds)) (sym count) (step_makes system same))
      ∙ ap (λ (whos : List Identity). whos ++ flat_map whom (effects_of deeds)) same_whos
      ∙ ap (λ (whos : List Identity). identities g.instances ++ whos) (deeds_whom who.pid deeds step_effects)

module _ (ps : List Behaviour) (system : SystemValue) (time : ℕ) where
  pub next_who : (g : RunState) (next : Happening) (h : RunState) → Follows ps time g next h → g.system ≡ system
      → identities h.instances ≡ identities g.instances ++ created_in_one next
  next_who g (Moved who deeds) h step same = step_who ps g who deeds h step system same
  next_who g (Expired fuse) h expires same =
      with_none (identities g.instances) (identities h.instances)
      (ap (λ (h : RunState). identities h.instances) expires.now
      ∙ who_change (with_expiry fuse g.clock) (λ i. refl) g.instances fuse.pid)
  next_who g (Heard line done) h hear same =
      let before : RunState = record g { script = hear.later } in
      let make : MakeNext system (length g.instances) done =
      subst (λ (list : List Effect). MakeNext system (length g.instances) list) (sym hear.effects_are)
      (heard_make system (length g.instances) g line.signal) in
      let nobody : flat_map whom done ≡ [] =
      ap (λ (list : List Effect). flat_map whom list) hear.effects_are ∙ heard_nobody system g line.signal in
      ap (λ (h : RunState). identities h.instances) hear.now
      ∙ effects_who system before done same make
      ∙ ap (λ (whos : List Identity). identities g.instances ++ whos) nobody
  next_who g (Ticked at) h tick same =
      with_none (identities g.instances) (identities h.instances)
      (ap (λ (h : RunState). identities h.instances) tick.now)

  next_system : (g : RunState) (next : Happening) (h : RunState) → Follows ps time g next h → h.system ≡ g.system
  next_system g (Moved who deeds) h step =
      ap (λ (h : RunState). h.system) step.now
      ∙ effects_system (record g {
        instances = with_instance g.instances who.pid step.new;
        turn = who.pid;
        bound = step.bound;
      }) (effects_of deeds)
  next_system g (Expired fuse) h expires = ap (λ (h : RunState). h.system) expires.now
  next_system g (Heard line done) h hear =
      ap (λ (h : RunState). h.system) hear.now ∙ effects_system (record g { script = hear.later }) done
  next_system g (Ticked at) h tick = ap (λ (h : RunState). h.system) tick.now

  -- the system stays the same
  pub system_kept : {lines : List ScriptLine} {happenings : List Happening} {last : RunState}
      → Execution ps time (beginning system lines) happenings last → last.system ≡ system
  system_kept begins = refl
  system_kept (goes {at = at} execution next to follows) = next_system at next to follows ∙ system_kept execution

-- ---- all that happened

created_in-more : (happenings : List Happening) (next : Happening)
    → created_in (happenings ++ next ∷ []) ≡ created_in happenings ++ created_in_one next
created_in-more happenings next =
    flat_map-append created_in_one happenings (next ∷ [])
    ∙ ap (λ (whos : List Identity). created_in happenings ++ whos) (append-nil (created_in_one next))

module _ (ps : List Behaviour) (system : SystemValue) (lines : List ScriptLine) (time : ℕ) where
  pub all_who : {happenings : List Happening} {last : RunState} → Execution ps time (beginning system lines) happenings last
      → identities last.instances ≡ all_created system happenings
  all_who begins = sym (append-nil (identities (beginning system lines).instances))
  all_who (goes {happenings = happenings} {at = at} execution next to follows) =
      let first : List Identity = identities (beginning system lines).instances in
      next_who ps system time at next to follows (system_kept ps system time execution)
      ∙ ap (λ (whos : List Identity). whos ++ created_in_one next) (all_who execution)
      ∙ append_assoc first (created_in happenings) (created_in_one next)
      ∙ ap (λ (whos : List Identity). first ++ whos) (sym (created_in-more happenings next))

-- the instances are those with which the system begins, and those that are created
pub each_is_created_once : EachIsCreatedOnce
each_is_created_once ps system lines time happenings last behaviours execution =
    all_who ps system lines time execution

-- ---- records

module _ (ps : List Behaviour) (whole : Bool) where
  closed_who : (i : InstanceValue) (trace : RecordValue) → Closes ps whole i trace → identity_of trace ≡ i.who
  closed_who i trace closes =
      λ k. record {
        process = closes.closed.process k;
        pid = closes.closed.pid k;
        parent = closes.closed.parent k;
      }

  pub records_who : (instances : List InstanceValue) (records : List RecordValue)
      → AllZip (Closes ps whole) instances records → map identity_of records ≡ identities instances
  records_who [] [] closes = refl
  records_who [] (trace ∷ records) closes = absurd closes
  records_who (i ∷ instances) [] closes = absurd closes
  records_who (i ∷ instances) (trace ∷ records) closes =
      ap (λ (who : Identity). who ∷ map identity_of records) (closed_who i trace closes.0)
      ∙ ap (λ (whos : List Identity). i.who ∷ whos) (records_who instances records closes.1)
