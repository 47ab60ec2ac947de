-- The moments of a serial run at which its instances do something outside.
use Rattle.std.proofs.Common.{◌≡◌, ◌∙◌, ◌&&◌, ◌||◌, ◌++◌, ◌<◌, ◌≤◌, ap, arith, if◌then◌else◌, inl, inr, nat_le, not, refl, subst, sym, ℕ, zero, suc, Bool, true, false, All, List, [], ◌∷◌, None, Option, Some, length, set, slice_get}
use Rattle.std.proofs.lemmas.List.Elements.{All-map}
use Rattle.std.proofs.lemmas.List.Folds.{list_any-append}
use Rattle.std.proofs.lemmas.Option.{none-some, same_Some, slice_get-map, slice_get_within}
use Rattle.std.specs.List.{list_any}
use Rattle.std.specs.Option.{option_map}
use Rattle.laws_creates.proofs.Creates.{system_kept}
use Rattle.laws_creates.proofs.Numbers.{all_numbered, effects_numbered}
use Rattle.laws_creates.specs.Creates.{created_in, created_in_one, identities}
use Rattle.laws_whole.proofs.Course.{IsOf, all_records, record_of, whos_are}
use Rattle.laws_whole.proofs.Ending.{ends_in_end}
use Rattle.laws_whole.proofs.Lists.{at_front, at_place}
use Rattle.laws_whole.proofs.Living.{IsMoment}
use Rattle.laws_whole.proofs.Occurs.{Occurs, deeds_of-append}
use Rattle.laws_whole.proofs.Whos.{born, first_within, front_amid, front_before, makes_before}
use Rattle.port_model.specs.Port.{empty_port}
use Rattle.port_model.specs.declared.values.pid.Pid.TheVariants as pid
use Rattle.port_model.specs.declared.values.value.Value.{Value}
use Rattle.run_record.specs.declared.evaluation.identity.Identity.{Identity}
use Rattle.run_record.specs.Event.{Event}
use Rattle.run_record.specs.Record.{RecordValue}
use Rattle.run_record.specs.declared.record.Report.{Report}
use Rattle.run_semantics.proofs.Deeds.{events_of-append}
use Rattle.run_semantics.specs.Behaves.{AreBehaviours}
use Rattle.run_semantics.specs.ControlPoint.{AtStart}
use Rattle.run_semantics.specs.Effect.{Arm, Create, Deed, Effect, Send, effects_of, events_of}
use Rattle.run_semantics.specs.Instance.{first_store}
use Rattle.sdl_interp.specs.Machine.{place_of}
use Rattle.sdl_interp.specs.declared.transitions.machine.Position.{Position}
use Rattle.sdl_interp.specs.declared.transitions.machine.Position.TheVariants as position
use Rattle.sdl_interp.specs.Instance.{InstanceValue, closing}
use Rattle.sdl_script.specs.Script.{end_of}
use Rattle.sdl_script.specs.declared.script.ScriptLine.{ScriptLine}
use Rattle.sdl_system.specs.Behaviour.{Behaviour}
use Rattle.sdl_system.specs.System.{SystemValue}
use Rattle.sdl_system.specs.declared.process.Process.{Process}
use Rattle.sdl_system.specs.declared.route.Target.TheVariants.{Env, Instance, Nobody, Null}
use Rattle.sdl_timers.specs.DueOrder.{with_fuse}
use Rattle.serial_order.specs.Execution.{Happening, Moved}
use Rattle.serial_order.specs.Laws.{EachIsTold}
use Rattle.serial_order.specs.Report.{IsSerialReport}
use Rattle.serial_order.specs.RunState.{RunState, after_effect, after_effects, beginning, change_at, changed_at, instance_at, instance_of, is_ended, with_created, with_expiry, with_put}
use Rattle.serial_order.specs.Told.{IsTold, deeds_of, history_of}
use Rattle.settle_meaning.specs.Closed.{EndsIn, IsEnd}
use Rattle.settle_meaning.specs.Identities.{identities_of, identity_of}
use Rattle.settle_meaning.specs.Living.{is_end, is_lasting, is_null}

-- ---- what is done outside leaves an instance who it is and where it is

pub record Kept (xs : List InstanceValue) (k : ℕ) (i : InstanceValue) : Type 0 where
  pub j : InstanceValue
  pub there : slice_get xs k ≡ Some j
  pub who : j.who ≡ i.who
  pub position : j.position ≡ i.position

kept_itself : (xs : List InstanceValue) (k : ℕ) (i : InstanceValue) → slice_get xs k ≡ Some i → Kept xs k i
kept_itself xs k i there = record { j = i; there = there; who = refl; position = refl }

module _ (change : InstanceValue → InstanceValue) (who : (i : InstanceValue) → (change i).who ≡ i.who)
    (position : (i : InstanceValue) → (change i).position ≡ i.position) where
  kept_set : (xs : List InstanceValue) (m k : ℕ) (v i : InstanceValue) → slice_get xs m ≡ Some v
      → slice_get xs k ≡ Some i → Kept (set xs m (change v)) k i
  kept_set [] m k v i is there = absurd (none-some i there)
  kept_set (x ∷ xs) zero zero v i is there =
      let same : v ≡ i = sym (same_Some x v is) ∙ same_Some x i there in
      record {
        j = change v;
        there = refl;
        who = who v ∙ ap (λ (j : InstanceValue). j.who) same;
        position = position v ∙ ap (λ (j : InstanceValue). j.position) same;
      }
  kept_set (x ∷ xs) zero (suc k) v i is there = kept_itself (change v ∷ xs) (suc k) i there
  kept_set (x ∷ xs) (suc m) zero v i is there = kept_itself (x ∷ set xs m (change v)) zero i there
  kept_set (x ∷ xs) (suc m) (suc k) v i is there =
      let kept : Kept (set xs m (change v)) k i = kept_set xs m k v i is there in
      record { j = kept.j; there = kept.there; who = kept.who; position = kept.position }

  kept_changed : (xs : List InstanceValue) (n k : ℕ) (i : InstanceValue) (o : Option InstanceValue)
      → instance_at xs n ≡ o → slice_get xs k ≡ Some i → Kept (changed_at change xs n o) k i
  kept_changed xs n k i None is there = kept_itself xs k i there
  kept_changed xs zero k i (Some v) is there = kept_itself xs k i there
  kept_changed xs (suc m) k i (Some v) is there = kept_set xs m k v i is there

  kept_change : (xs : List InstanceValue) (n k : ℕ) (i : InstanceValue) → slice_get xs k ≡ Some i
      → Kept (change_at change xs n) k i
  kept_change xs n k i there = kept_changed xs n k i (instance_at xs n) refl there

kept_created : (system : SystemValue) (xs : List InstanceValue) (who : Identity) (values : List Value)
    (o : Option Process) (k : ℕ) (i : InstanceValue) → slice_get xs k ≡ Some i
    → Kept (with_created system xs who values o) k i
kept_created system xs who values None k i there = kept_itself xs k i there
kept_created system xs who values (Some process) k i there =
    let new : InstanceValue = instance_of system process who values in
    kept_itself (xs ++ new ∷ []) k i (at_front xs (new ∷ []) k i there)

kept_effect : (g : RunState) (effect : Effect) (k : ℕ) (i : InstanceValue) → slice_get g.instances k ≡ Some i
    → Kept (after_effect g effect).instances k i
kept_effect g (Send (Instance number) item) k i there =
    kept_change (with_put item) (λ i. refl) (λ i. refl) g.instances number k i there
kept_effect g (Send Env item) k i there = kept_itself g.instances k i there
kept_effect g (Send Null item) k i there = kept_itself g.instances k i there
kept_effect g (Send Nobody item) k i there = kept_itself g.instances k i there
kept_effect g (Arm fuse) k i there =
    by_test (nat_le fuse.due g.clock)
    (record g { instances = change_at (with_expiry fuse g.clock) g.instances fuse.pid })
    (record g { fuses = with_fuse fuse g.fuses })
    (kept_change (with_expiry fuse g.clock) (λ i. refl) (λ i. refl) g.instances fuse.pid k i there)
    (kept_itself g.instances k i there) where
      by_test : (b : Bool) (now later : RunState) → Kept now.instances k i → Kept later.instances k i
          → Kept (if b then now else later).instances k i
      by_test true now later first second = first
      by_test false now later first second = second
kept_effect g (Create id number parent values) k i there =
    kept_created g.system g.instances (record { process = id; pid = number; parent = pid.Of parent }) values
    (slice_get g.system.processes id.0) k i there

kept_effects : (g : RunState) (done : List Effect) (k : ℕ) (i : InstanceValue) → slice_get g.instances k ≡ Some i
    → Kept (after_effects g done).instances k i
kept_effects g [] k i there = kept_itself g.instances k i there
kept_effects g (effect ∷ rest) k i there =
    let h : RunState = after_effect g effect in
    let first : Kept h.instances k i = kept_effect g effect k i there in
    let later : Kept (after_effects h rest).instances k first.j = kept_effects h rest k first.j first.there in
    record {
      j = later.j;
      there = later.there;
      who = later.who ∙ first.who;
      position = later.position ∙ first.position;
    }

-- ---- an end in the record

either_true : (a b : Bool) → a ≡ true → (a || b) ≡ true
either_true true b is = refl
either_true false b is = let wrong : ⊥ = cc in absurd wrong

or_true : (a b : Bool) → b ≡ true → (a || b) ≡ true
or_true true b is = refl
or_true false b is = is

ends_any : (events : List Event) → EndsIn IsEnd events → list_any is_end events ≡ true
ends_any events ends =
    ap (λ (l : List Event). list_any is_end l) ends.events_are
    ∙ list_any-append is_end ends.before (ends.last ∷ [])
    ∙ or_true (list_any is_end ends.before) (list_any is_end (ends.last ∷ []))
    (either_true (is_end ends.last) false ends.is_so)

first_any : (first later : List Event) → list_any is_end first ≡ true → list_any is_end (first ++ later) ≡ true
first_any first later is =
    list_any-append is_end first later ∙ either_true (list_any is_end first) (list_any is_end later) is

differ : true ≡ false → ⊥
differ same = cc

-- what would make a true that is false is itself false
or_not : (a b : Bool) → (a ≡ true → b ≡ true) → b ≡ false → a ≡ false
or_not true b says other = absurd (differ (sym (says refl) ∙ other))
or_not false b says other = refl

both_parts : (a b : Bool) → (a && not b) ≡ true → (a ≡ true) × (b ≡ false)
both_parts true true is = let wrong : ⊥ = cc in absurd wrong
both_parts true false is = (refl, refl)
both_parts false b is = let wrong : ⊥ = cc in absurd wrong

-- ---- the moment at which something happens

module _ (ps : List Behaviour) (system : SystemValue) (lines : List ScriptLine) (limit : ℕ) (report : Report)
    (behaviours : AreBehaviours system ps) (run : IsSerialReport ps system lines limit report)
    (each_told : EachIsTold) where
  abbrev records : List RecordValue
  records = report.records.items

  abbrev time : ℕ
  time = end_of lines

  whos : identities_of records ≡ identities run.last.instances
  whos = whos_are ps system lines limit report behaviours run each_told

  -- each is of a process that the system has
  pub own_processes : All (λ (who : Identity). who.process.0 < length system.processes) (identities_of records)
  own_processes =
      all_map
      (all_records ps system lines limit report behaviours run each_told
      (λ (trace : RecordValue). trace.process.0 < length system.processes)
      (λ k trace there of.
      slice_get_within system.processes trace.process.0 of.i.process
      (subst (λ (s : SystemValue). slice_get s.processes trace.process.0 ≡ Some of.i.process) of.system_is
      of.closes.closed.listed))) where
        all_map : All (λ (trace : RecordValue). trace.process.0 < length system.processes) records
            → All (λ (who : Identity). who.process.0 < length system.processes) (identities_of records)
        all_map all =
            All-map (λ (who : Identity). who.process.0 < length system.processes) identity_of records all

  module _ (next : Happening) (occurs : Occurs ps system lines time run.happenings next) where
    -- one that has ended before has an end in its record
    ended_any : (k : ℕ) (trace : RecordValue) → slice_get records k ≡ Some trace → (i : InstanceValue)
        → slice_get occurs.at.instances k ≡ Some i → is_ended i.position ≡ true → list_any is_end trace.events ≡ true
    ended_any k trace there i there_then over =
        let n : ℕ = suc k in
        let of : IsOf ps system lines limit report behaviours run each_told n trace =
        record_of ps system lines limit report behaviours run each_told k trace there in
        let told : IsTold ps i (deeds_of n occurs.before) (history_of system n occurs.before) =
        (each_told ps system lines time occurs.before occurs.at behaviours occurs.execution).each n i there_then in
        let first : List Deed = deeds_of n occurs.before in
        let later : List Deed = deeds_of n (next ∷ occurs.after) in
        let ends : EndsIn IsEnd (events_of first) =
        ends_in_end (record { system = i.system; behaviour = told.p }) i.who AtStart (first_store told.p told.values)
        empty_port refl told.runs (ap place_of (ended_is i.position over)) in
        ap (λ (l : List Event). list_any is_end l) of.events
        ∙ first_any (events_of (deeds_of n run.happenings)) (closing report.whole of.i.position)
        (ap (λ (l : List Happening). list_any is_end (events_of (deeds_of n l))) occurs.parted
        ∙ ap (λ (l : List Deed). list_any is_end (events_of l)) (deeds_of-append n occurs.before (next ∷ occurs.after))
        ∙ ap (λ (l : List Event). list_any is_end l) (events_of-append first later)
        ∙ first_any (events_of first) (events_of later) (ends_any (events_of first) ends)) where
          ended_is : (at : Position) → is_ended at ≡ true → at ≡ position.Ended
          ended_is position.BeforeStart is = let wrong : ⊥ = cc in absurd wrong
          ended_is (position.In n) is = let wrong : ⊥ = cc in absurd wrong
          ended_is position.Ended is = refl

    -- one of the first is there
    initial_there : (k : ℕ) (who : Identity) → slice_get (identities run.last.instances) k ≡ Some who
        → k < length (beginning system []).instances
        → (i : InstanceValue) × (slice_get occurs.at.instances k ≡ Some i) × (i.who ≡ who)
    initial_there k who in_last early =
        let xs : List InstanceValue = occurs.at.instances in
        let many : length (beginning system []).instances ≤ length xs =
        first_within ps system lines time occurs.execution in
        let at : (i : InstanceValue) × (slice_get xs k ≡ Some i) = at_place xs k (omega (arith, early, many)) in
        let own : slice_get (identities xs) k ≡ Some at.0.who =
        slice_get-map (λ (j : InstanceValue). j.who) xs k
        ∙ ap (λ (o : Option InstanceValue). option_map (λ (j : InstanceValue). j.who) o) at.1 in
        let whole : slice_get (identities run.last.instances) k ≡ Some at.0.who =
        ap (λ (l : List Identity). slice_get l k) (front_before ps system lines time run.execution next occurs)
        ∙ at_front (identities xs) (created_in_one next ++ created_in occurs.after) k at.0.who own in
        (at.0, at.1, same_Some at.0.who who (sym whole ∙ in_last))

    first_there : (k : ℕ) (trace : RecordValue) → slice_get records k ≡ Some trace → is_null trace.parent ≡ true
        → (i : InstanceValue) × (slice_get occurs.at.instances k ≡ Some i) × (i.who ≡ identity_of trace)
    first_there k trace there null =
        let who : Identity = identity_of trace in
        let in_last : slice_get (identities run.last.instances) k ≡ Some who =
        ap (λ (l : List Identity). slice_get l k) (sym whos)
        ∙ slice_get-map identity_of records k
        ∙ ap (λ (o : Option RecordValue). option_map identity_of o) there in
        elim (born ps system lines time run.happenings run.execution k who in_last) [
          | inl first ↦ initial_there k who in_last first.0
          | inr made ↦ absurd (differ (sym null ∙ ap is_null made.1.1))
        ]

    lasting_there : (k : ℕ) (trace : RecordValue) → slice_get records k ≡ Some trace → is_lasting trace ≡ true
        → (i : InstanceValue) × (slice_get occurs.at.instances k ≡ Some i) × (i.who ≡ identity_of trace)
        × (is_ended i.position ≡ false)
    lasting_there k trace there lasts =
        let parts = both_parts (is_null trace.parent) (list_any is_end trace.events) lasts in
        let found = first_there k trace there parts.0 in
        let lives : is_ended found.0.position ≡ false =
        or_not (is_ended found.0.position) (list_any is_end trace.events)
        (ended_any k trace there found.0 found.1) parts.1 in
        (found.0, found.1, found.2, lives)

    -- the instances before something happens
    pub moment_before : IsMoment records occurs.at.instances
    moment_before = record {
      numbered = all_numbered ps system time occurs.execution;
      front = record {
        rest = created_in_one next ++ created_in occurs.after;
        is = whos ∙ front_before ps system lines time run.execution next occurs;
      };
      lasting = lasting_there;
    }

  module _ (who : Identity) (before : List Deed) (deed : Deed) (after : List Deed)
      (occurs : Occurs ps system lines time run.happenings (Moved who (before ++ deed ∷ after))) where
    -- and before a deed of a step
    pub moment_amid : IsMoment records (after_effects occurs.at (effects_of before)).instances
    moment_amid =
        let front = front_amid ps system lines time run.execution who before deed after occurs in
        record {
          numbered = effects_numbered system occurs.at (effects_of before)
              (system_kept ps system time occurs.execution)
              (makes_before ps system lines time run.execution who before deed after occurs)
              (all_numbered ps system time occurs.execution);
          front = record { rest = front.rest; is = whos ∙ front.is };
          lasting = λ k trace there lasts.
              let found = lasting_there (Moved who (before ++ deed ∷ after)) occurs k trace there lasts in
              let kept : Kept (after_effects occurs.at (effects_of before)).instances k found.0 =
              kept_effects occurs.at (effects_of before) k found.0 found.1 in (
                kept.j,
                kept.there,
                kept.who ∙ found.2,
                ap (λ (at : Position). is_ended at) kept.position ∙ found.3,
              );
        }
