-- Each event is told once.
use Rattle.std.proofs.Common.{◌≡◌, ◌∙◌, ◌+◌, ◌<◌, ◌++◌, ◌==◌, Bool, true, false, cond, if◌then◌else◌, ℕ, zero, suc, List, [], ◌∷◌, Option, None, Some, ap, append-nil, arith, inl, inr, length, map, nat_eq, nat_le, refl, set, slice_get, subst, sym}
use Rattle.std.proofs.lemmas.List.{length-append, length-map, length-set}
use Rattle.std.proofs.lemmas.Option.{slice_get_within}
use Rattle.port_model.specs.declared.inbox.entry.Fuse.{Fuse}
use Rattle.run_record.specs.declared.evaluation.identity.Identity.{Identity}
use Rattle.run_order.proofs.Chronicles.{tellers_of-push}
use Rattle.run_order.proofs.Happenings.{set_number}
use Rattle.run_order.proofs.Keeping.{at_push, at_set}
use Rattle.run_order.specs.Interleaving.{Expired, Follows, Happening, Heard, Interleaving, Looked, Moved, Moves, Ticked, Told, begins, goes, teller_of, tellers_of}
use Rattle.run_order.specs.OrderLaws.{EachIsToldOnce, told_of}
use Rattle.run_order.specs.OrderState.{OrderState, after_pending, armed, beginning, change_at, changed_at, expired, fresh, heard, living_of, member_at, sent_to, with_created, with_member}
use Rattle.run_order.specs.Pending.{all_pending, behind_first, pending_by}
use Rattle.run_order.specs.declared.member.Member.{Member}
use Rattle.run_order.specs.declared.pending.Pending.{Pending}
use Rattle.run_order.specs.declared.pending.Pending.TheVariants as pending
use Rattle.port_model.specs.declared.values.item.Item.{Item}
use Rattle.port_model.specs.declared.values.pid.Pid.TheVariants as pid
use Rattle.port_model.specs.declared.values.value.Value.{Value}
use Rattle.run_record.specs.Event as event
use Rattle.run_record.specs.Event.{Event, is_beginning}
use Rattle.run_semantics.specs.Effect.{Deed, Effect, events_of}
use Rattle.run_semantics.specs.Goes.{IsFirst, IsOneStep}
use Rattle.sdl_interp.specs.Instance.{InstanceValue}
use Rattle.sdl_script.specs.declared.script.ScriptLine.{ScriptLine}
use Rattle.sdl_script.specs.declared.script.ScriptSignal.{ScriptSignal}
use Rattle.sdl_system.specs.Behaviour.{Behaviour}
use Rattle.sdl_system.specs.System.{SystemValue}
use Rattle.sdl_system.specs.declared.id.ProcessId.{ProcessId}
use Rattle.sdl_system.specs.declared.process.Process.{Process}
use Rattle.sdl_system.specs.Route.{target_in}
use Rattle.sdl_system.specs.declared.route.Source.TheVariants as source
use Rattle.sdl_system.specs.declared.route.Target.{Target}
use Rattle.sdl_system.specs.declared.route.Target.TheVariants.{Env, Instance, Nobody, Null}
use Rattle.sdl_timers.specs.DueOrder.{with_fuse}
use Rattle.serial_order.specs.Execution.{is_transition}
use Rattle.serial_order.specs.RunState.{first_instances, first_of, instance_of, with_expiry, with_put}

-- ---- how many are told

told_append : (xs ys : List ℕ) (number : ℕ) → told_of (xs ++ ys) number ≡ told_of xs number + told_of ys number
told_append [] ys number = omega arith
told_append (x ∷ xs) ys number =
    let rest = told_append xs ys number in
    let one = cond (x == number) 1 0 in
    let sum : one + told_of (xs ++ ys) number ≡ one + told_of xs number + told_of ys number = omega (arith, rest) in
    sum

same_number : (number : ℕ) → nat_eq number number ≡ true
same_number number = grind arith

other_number : (one number : ℕ) → (number ≡ one → ⊥) → nat_eq one number ≡ false
other_number one number apart = grind arith

told_self : (number : ℕ) → told_of (number ∷ []) number ≡ 1
told_self number = ap (λ b. cond b 1 0 + 0) (same_number number)

told_other : (one number : ℕ) → (number ≡ one → ⊥) → told_of (one ∷ []) number ≡ 0
told_other one number apart = ap (λ b. cond b 1 0 + 0) (other_number one number apart)

-- ---- the instances

-- Of each of these so many are told as it has, and of others none.
record AreTold (tellers : List ℕ) (members : List Member) : Type 0 where
  there : (place : ℕ) (m : Member) → slice_get members place ≡ Some m
      → told_of tellers (place + 1) + length m.pending ≡ length m.instance.events
  others : (number : ℕ) → length members < number → told_of tellers number ≡ 0

-- one is changed, and these are told of it
told_set : (tellers more : List ℕ) (members : List Member) (place : ℕ) (old new : Member) → AreTold tellers members
    → slice_get members place ≡ Some old
    → told_of more (place + 1) + length new.pending + length old.instance.events
    ≡ length old.pending + length new.instance.events
    → ((number : ℕ) → 0 < number → (number ≡ place + 1 → ⊥) → told_of more number ≡ 0)
    → AreTold (tellers ++ more) (set members place new)
told_set tellers more members place old new told there counted none =
    let inside : place < length members = slice_get_within members place old there in
    record {
      there = λ k m at. elim (at_set members place k new m at) [
        | inl w ↦
            let was = told.there place old there in
            let all : told_of (tellers ++ more) (place + 1) + length new.pending ≡ length new.instance.events =
            omega (arith, told_append tellers more (place + 1), was, counted) in
            subst (λ (one : Member). told_of (tellers ++ more) (k + 1) + length one.pending ≡ length
            one.instance.events)
            (sym w.1)
            (subst (λ n. told_of (tellers ++ more) (n + 1) + length new.pending ≡ length new.instance.events)
            (sym w.0) all)
        | inr w ↦
            let was = told.there k m w.1 in
            let zero_more = none (k + 1) (omega arith) (λ e. w.0 (omega (arith, e))) in
            omega (arith, told_append tellers more (k + 1), was, zero_more)
      ];
      others = λ number past.
          let far : length members < number = omega (arith, past, length-set members place new) in
          let was = told.others number far in
          let zero_more = none number (omega (arith, far)) (λ e. let no : ⊥ = omega (arith, e, far, inside) in no) in
          omega (arith, told_append tellers more number, was, zero_more);
    }

-- nothing is told of it
told_quietly : (tellers : List ℕ) (members : List Member) (place : ℕ) (old new : Member) → AreTold tellers members
    → slice_get members place ≡ Some old → length new.pending + length old.instance.events
    ≡ length old.pending + length new.instance.events → AreTold tellers (set members place new)
told_quietly tellers members place old new told there counted =
    subst (λ all. AreTold all (set members place new)) (append-nil tellers)
    (told_set tellers [] members place old new told there (omega (arith, counted)) (λ number above apart. refl))

-- the port of one is changed
told_change : (change : InstanceValue → InstanceValue) → ((i : InstanceValue) → (change i).events ≡ i.events)
    → (tellers : List ℕ) (members : List Member) (number : ℕ) → AreTold tellers members
    → AreTold tellers (change_at change members number)
told_change change same tellers members zero told = told
told_change change same tellers members (suc place) told = found (slice_get members place) refl where
  found : (o : Option Member) → slice_get members place ≡ o → AreTold tellers (changed_at change members (suc place) o)
  found None at = told
  found (Some m) at =
      told_quietly tellers members place m (record m { instance = change m.instance }) told at
      (ap (λ (events : List Event). length m.pending + length events) (sym (same m.instance)))

told_push : (tellers : List ℕ) (members : List Member) (new : Member) → AreTold tellers members → new.pending ≡ []
    → new.instance.events ≡ [] → AreTold tellers (members ++ new ∷ [])
told_push tellers members new told done none = record {
  there = λ k m at. elim (at_push members new m k at) [
    | inl was ↦ told.there k m was
    | inr w ↦
        let no_pending : length m.pending ≡ 0 =
        ap (λ (one : Member). length one.pending) w.1 ∙ ap (λ (all : List Pending). length all) done in
        let no_events : length m.instance.events ≡ 0 =
        ap (λ (one : Member). length one.instance.events) w.1 ∙ ap (λ (all : List Event). length all) none in
        let nothing = told.others (k + 1) (omega (arith, w.0)) in
        omega (arith, no_pending, no_events, nothing)
  ];
  others = λ number past.
      let far : length members < number = omega (arith, past, length-append members (new ∷ [])) in
      told.others number far;
}

-- ---- what is done outside tells nothing

put_same : (item : Item) (i : InstanceValue) → (with_put item i).events ≡ i.events
put_same item i = refl

expiry_same : (fuse : Fuse) (at : ℕ) (i : InstanceValue) → (with_expiry fuse at i).events ≡ i.events
expiry_same fuse at i = refl

-- the instances stay told, and so does the script
record StaysTold (tellers : List ℕ) (g h : OrderState) : Type 0 where
  members : AreTold tellers g.members → AreTold tellers h.members
  script : h.script ≡ g.script

stays : (tellers : List ℕ) (g : OrderState) → StaysTold tellers g g
stays tellers g = record { members = λ told. told; script = refl }

sent_stays : (tellers : List ℕ) (g : OrderState) (target : Target) (item : Item)
    → StaysTold tellers g (sent_to g target item)
sent_stays tellers g (Instance number) item = record {
  members = told_change (with_put item) (put_same item) tellers g.members number;
  script = refl;
}
sent_stays tellers g Env item = stays tellers g
sent_stays tellers g Null item = stays tellers g
sent_stays tellers g Nobody item = stays tellers g

expired_stays : (tellers : List ℕ) (g : OrderState) (fuse : Fuse) → StaysTold tellers g (expired g fuse)
expired_stays tellers g fuse = record {
  members = told_change (with_expiry fuse g.clock) (expiry_same fuse g.clock) tellers g.members fuse.pid;
  script = refl;
}

armed_stays : (tellers : List ℕ) (g : OrderState) (fuse : Fuse) → StaysTold tellers g (armed g fuse)
armed_stays tellers g fuse = by_test (nat_le fuse.due g.clock) where
  by_test : (come : Bool)
      → StaysTold tellers g (if come then expired g fuse else record g { fuses = with_fuse fuse g.fuses })
  by_test true = expired_stays tellers g fuse
  by_test false = record { members = λ told. told; script = refl }

created_stays : (tellers : List ℕ) (g : OrderState) (who : Identity) (values : List Value) (process : Option Process)
    → StaysTold tellers g (with_created g who values process)
created_stays tellers g who values None = stays tellers g
created_stays tellers g who values (Some process) = record {
  members = λ told. told_push tellers g.members (fresh (instance_of g.system process who values)) told refl refl;
  script = refl;
}

pending_stays : (tellers : List ℕ) (g : OrderState) (who : Identity) (what : Pending)
    → StaysTold tellers g (after_pending g who what)
pending_stays tellers g who (pending.Send to target item) = sent_stays tellers g target item
pending_stays tellers g who (pending.Arm fuse) = armed_stays tellers g fuse
pending_stays tellers g who (pending.Create process number parent values) =
    created_stays tellers g (record { process = process; pid = number; parent = pid.Of parent }) values
    (slice_get g.system.processes process.0)
pending_stays tellers g who (pending.Full process) = stays tellers g
pending_stays tellers g who pending.End = record { members = λ told. told; script = refl }
pending_stays tellers g who pending.Inside = stays tellers g

heard_stays : (tellers : List ℕ) (g : OrderState) (signal : Option ScriptSignal)
    → StaysTold tellers g (heard g signal)
heard_stays tellers g None = stays tellers g
heard_stays tellers g (Some signal) =
    sent_stays tellers g (target_in g.system.routes signal.item.name source.Env signal.to (living_of g).least)
    signal.item

-- ---- a step

-- what begins a step is told with it
first_told : (e : Event) (done : List Effect) (more : List Pending) (counts : Bool) → IsFirst e
    → is_beginning e ≡ counts → cond counts 1 0 + length (behind_first (pending_by e done ∷ more)) ≡ suc (length more)
first_told (event.Start at) done more counts first is = ap (λ b. cond b 1 0 + length more) (sym is) ∙ omega arith
first_told (event.Consumed at got) done more counts first is =
    ap (λ b. cond b 1 0 + length more) (sym is) ∙ omega arith
first_told (event.Prior at got) done more counts first is = ap (λ b. cond b 1 0 + length more) (sym is) ∙ omega arith
first_told (event.Discarded at got) done more counts first is =
    ap (λ b. cond b 1 0 + length more) (sym is) ∙ omega arith
first_told (event.Provided at number) done more counts first is =
    ap (λ b. cond b 1 0 + length more) (sym is) ∙ omega arith
first_told (event.FailedAt at why) done more counts first is =
    ap (λ b. cond b 1 0 + suc (length more)) (sym is) ∙ omega arith
first_told (event.Task variable value) done more counts first is = absurd first
first_told (event.Output signal to values target) done more counts first is = absurd first
first_told (event.Set key due) done more counts first is = absurd first
first_told (event.Reset key) done more counts first is = absurd first
first_told (event.Create process number) done more counts first is = absurd first
first_told (event.NextState state) done more counts first is = absurd first
first_told event.Stop done more counts first is = absurd first
first_told (event.Failed why) done more counts first is = absurd first
first_told (event.Rest state) done more counts first is = absurd first
first_told (event.Cut state) done more counts first is = absurd first

step_told : (counts : Bool) (deeds : List Deed) → IsOneStep counts deeds
    → cond counts 1 0 + length (behind_first (all_pending deeds)) ≡ length deeds
step_told counts [] one = absurd one
step_told counts (first ∷ rest) one =
    let more : length (all_pending rest) ≡ length rest = length-map rest _ in
    let all = first_told first.event first.effects (all_pending rest) counts one.0 one.1 in
    omega (arith, more, all)

told_by : (counts : Bool) (number : ℕ) → told_of (if counts then number ∷ [] else []) number ≡ cond counts 1 0
told_by true number = told_self number
told_by false number = refl

not_told_by : (counts : Bool) (one number : ℕ) → (number ≡ one → ⊥)
    → told_of (if counts then one ∷ [] else []) number ≡ 0
not_told_by true one number apart = told_other one number apart
not_told_by false one number apart = refl

-- there is a place where there is somebody
record IsPlaced (members : List Member) (number : ℕ) (m : Member) : Type 0 where
  place : ℕ
  is : place + 1 ≡ number
  is_there : slice_get members place ≡ Some m

placed : (members : List Member) (number : ℕ) (m : Member) → member_at members number ≡ Some m
    → IsPlaced members number m
placed members zero m there = let no : ⊥ = cc in absurd no
placed members (suc place) m there = record { place = place; is = omega arith; is_there = there }

told_moved : (tellers : List ℕ) (ps : List Behaviour) (g : OrderState) (who : Identity) (deeds : List Deed)
    (h : OrderState) → Moves ps g who deeds h → AreTold tellers g.members
    → AreTold (tellers ++ teller_of (Moved who deeds)) h.members
told_moved tellers ps g who deeds h moves told =
    let at = placed g.members who.pid moves.old moves.is_there in
    let counts = is_transition deeds in
    let changed : Member = record {
      instance = moves.new;
      pending = behind_first (all_pending deeds);
      looked = false;
    } in
    let members : h.members ≡ set g.members at.place changed =
    ap (λ (s : OrderState). s.members) moves.now ∙ set_number g.members who.pid at.place changed at.is in
    let shape : IsOneStep counts deeds = subst (IsOneStep counts) moves.deeds_are moves.goes.shape in
    let pending_is = step_told counts deeds shape in
    let none : length moves.old.pending ≡ 0 = ap (λ (all : List Pending). length all) moves.all_done in
    let recorded : length moves.new.events ≡ length moves.old.instance.events + length deeds =
    ap (λ (all : List Event). length all) moves.goes.recorded
    ∙ length-append moves.old.instance.events (events_of moves.goes.deeds)
    ∙ ap (λ n. length moves.old.instance.events + n)
    (length-map moves.goes.deeds _ ∙ ap (λ (all : List Deed). length all) moves.deeds_are) in
    let one : told_of (teller_of (Moved who deeds)) (at.place + 1) ≡ cond counts 1 0 =
    ap (told_of (teller_of (Moved who deeds))) at.is ∙ told_by counts who.pid in
    subst (λ all. AreTold (tellers ++ teller_of (Moved who deeds)) all) (sym members)
    (told_set tellers (teller_of (Moved who deeds)) g.members at.place moves.old changed told at.is_there
    (omega (arith, pending_is, none, recorded, one))
    (λ number above apart. not_told_by counts who.pid number (λ e. apart (omega (arith, e, at.is)))))

-- ---- one happening

goes_told : (lines : List ScriptLine) (tellers : List ℕ) (ps : List Behaviour) (g : OrderState) (next : Happening)
    (h : OrderState) → Follows ps g next h → AreTold tellers g.members
    → told_of tellers 0 + length g.script ≡ length lines
    → AreTold (tellers ++ teller_of next) h.members
    × (told_of (tellers ++ teller_of next) 0 + length h.script ≡ length lines)
goes_told lines tellers ps g (Moved who deeds) h moves told heard_so =
    let at = placed g.members who.pid moves.old moves.is_there in
    let script : length h.script ≡ length g.script = ap (λ (s : OrderState). length s.script) moves.now in
    let none = not_told_by (is_transition deeds) who.pid 0 (λ e. let no : ⊥ = omega (arith, e, at.is) in no) in (
      told_moved tellers ps g who deeds h moves told,
      omega (arith, told_append tellers (teller_of (Moved who deeds)) 0, none, heard_so, script),
    )
goes_told lines tellers ps g (Looked number) h looks told heard_so =
    let at = placed g.members number looks.old looks.is_there in
    let members : h.members ≡ set g.members at.place (record looks.old { looked = true }) =
    ap (λ (s : OrderState). s.members) looks.now
    ∙ set_number g.members number at.place (record looks.old { looked = true }) at.is in
    let script : length h.script ≡ length g.script = ap (λ (s : OrderState). length s.script) looks.now in (
      subst (λ all. AreTold all h.members) (sym (append-nil tellers))
          (subst (AreTold tellers) (sym members)
          (told_quietly tellers g.members at.place looks.old
          (record looks.old { looked = true }) told at.is_there refl)),
      omega (arith, told_append tellers [] 0, heard_so, script),
    )
goes_told lines tellers ps g (Told number what) h tells told heard_so =
    let at = placed g.members number tells.old tells.is_there in
    let changed : Member = record tells.old { pending = tells.later; looked = false } in
    let after : OrderState = record g { members = with_member g.members number changed } in
    let all = tellers ++ number ∷ [] in
    let pending_is : length tells.old.pending ≡ suc (length tells.later) =
    ap (λ (all : List Pending). length all) tells.next in
    let one : told_of (number ∷ []) (at.place + 1) ≡ 1 = ap (told_of (number ∷ [])) at.is ∙ told_self number in
    let members : with_member g.members number changed ≡ set g.members at.place changed =
    set_number g.members number at.place changed at.is in
    let so_far : AreTold all (with_member g.members number changed) =
    subst (AreTold all) (sym members)
    (told_set tellers (number ∷ []) g.members at.place tells.old changed told at.is_there
    (omega (arith, pending_is, one))
    (λ n above apart. told_other number n (λ e. apart (omega (arith, e, at.is))))) in
    let stayed = pending_stays all after tells.old.instance.who what in
    let script : length h.script ≡ length g.script =
    ap (λ (s : OrderState). length s.script) tells.now ∙ ap (λ (all : List ScriptLine). length all) stayed.script in
    let none = told_other number 0 (λ e. let no : ⊥ = omega (arith, e, at.is) in no) in (
      subst (λ (s : OrderState). AreTold all s.members) (sym tells.now) (stayed.members so_far),
      omega (arith, told_append tellers (number ∷ []) 0, none, heard_so, script),
    )
goes_told lines tellers ps g (Heard line) h hears told heard_so =
    let after : OrderState = record g { script = hears.later } in
    let all = tellers ++ 0 ∷ [] in
    let stayed = heard_stays all after line.signal in
    let so_far : AreTold all g.members = record {
      there = λ k m at.
          let was = told.there k m at in
          let none = told_other 0 (k + 1) (λ e. let no : ⊥ = omega (arith, e) in no) in
          omega (arith, told_append tellers (0 ∷ []) (k + 1), was, none);
      others = λ number past.
          let was = told.others number past in
          let none = told_other 0 number (λ e. let no : ⊥ = omega (arith, e, past) in no) in
          omega (arith, told_append tellers (0 ∷ []) number, was, none);
    } in
    let script : length h.script ≡ length hears.later =
    ap (λ (s : OrderState). length s.script) hears.now ∙ ap (λ (all : List ScriptLine). length all) stayed.script in
    let was : length g.script ≡ suc (length hears.later) = ap (λ (all : List ScriptLine). length all) hears.next in
    let one = told_self 0 in (
      subst (λ (s : OrderState). AreTold all s.members) (sym hears.now) (stayed.members so_far),
      omega (arith, told_append tellers (0 ∷ []) 0, one, heard_so, script, was),
    )
goes_told lines tellers ps g (Expired fuse) h expires told heard_so =
    let after : OrderState = record g { fuses = expires.later } in
    let stayed = expired_stays tellers after fuse in
    let script : length h.script ≡ length g.script = ap (λ (s : OrderState). length s.script) expires.now in (
      subst (λ all. AreTold all h.members) (sym (append-nil tellers))
          (subst (λ (s : OrderState). AreTold tellers s.members) (sym expires.now) (stayed.members told)),
      omega (arith, told_append tellers [] 0, heard_so, script),
    )
goes_told lines tellers ps g (Ticked time) h ticks told heard_so =
    let script : length h.script ≡ length g.script = ap (λ (s : OrderState). length s.script) ticks.now in (
      subst (λ all. AreTold all h.members) (sym (append-nil tellers))
          (subst (λ (s : OrderState). AreTold tellers s.members) (sym ticks.now) told),
      omega (arith, told_append tellers [] 0, heard_so, script),
    )

-- ---- the beginning

fresh_told : (xs : List InstanceValue) → ((place : ℕ) (i : InstanceValue) → slice_get xs place ≡ Some i → i.events ≡ [])
    → AreTold [] (map fresh xs)
fresh_told xs none = record {
  there = λ place m at. fresh_at xs place m at none;
  others = λ number past. refl;
} where
  fresh_at : (xs : List InstanceValue) (place : ℕ) (m : Member) → slice_get (map fresh xs) place ≡ Some m
      → ((place : ℕ) (i : InstanceValue) → slice_get xs place ≡ Some i → i.events ≡ [])
      → 0 + length m.pending ≡ length m.instance.events
  fresh_at [] place m at none = let no : ⊥ = cc in absurd no
  fresh_at (x ∷ xs) zero m at none =
      let is : fresh x ≡ m = cc in
      subst (λ (one : Member). 0 + length one.pending ≡ length one.instance.events) is
      (ap (λ (all : List Event). length all) (sym (none zero x refl)))
  fresh_at (x ∷ xs) (suc place) m at none = fresh_at xs place m at (λ k i there. none (suc k) i there)

-- whoever stands in the list has no event
abbrev HaveNone : List InstanceValue → Type 0
HaveNone xs = (place : ℕ) (i : InstanceValue) → slice_get xs place ≡ Some i → i.events ≡ []

none_append : (xs ys : List InstanceValue) → HaveNone xs → HaveNone ys → (place : ℕ) (i : InstanceValue)
    → slice_get (xs ++ ys) place ≡ Some i → i.events ≡ []
none_append [] ys first later place i there = later place i there
none_append (x ∷ xs) ys first later zero i there = first zero i there
none_append (x ∷ xs) ys first later (suc place) i there =
    none_append xs ys (λ k j is. first (suc k) j is) later place i there

none_of : (system : SystemValue) (number : ℕ) (id : ProcessId) (process : Process) (count place : ℕ)
    (i : InstanceValue) → slice_get (first_of system number id process count) place ≡ Some i → i.events ≡ []
none_of system number id process zero place i there = let no : ⊥ = cc in absurd no
none_of system number id process (suc more) zero i there =
    let is : instance_of system process (record { process = id; pid = number; parent = pid.Null }) [] ≡ i = cc in
    ap (λ (one : InstanceValue). one.events) (sym is)
none_of system number id process (suc more) (suc place) i there =
    none_of system (number + 1) id process more place i there

none_first : (system : SystemValue) (number id : ℕ) (processes : List Process)
    → HaveNone (first_instances system number id processes)
none_first system number id [] = λ place i there. let no : ⊥ = cc in absurd no
none_first system number id (process ∷ more) =
    none_append (first_of system number (record { 0 = id }) process process.initial)
    (first_instances system (number + process.initial) (id + 1) more)
    (none_of system number (record { 0 = id }) process process.initial)
    (none_first system (number + process.initial) (id + 1) more)

-- ---- all of them

module _ (ps : List Behaviour) (system : SystemValue) (lines : List ScriptLine) where
  all_told : {happenings : List Happening} {g : OrderState} → Interleaving ps (beginning system lines) happenings g
      → AreTold (tellers_of happenings) g.members
      × (told_of (tellers_of happenings) 0 + length g.script ≡ length lines)
  all_told begins = (
    fresh_told (first_instances system 1 0 system.processes) (none_first system 1 0 system.processes),
    omega arith,
  )
  all_told (goes {happenings = before} {at = at} run next to follows) =
      let so_far = all_told run in
      let more = goes_told lines (tellers_of before) ps at next to follows so_far.0 so_far.1 in
      subst (λ all. AreTold all to.members × (told_of all 0 + length to.script ≡ length lines))
      (sym (tellers_of-push before next)) more

pub each_is_told_once : EachIsToldOnce
each_is_told_once = λ ps system lines happenings g run.
    let all = all_told ps system lines run in
    record { instances = all.0.there; others = all.0.others; heard = all.1 }
