-- Each fuse that waits was armed by a set of its instance.
use Rattle.std.proofs.Common.{◌≡◌, ◌∙◌, ◌⊎◌, ◌++◌, append-nil, append_assoc, ap, if◌then◌else◌, inl, inr, refl, subst, sym, ℕ, nat_le, Bool, true, false, List, [], ◌∷◌, None, Option, Some}
use Rattle.std.specs.Prelude.{All, Contains}
use Rattle.std.proofs.lemmas.List.Elements.{All-nil, All-rest, All-weaker, Contains-append_left, Contains-append_right}
use Rattle.port_model.specs.declared.inbox.entry.Fuse.{Fuse}
use Rattle.port_model.specs.History.{PortEvent, Set}
use Rattle.port_model.specs.Port.{PortState}
use Rattle.port_model.specs.declared.values.value.Value.{Value}
use Rattle.serial_order.specs.Execution.{Execution, Expired, Follows, Happening, Heard, Moved, Steps, Ticked, begins, goes}
use Rattle.serial_order.specs.RunState.{RunState, after_effect, after_effects, beginning, change_at, heard_effects, with_expiry, with_instance}
use Rattle.serial_order.specs.Told.{Moment, comes_by, first_moment, history_from, history_of, history_of_one, moment_after}
use Rattle.run_record.specs.declared.evaluation.identity.Identity.{Identity}
use Rattle.run_record.specs.declared.evaluation.store.Store.{Store}
use Rattle.laws_timers.proofs.Arms.{Among, IsArmed, among_left, among_right, contained, happens_sets, same_Arm}
use Rattle.laws_timers.proofs.Dues.{moment_from}
use Rattle.laws_timers.proofs.Numbers.{eq_is}
use Rattle.laws_timers.specs.Fused.{FusesWereSet, WasSet}
use Rattle.run_record.specs.Event as event
use Rattle.run_record.specs.Event.{Event}
use Rattle.run_semantics.proofs.Acting.{AreActs, AreActsOf, runs_effects}
use Rattle.run_semantics.specs.Effect.{Effect, Arm, Create, Deed, Send, effects_of, calls_of}
use Rattle.run_semantics.specs.Leads.{created}
use Rattle.run_semantics.specs.ControlPoint.{Definition, ControlPoint}
use Rattle.run_semantics.specs.Runs.{Runs, acts, hears, still, turns, waits}
use Rattle.sdl_script.specs.declared.script.ScriptLine.{ScriptLine}
use Rattle.sdl_script.specs.declared.script.ScriptSignal.{ScriptSignal}
use Rattle.sdl_interp.specs.Machine.{place_of}
use Rattle.sdl_system.specs.Behaviour.{Behaviour}
use Rattle.sdl_system.specs.System.{SystemValue}
use Rattle.sdl_system.specs.declared.id.ProcessId.{ProcessId}
use Rattle.sdl_system.specs.declared.route.Target.TheVariants.{Env, Instance, Nobody, Null}
use Rattle.sdl_timers.proofs.Arming.{All-with_fuse}
use Rattle.sdl_timers.specs.DueOrder.{with_fuse}

-- ---- what deeds arm

-- the one call that sets the timer of a fuse
abbrev pub set_of : Fuse → PortEvent
set_of fuse = Set fuse.key fuse.due fuse.arm

-- the fuse is of this port, which has set its timer
pub record IsSetBy (pid : ℕ) (calls : List PortEvent) (fuse : Fuse) : Type 0 where
  pub own : fuse.pid ≡ pid
  pub call : Among (set_of fuse) calls

module _ (pid : ℕ) (fuse : Fuse) where
  none_arms : (calls : List PortEvent) (done : List Effect) → done ≡ [] → Among (Arm fuse) done → IsSetBy pid calls fuse
  none_arms calls done none is =
      let wrong : ⊥ = subst (λ (done : List Effect). Among (Arm fuse) done) none is in
      absurd wrong

  send_arms : (effect : Effect) (calls : List PortEvent) → Among (Arm fuse) (effect ∷ []) → (Arm fuse ≡ effect → ⊥)
      → IsSetBy pid calls fuse
  send_arms effect calls (inl same) other = absurd (other same)
  send_arms effect calls (inr none) other = absurd none

  create_arms : (id : ProcessId) (values : List Value) (number : Option ℕ) (calls : List PortEvent)
      → Among (Arm fuse) (created id pid values number) → IsSetBy pid calls fuse
  create_arms id values None calls is = absurd is
  create_arms id values (Some number) calls is =
      send_arms (Create id number pid values) calls is
      (λ same. let wrong : ⊥ = cc in wrong)

  set_arms : (one : Fuse) (calls : List PortEvent) → one.pid ≡ pid → calls ≡ set_of one ∷ []
      → Among (Arm fuse) (Arm one ∷ []) → IsSetBy pid calls fuse
  set_arms one calls own is (inr none) = absurd none
  set_arms one calls own is (inl armed) =
      let same : fuse ≡ one = same_Arm fuse one armed in
      subst (λ (f : Fuse). IsSetBy pid calls f) (sym same) (record {
        own = own;
        call = subst (λ (calls : List PortEvent). Among (set_of one) calls) (sym is) (inl refl);
      })

  event_arms : (e : Event) (calls : List PortEvent) (done : List Effect) → IsArmed pid e calls done → AreActsOf pid e done
      → Among (Arm fuse) done → IsSetBy pid calls fuse
  event_arms (event.Set key due) calls done armed are is =
      set_arms (record { pid = pid; key = key; arm = armed.0; due = due }) calls refl armed.1
      (subst (λ (done : List Effect). Among (Arm fuse) done) armed.2 is)
  event_arms (event.Output signal named values target) calls done armed are is =
      send_arms (Send target are.0) calls (subst (λ (done : List Effect). Among (Arm fuse) done) are.1 is)
      (λ same. let wrong : ⊥ = cc in wrong)
  event_arms (event.Create id number) calls done armed are is =
      create_arms id are.0 number calls (subst (λ (done : List Effect). Among (Arm fuse) done) are.1 is)
  event_arms (event.Start at) calls done armed are is = none_arms calls done are is
  event_arms (event.Consumed at got) calls done armed are is = none_arms calls done are is
  event_arms (event.Prior at got) calls done armed are is = none_arms calls done are is
  event_arms (event.Discarded at got) calls done armed are is = none_arms calls done are is
  event_arms (event.Provided at number) calls done armed are is = none_arms calls done are is
  event_arms (event.FailedAt at why) calls done armed are is = none_arms calls done are is
  event_arms (event.Task variable value) calls done armed are is = none_arms calls done are is
  event_arms (event.Reset key) calls done armed are is = none_arms calls done are is
  event_arms (event.NextState state) calls done armed are is = none_arms calls done are is
  event_arms event.Stop calls done armed are is = none_arms calls done are is
  event_arms (event.Failed why) calls done armed are is = none_arms calls done are is
  event_arms (event.Rest state) calls done armed are is = none_arms calls done are is
  event_arms (event.Cut state) calls done armed are is = none_arms calls done are is

-- what each of several deeds sets it arms
abbrev AreArmed : ℕ → List Deed → Type 0
AreArmed pid [] = Unit {0}
AreArmed pid (deed ∷ rest) = IsArmed pid deed.event deed.calls deed.effects × AreArmed pid rest

AreArmed-append : (pid : ℕ) (first later : List Deed) → AreArmed pid first → AreArmed pid later
    → AreArmed pid (first ++ later)
AreArmed-append pid [] later are more = more
AreArmed-append pid (deed ∷ rest) later are more = (are.0, AreArmed-append pid rest later are.1 more)

module _ (d : Definition) (who : Identity) (from : ControlPoint) (s : Store) (q : PortState) where
  runs_armed : {deeds : List Deed} {history : List PortEvent} {to : ControlPoint} {t : Store} {r : PortState}
      → Runs d who from s q deeds history to t r → AreArmed who.pid deeds
  runs_armed still = tt
  runs_armed (acts {deeds = deeds} {at = at} {mid = mid} {port = port} before deed to t r leads legal) =
      AreArmed-append who.pid deeds (deed ∷ []) (runs_armed before)
      (happens_sets d who port at mid deed.event deed.calls deed.effects to t leads, tt)
  runs_armed (turns before to t turn) = runs_armed before
  runs_armed (hears before heard r outside step) = runs_armed before
  runs_armed (waits before classes quiet step) = runs_armed before

among_either : {X : Type 0} (x : X) (first later : List X) → Among x (first ++ later)
    → Among x first ⊎ Among x later
among_either x [] later is = inr is
among_either x (y ∷ rest) later (inl same) = inl (inl same)
among_either x (y ∷ rest) later (inr is) =
    elim (among_either x rest later is) [
      | inl w ↦ inl (inr w)
      | inr w ↦ inr w
    ]

deeds_arm : (pid : ℕ) (fuse : Fuse) (deeds : List Deed) → AreArmed pid deeds → AreActs pid deeds
    → Among (Arm fuse) (effects_of deeds) → IsSetBy pid (calls_of deeds) fuse
deeds_arm pid fuse [] armed are is = absurd is
deeds_arm pid fuse (deed ∷ rest) armed are is =
    elim (among_either (Arm fuse) deed.effects (effects_of rest) is) [
      | inl w ↦
          let one : IsSetBy pid deed.calls fuse =
          event_arms pid fuse deed.event deed.calls deed.effects armed.0 are.0 w in
          record { own = one.own; call = among_left (set_of fuse) deed.calls (calls_of rest) one.call }
      | inr w ↦
          let more : IsSetBy pid (calls_of rest) fuse = deeds_arm pid fuse rest armed.1 are.1 w in
          record { own = more.own; call = among_right (set_of fuse) deed.calls (calls_of rest) more.call }
    ]

pub step_arms : (ps : List Behaviour) (g : RunState) (who : Identity) (deeds : List Deed) (h : RunState)
    → Steps ps g who deeds h → (fuse : Fuse) → Among (Arm fuse) (effects_of deeds) → IsSetBy who.pid (calls_of deeds) fuse
step_arms ps g who deeds h step fuse is =
    let old = step.old in
    let d : Definition = record { system = old.system; behaviour = step.p } in
    let runs = step.goes.runs in
    let armed : AreArmed old.who.pid step.goes.deeds =
    runs_armed d old.who (place_of old.position) old.store old.owner.state runs in
    let are : AreActs old.who.pid step.goes.deeds =
    runs_effects d old.who (place_of old.position) old.store old.owner.state runs in
    let found : IsSetBy old.who.pid (calls_of step.goes.deeds) fuse =
    deeds_arm old.who.pid fuse step.goes.deeds armed are
    (subst (λ (list : List Deed). Among (Arm fuse) (effects_of list)) (sym step.deeds_are) is) in
    subst (λ (w : Identity). IsSetBy w.pid (calls_of deeds) fuse) step.is_who
    (subst (λ (list : List Deed). IsSetBy old.who.pid (calls_of list) fuse) step.deeds_are found)

-- ---- the fuses that wait

module _ (P : Fuse → Type 0) where
  effect_fuses : (g : RunState) (effect : Effect) → All P g.fuses → ((fuse : Fuse) → Arm fuse ≡ effect → P fuse)
      → All P (after_effect g effect).fuses
  effect_fuses g (Send (Instance number) item) are armed = are
  effect_fuses g (Send Env item) are armed = are
  effect_fuses g (Send Null item) are armed = are
  effect_fuses g (Send Nobody item) are armed = are
  effect_fuses g (Arm fuse) are armed =
      by_test (nat_le fuse.due g.clock)
      (record g { instances = change_at (with_expiry fuse g.clock) g.instances fuse.pid })
      (record g { fuses = with_fuse fuse g.fuses }) are (All-with_fuse P fuse g.fuses (armed fuse refl) are) where
        by_test : (b : Bool) (now later : RunState) → All P now.fuses → All P later.fuses
            → All P (if b then now else later).fuses
        by_test true now later first second = first
        by_test false now later first second = second
  effect_fuses g (Create id number parent values) are armed = are

  effects_fuses : (g : RunState) (done : List Effect) → All P g.fuses → ((fuse : Fuse) → Among (Arm fuse) done → P fuse)
      → All P (after_effects g done).fuses
  effects_fuses g [] are armed = are
  effects_fuses g (effect ∷ rest) are armed =
      effects_fuses (after_effect g effect) rest (effect_fuses g effect are (λ fuse same. armed fuse (inl same)))
      (λ fuse is. armed fuse (inr is))

-- ---- all that happened

pub history_more : (n : ℕ) (now : Moment) (happenings : List Happening) (next : Happening)
    → history_from n now (happenings ++ next ∷ [])
    ≡ history_from n now happenings ++ history_of_one n (moment_from now happenings) next
history_more n now [] next = append-nil (history_of_one n now next)
history_more n now (first ∷ rest) next =
    ap (λ (list : List PortEvent). history_of_one n now first ++ list)
    (history_more n (moment_after now first) rest next)
    ∙ sym (append_assoc (history_of_one n now first) (history_from n (moment_after now first) rest)
    (history_of_one n (moment_from (moment_after now first) rest) next))

module _ (system : SystemValue) (happenings : List Happening) (next : Happening) where
  still_set : (fuse : Fuse) → WasSet system happenings fuse → WasSet system (happenings ++ next ∷ []) fuse
  still_set fuse was =
      let before : List PortEvent = history_of system fuse.pid happenings in
      let one : List PortEvent = history_of_one fuse.pid (moment_from (first_moment system) happenings) next in
      subst (λ (history : List PortEvent). Contains history (set_of fuse))
      (sym (history_more fuse.pid (first_moment system) happenings next))
      (Contains-append_left before one (set_of fuse) was)

  now_set : (fuse : Fuse)
      → Contains (history_of_one fuse.pid (moment_from (first_moment system) happenings) next) (set_of fuse)
      → WasSet system (happenings ++ next ∷ []) fuse
  now_set fuse is =
      let before : List PortEvent = history_of system fuse.pid happenings in
      let one : List PortEvent = history_of_one fuse.pid (moment_from (first_moment system) happenings) next in
      subst (λ (history : List PortEvent). Contains history (set_of fuse))
      (sym (history_more fuse.pid (first_moment system) happenings next))
      (Contains-append_right before one (set_of fuse) is)

  still_all : (fuses : List Fuse) → All (WasSet system happenings) fuses
      → All (WasSet system (happenings ++ next ∷ [])) fuses
  still_all fuses are =
      All-weaker (WasSet system happenings) (WasSet system (happenings ++ next ∷ [])) still_set fuses are

-- a step of the instance sets the timer
moved_set : (who : Identity) (deeds : List Deed) (now : Moment) (fuse : Fuse) → IsSetBy who.pid (calls_of deeds) fuse
    → Contains (history_of_one fuse.pid now (Moved who deeds)) (set_of fuse)
moved_set who deeds now fuse set_by =
    let comes : List PortEvent = comes_by fuse.pid now (effects_of deeds) in
    subst (λ (b : Bool). Contains ((if b then calls_of deeds else []) ++ comes) (set_of fuse))
    (sym (eq_is who.pid fuse.pid (sym set_by.own)))
    (Contains-append_left (calls_of deeds) comes (set_of fuse) (contained (set_of fuse) (calls_of deeds) set_by.call))

-- a line of the script arms nothing
pub heard_arms : (P : Fuse → Type 0) (g : RunState) (signal : Option ScriptSignal) (fuse : Fuse)
    → Among (Arm fuse) (heard_effects g signal) → P fuse
heard_arms P g None fuse is = absurd is
heard_arms P g (Some signal) fuse (inl same) = let wrong : ⊥ = cc in absurd wrong
heard_arms P g (Some signal) fuse (inr none) = absurd none

module _ (ps : List Behaviour) (time : ℕ) (system : SystemValue) (happenings : List Happening) where
  set_on : (g : RunState) (next : Happening) (h : RunState) → Follows ps time g next h
      → All (WasSet system happenings) g.fuses → All (WasSet system (happenings ++ next ∷ [])) h.fuses
  set_on g (Moved who deeds) h step are =
      let stepped : RunState = record g {
        instances = with_instance g.instances who.pid step.new;
        turn = who.pid;
        bound = step.bound;
      } in
      subst (λ (g : RunState). All (WasSet system (happenings ++ Moved who deeds ∷ [])) g.fuses) (sym step.now)
      (effects_fuses (WasSet system (happenings ++ Moved who deeds ∷ [])) stepped (effects_of deeds)
      (still_all system happenings (Moved who deeds) g.fuses are)
      (λ fuse is.
      now_set system happenings (Moved who deeds) fuse
      (moved_set who deeds (moment_from (first_moment system) happenings) fuse
      (step_arms ps g who deeds h step fuse is))))
  set_on g (Expired fuse) h expires are =
      let next : Happening = Expired fuse in
      subst (λ (g : RunState). All (WasSet system (happenings ++ next ∷ [])) g.fuses) (sym expires.now)
      (All-rest (WasSet system (happenings ++ next ∷ [])) fuse expires.later g.fuses expires.first
      (still_all system happenings next g.fuses are))
  set_on g (Heard line done) h hear are =
      let next : Happening = Heard line done in
      let before : RunState = record g { script = hear.later } in
      subst (λ (g : RunState). All (WasSet system (happenings ++ next ∷ [])) g.fuses) (sym hear.now)
      (effects_fuses (WasSet system (happenings ++ next ∷ [])) before done
      (still_all system happenings next g.fuses are)
      (λ fuse is.
      heard_arms (WasSet system (happenings ++ next ∷ [])) g line.signal fuse
      (subst (λ (list : List Effect). Among (Arm fuse) list) hear.effects_are is)))
  set_on g (Ticked clock) h tick are =
      let next : Happening = Ticked clock in
      subst (λ (g : RunState). All (WasSet system (happenings ++ next ∷ [])) g.fuses) (sym tick.now)
      (still_all system happenings next g.fuses are)

pub execution_set : (ps : List Behaviour) (system : SystemValue) (lines : List ScriptLine) (time : ℕ)
    {happenings : List Happening} {last : RunState} → Execution ps time (beginning system lines) happenings last
    → All (WasSet system happenings) last.fuses
execution_set ps system lines time begins = All-nil (WasSet system [])
execution_set ps system lines time (goes {happenings = happenings} {at = at} execution next to follows) =
    set_on ps time system happenings at next to follows (execution_set ps system lines time execution)

-- each fuse that waits was armed by a set of its instance
pub fuses_were_set : FusesWereSet
fuses_were_set ps system lines time happenings last behaviours execution = execution_set ps system lines time execution
