-- Each timer that runs has its fuse: one that waits, or one that the acts of a step have yet to arm.
use Rattle.std.proofs.Common.{◌≡◌, ◌∙◌, ◌⊎◌, ◌+◌, ◌<◌, ◌≤◌, ◌==◌, inl, inr, ap, arith, if◌then◌else◌, refl, subst, sym, ℕ, zero, suc, nat_eq, nat_le, Bool, true, false, List, [], ◌∷◌, Option, None, Some, slice_get}
use Rattle.std.specs.Prelude.{Contains}
use Rattle.std.proofs.lemmas.List.Elements.{All-contains, All-nil}
use Rattle.port_model.specs.declared.inbox.entry.Fuse.{Fuse}
use Rattle.port_model.specs.Port.{expire_in}
use Rattle.port_model.specs.declared.values.item.Item.{Item}
use Rattle.port_model.specs.declared.values.pid.Pid.TheVariants as pid
use Rattle.port_model.specs.declared.timer.ActiveTimer.{ActiveTimer}
use Rattle.port_model.specs.declared.values.value.Value.{Value}
use Rattle.serial_order.specs.Execution.{Execution, Expired, Follows, Happening, Heard, Moved, Steps, Ticked, begins, goes}
use Rattle.serial_order.specs.RunState.{RunState, after_effect, after_effects, beginning, change_at, first_instances, first_of, instance_of, with_created, with_expiry, with_instance, with_put}
use Rattle.serial_order.specs.Report.{Ends, EndsWhole}
use Rattle.run_record.specs.declared.evaluation.identity.Identity.{Identity}
use Rattle.laws_timers.proofs.Arms.{Among, IsArmedOr, contained, runs_fused, same_Arm}
use Rattle.laws_timers.proofs.Dues.{IsPaced, are_timed}
use Rattle.laws_timers.proofs.Numbers.{EachAt, Everywhere, each_change, each_more, each_of, each_with, everywhere_append, everywhere_cons, everywhere_none, not_of}
use Rattle.laws_timers.proofs.Ports.{IsItOr, fused_expired, fused_more, fused_put_in}
use Rattle.laws_timers.specs.Fused.{AreFused, IsOfFuse, NoTimerIsDue, RunningTimersHaveFuses}
use Rattle.sdl_interp.specs.Instance.{InstanceValue}
use Rattle.run_semantics.specs.Effect.{Effect, Arm, Create, Deed, Send, effects_of}
use Rattle.run_semantics.specs.ControlPoint.{Definition}
use Rattle.sdl_script.specs.Script.{end_of}
use Rattle.sdl_script.specs.declared.script.ScriptLine.{ScriptLine}
use Rattle.sdl_interp.specs.Machine.{place_of}
use Rattle.sdl_system.specs.Behaviour.{Behaviour}
use Rattle.sdl_system.specs.System.{SystemValue}
use Rattle.sdl_system.specs.declared.id.ProcessId.{ProcessId}
use Rattle.sdl_system.specs.declared.process.Process.{Process}
use Rattle.sdl_system.specs.declared.route.Target.{Target}
use Rattle.sdl_system.specs.declared.route.Target.TheVariants.{Env, Instance, Nobody, Null}
use Rattle.sdl_timers.specs.DueOrder.{is_before, with_fuse}

-- ---- one instance

-- of the instance of this number: it has that number where a timer of it runs
abbrev Fits : (Fuse → Type 0) → ℕ → InstanceValue → Fuse → Type 0
Fits Holds n i fuse = (i.who.pid ≡ n) × Holds fuse

-- Its port has the number that it has itself, and this is so of the fuses of the timers that run there.
record IsCovered (Holds : Fuse → Type 0) (n : ℕ) (i : InstanceValue) : Type 0 where
  own : i.owner.pid ≡ i.who.pid
  timers : AreFused (Fits Holds n i) n i.owner.state.timers

module _ (A B : Fuse → Type 0) (more : (fuse : Fuse) → A fuse → B fuse) where
  covered_more : (n : ℕ) (i : InstanceValue) → IsCovered A n i → IsCovered B n i
  covered_more n i covered = record {
    own = covered.own;
    timers = fused_more (Fits A n i) (Fits B n i) n (λ fuse own is. (is.0, more fuse is.1)) i.owner.state.timers
        covered.timers;
  }

  each_covered : (instances : List InstanceValue) → EachAt (IsCovered A) instances → EachAt (IsCovered B) instances
  each_covered instances each n i e = covered_more n i (each n i e)

put_covered : (A : Fuse → Type 0) (item : Item) (n : ℕ) (i : InstanceValue) → IsCovered A n i
    → IsCovered A n (with_put item i)
put_covered A item n i covered = record {
  own = covered.own;
  timers = fused_put_in (Fits A n i) n i.owner.state item covered.timers;
}

-- one that has just been made
new_covered : (A : Fuse → Type 0) (system : SystemValue) (process : Process) (who : Identity) (values : List Value)
    (n : ℕ) → IsCovered A n (instance_of system process who values)
new_covered A system process who values n = record {
  own = refl;
  timers = All-nil (λ (timer : ActiveTimer).
      IsOfFuse (Fits A n (instance_of system process who values)) n timer.key timer.phase);
}

-- a fuse expires: no timer runs by it any more
module _ (A : Fuse → Type 0) (fuse : Fuse) (at : ℕ) (due : fuse.due ≤ at) where
  here_covered : (i : InstanceValue) → IsCovered (IsItOr A fuse) fuse.pid i
      → IsCovered A fuse.pid (with_expiry fuse at i)
  here_covered i covered = record {
    own = covered.own;
    timers = by_test (fuse.pid == i.owner.pid) refl;
  } where
    sorted : (other : Fuse) → Fits (IsItOr A fuse) fuse.pid i other → IsItOr (Fits A fuse.pid i) fuse other
    sorted other (own, inl same) = inl same
    sorted other (own, inr is) = inr (own, is)

    by_test : (b : Bool) → nat_eq fuse.pid i.owner.pid ≡ b
        → AreFused (Fits A fuse.pid i) fuse.pid
        (if b then expire_in i.owner.state fuse.key fuse.arm fuse.due at else i.owner.state).timers
    by_test true own =
        fused_expired (Fits A fuse.pid i) fuse.pid fuse i.owner.state at due
        (fused_more (Fits (IsItOr A fuse) fuse.pid i) (IsItOr (Fits A fuse.pid i) fuse) fuse.pid
        (λ other same is. sorted other is) i.owner.state.timers covered.timers)
    by_test false other =
        fused_more (Fits (IsItOr A fuse) fuse.pid i) (Fits A fuse.pid i) fuse.pid
        (λ one same is. absurd (not_of fuse.pid i.owner.pid other (sym (covered.own ∙ is.0))))
        i.owner.state.timers covered.timers

  others_covered : (n : ℕ) (i : InstanceValue) → (fuse.pid ≡ n → ⊥) → IsCovered (IsItOr A fuse) n i → IsCovered A n i
  others_covered n i apart covered = record {
    own = covered.own;
    timers = fused_more (Fits (IsItOr A fuse) n i) (Fits A n i) n left i.owner.state.timers covered.timers;
  } where
    left : (other : Fuse) → other.pid ≡ n → Fits (IsItOr A fuse) n i other → Fits A n i other
    left other own (is, inl same) = absurd (apart (sym (ap (λ (f : Fuse). f.pid) same) ∙ own))
    left other own (is, inr holds) = (is, holds)

  expiry_covered : (instances : List InstanceValue) → EachAt (IsCovered (IsItOr A fuse)) instances
      → EachAt (IsCovered A) (change_at (with_expiry fuse at) instances fuse.pid)
  expiry_covered instances each =
      each_change (IsCovered (IsItOr A fuse)) (IsCovered A) instances fuse.pid each others_covered
      (with_expiry fuse at) here_covered

-- ---- the acts of a step

-- it waits, or is to be armed
abbrev Waits : List Fuse → List Effect → Fuse → Type 0
Waits fuses done fuse = Among fuse fuses ⊎ Among (Arm fuse) done

abbrev AreCovered : RunState → List Effect → Type 0
AreCovered g done = EachAt (IsCovered (Waits g.fuses done)) g.instances

among_armed : (one fuse : Fuse) (fuses : List Fuse) → Among one fuses → Among one (with_fuse fuse fuses)
among_armed one fuse [] is = absurd is
among_armed one fuse (first ∷ more) is =
    by_test (is_before fuse first) is (λ among. among_armed one fuse more among) where
      by_test : (b : Bool) → Among one (first ∷ more) → (Among one more → Among one (with_fuse fuse more))
          → Among one (if b then fuse ∷ first ∷ more else first ∷ with_fuse fuse more)
      by_test true is armed = inr is
      by_test false (inl same) armed = inl same
      by_test false (inr is) armed = inr (armed is)

armed_among : (fuse : Fuse) (fuses : List Fuse) → Among fuse (with_fuse fuse fuses)
armed_among fuse [] = inl refl
armed_among fuse (first ∷ more) = by_test (is_before fuse first) (armed_among fuse more) where
  by_test : (b : Bool) → Among fuse (with_fuse fuse more)
      → Among fuse (if b then fuse ∷ first ∷ more else first ∷ with_fuse fuse more)
  by_test true armed = inl refl
  by_test false armed = inr armed

-- an act that arms nothing
abbrev ArmsNothing : Effect → Type 0
ArmsNothing (Arm fuse) = ⊥
ArmsNothing effect = Unit {0}

not_armed : (fuses : List Fuse) (effect : Effect) (rest : List Effect) → ArmsNothing effect → (fuse : Fuse)
    → Waits fuses (effect ∷ rest) fuse → Waits fuses rest fuse
not_armed fuses effect rest nothing fuse (inl is) = inl is
not_armed fuses effect rest nothing fuse (inr (inr is)) = inr is
not_armed fuses effect rest nothing fuse (inr (inl same)) = absurd (subst ArmsNothing (sym same) nothing)

module _ (g : RunState) (rest : List Effect) where
  left_covered : (effect : Effect) → ArmsNothing effect → AreCovered g (effect ∷ rest) → AreCovered g rest
  left_covered effect nothing are =
      each_covered (Waits g.fuses (effect ∷ rest)) (Waits g.fuses rest) (not_armed g.fuses effect rest nothing) g.instances
      are

  sent_covered : (target : Target) (item : Item) → AreCovered g rest → AreCovered (after_effect g (Send target item)) rest
  sent_covered (Instance number) item are =
      each_change (IsCovered (Waits g.fuses rest)) (IsCovered (Waits g.fuses rest)) g.instances number are
      (λ n i apart covered. covered) (with_put item) (put_covered (Waits g.fuses rest) item number)
  sent_covered Env item are = are
  sent_covered Null item are = are
  sent_covered Nobody item are = are

  created_covered : (who : Identity) (values : List Value) (o : Option Process) → AreCovered g rest
      → EachAt (IsCovered (Waits g.fuses rest)) (with_created g.system g.instances who values o)
  created_covered who values None are = are
  created_covered who values (Some process) are =
      each_more (IsCovered (Waits g.fuses rest)) g.instances (instance_of g.system process who values) are
      (new_covered (Waits g.fuses rest) g.system process who values)

  -- its time has come
  now_sorted : (fuse one : Fuse) → Waits g.fuses (Arm fuse ∷ rest) one → IsItOr (Waits g.fuses rest) fuse one
  now_sorted fuse one (inl is) = inr (inl is)
  now_sorted fuse one (inr (inl same)) = inl (same_Arm one fuse same)
  now_sorted fuse one (inr (inr is)) = inr (inr is)

  -- it waits for it
  later_sorted : (fuse one : Fuse) → Waits g.fuses (Arm fuse ∷ rest) one → Waits (with_fuse fuse g.fuses) rest one
  later_sorted fuse one (inl is) = inl (among_armed one fuse g.fuses is)
  later_sorted fuse one (inr (inl same)) =
      inl (subst (λ (f : Fuse). Among f (with_fuse fuse g.fuses)) (sym (same_Arm one fuse same))
      (armed_among fuse g.fuses))
  later_sorted fuse one (inr (inr is)) = inr is

  armed_covered : (fuse : Fuse) → AreCovered g (Arm fuse ∷ rest) → AreCovered (after_effect g (Arm fuse)) rest
  armed_covered fuse are = by_test (nat_le fuse.due g.clock) refl where
    by_test : (b : Bool) → nat_le fuse.due g.clock ≡ b
        → AreCovered (if b then record g {
          instances = change_at (with_expiry fuse g.clock) g.instances fuse.pid;
        } else record g { fuses = with_fuse fuse g.fuses }) rest
    by_test true has_come =
        expiry_covered (Waits g.fuses rest) fuse g.clock (grind (arith, has_come)) g.instances
        (each_covered (Waits g.fuses (Arm fuse ∷ rest)) (IsItOr (Waits g.fuses rest) fuse) (now_sorted fuse) g.instances
        are)
    by_test false later =
        each_covered (Waits g.fuses (Arm fuse ∷ rest)) (Waits (with_fuse fuse g.fuses) rest) (later_sorted fuse)
        g.instances are

  effect_covered : (effect : Effect) → AreCovered g (effect ∷ rest) → AreCovered (after_effect g effect) rest
  effect_covered (Send target item) are = sent_covered target item (left_covered (Send target item) tt are)
  effect_covered (Arm fuse) are = armed_covered fuse are
  effect_covered (Create id number parent values) are =
      created_covered (record { process = id; pid = number; parent = pid.Of parent }) values
      (slice_get g.system.processes id.0) (left_covered (Create id number parent values) tt are)

effects_covered : (g : RunState) (done : List Effect) → AreCovered g done → AreCovered (after_effects g done) []
effects_covered g [] are = are
effects_covered g (effect ∷ rest) are = effects_covered (after_effect g effect) rest (effect_covered g rest effect are)

-- nothing is to be armed, or more
none_armed : (fuses : List Fuse) (done : List Effect) (fuse : Fuse) → Waits fuses [] fuse → Waits fuses done fuse
none_armed fuses done fuse (inl is) = inl is
none_armed fuses done fuse (inr none) = absurd none

-- ---- a step

module _ (ps : List Behaviour) (g : RunState) (who : Identity) (deeds : List Deed) (h : RunState)
    (step : Steps ps g who deeds h) (are : AreCovered g []) where
  old_covered : IsCovered (Waits g.fuses []) who.pid step.old
  old_covered = are who.pid step.old step.is_there

  is_number : step.new.who.pid ≡ who.pid
  is_number = ap (λ (w : Identity). w.pid) (step.keeps.who ∙ step.is_who)

  sorted_new : (fuse : Fuse) → IsArmedOr (Fits (Waits g.fuses []) who.pid step.old) (effects_of deeds) fuse
      → Fits (Waits g.fuses (effects_of deeds)) who.pid step.new fuse
  sorted_new fuse (inl is) = (is_number, none_armed g.fuses (effects_of deeds) fuse is.1)
  sorted_new fuse (inr armed) = (is_number, inr armed)

  new_timers : AreFused (IsArmedOr (Fits (Waits g.fuses []) who.pid step.old) (effects_of deeds)) who.pid
      step.new.owner.state.timers
  new_timers =
      let old : InstanceValue = step.old in
      let d : Definition = record { system = old.system; behaviour = step.p } in
      let number : old.who.pid ≡ who.pid = ap (λ (w : Identity). w.pid) step.is_who in
      let before : AreFused (Fits (Waits g.fuses []) who.pid old) old.who.pid old.owner.state.timers =
      subst (λ k. AreFused (Fits (Waits g.fuses []) who.pid old) k old.owner.state.timers) (sym number)
      old_covered.timers in
      let ran : AreFused (IsArmedOr (Fits (Waits g.fuses []) who.pid old) (effects_of step.goes.deeds)) old.who.pid
      step.new.owner.state.timers =
      runs_fused d old.who (place_of old.position) old.store old.owner.state (Fits (Waits g.fuses []) who.pid old)
      before step.goes.runs in
      subst (λ (list : List Deed). AreFused (IsArmedOr (Fits (Waits g.fuses []) who.pid old) (effects_of list)) who.pid
      step.new.owner.state.timers) step.deeds_are
      (subst (λ k. AreFused (IsArmedOr (Fits (Waits g.fuses []) who.pid old) (effects_of step.goes.deeds)) k
      step.new.owner.state.timers) number ran)

  stepped_new : IsCovered (Waits g.fuses (effects_of deeds)) who.pid step.new
  stepped_new = record {
    own = step.keeps.pid ∙ old_covered.own ∙ ap (λ (w : Identity). w.pid) (sym step.keeps.who);
    timers = fused_more (IsArmedOr (Fits (Waits g.fuses []) who.pid step.old) (effects_of deeds))
        (Fits (Waits g.fuses (effects_of deeds)) who.pid step.new) who.pid (λ fuse own is. sorted_new fuse is)
        step.new.owner.state.timers new_timers;
  }

  step_covered : AreCovered h []
  step_covered =
      let stepped : RunState = record g {
        instances = with_instance g.instances who.pid step.new;
        turn = who.pid;
        bound = step.bound;
      } in
      let then_covered : AreCovered stepped (effects_of deeds) =
      each_with (IsCovered (Waits g.fuses [])) (IsCovered (Waits g.fuses (effects_of deeds))) g.instances who.pid are
      (λ n i apart covered.
      covered_more (Waits g.fuses []) (Waits g.fuses (effects_of deeds)) (none_armed g.fuses (effects_of deeds)) n i
      covered) step.new stepped_new in
      subst (λ (g : RunState). AreCovered g []) (sym step.now) (effects_covered stepped (effects_of deeds) then_covered)

-- ---- one happening

first_sorted : (fuses later : List Fuse) (fuse : Fuse) → fuses ≡ fuse ∷ later → (one : Fuse) → Waits fuses [] one
    → IsItOr (Waits later []) fuse one
first_sorted fuses later fuse first one is =
    by_case (subst (λ (list : List Fuse). Waits list [] one) first is) where
      by_case : Waits (fuse ∷ later) [] one → IsItOr (Waits later []) fuse one
      by_case (inl (inl same)) = inl same
      by_case (inl (inr is)) = inr (inl is)
      by_case (inr none) = absurd none

module _ (ps : List Behaviour) (last : ℕ) where
  covered_on : (g : RunState) (next : Happening) (h : RunState) → Follows ps last g next h → IsPaced g → AreCovered g []
      → AreCovered h []
  covered_on g (Moved who deeds) h step paced are = step_covered ps g who deeds h step are
  covered_on g (Expired fuse) h expires paced are =
      let before : RunState = record g { fuses = expires.later } in
      let due : fuse.due ≤ g.clock = omega (arith, expires.due, paced) in
      subst (λ (g : RunState). AreCovered g []) (sym expires.now)
      (expiry_covered (Waits expires.later []) fuse g.clock due g.instances
      (each_covered (Waits g.fuses []) (IsItOr (Waits expires.later []) fuse)
      (first_sorted g.fuses expires.later fuse expires.first) g.instances are))
  covered_on g (Heard line done) h hear paced are =
      let before : RunState = record g { script = hear.later } in
      subst (λ (g : RunState). AreCovered g []) (sym hear.now)
      (effects_covered before done
      (each_covered (Waits g.fuses []) (Waits g.fuses done) (none_armed g.fuses done) g.instances are))
  covered_on g (Ticked time) h tick paced are = subst (λ (g : RunState). AreCovered g []) (sym tick.now) are

-- ---- all that happened

module _ (A : Fuse → Type 0) (system : SystemValue) (n : ℕ) where
  first_covered : (number : ℕ) (id : ProcessId) (process : Process) (count : ℕ)
      → Everywhere (IsCovered A n) (first_of system number id process count)
  first_covered number id process zero = everywhere_none (IsCovered A n)
  first_covered number id process (suc more) =
      let who : Identity = record { process = id; pid = number; parent = pid.Null } in
      everywhere_cons (IsCovered A n) (instance_of system process who [])
      (first_of system (number + 1) id process more) (new_covered A system process who [] n)
      (first_covered (number + 1) id process more)

  all_covered : (number id : ℕ) (processes : List Process)
      → Everywhere (IsCovered A n) (first_instances system number id processes)
  all_covered number id [] = everywhere_none (IsCovered A n)
  all_covered number id (process ∷ more) =
      everywhere_append (IsCovered A n) (first_of system number (record { 0 = id }) process process.initial)
      (first_instances system (number + process.initial) (id + 1) more)
      (first_covered number (record { 0 = id }) process process.initial)
      (all_covered (number + process.initial) (id + 1) more)

execution_covered : (ps : List Behaviour) (system : SystemValue) (lines : List ScriptLine) (time : ℕ)
    {happenings : List Happening} {last : RunState} → Execution ps time (beginning system lines) happenings last
    → AreCovered last []
execution_covered ps system lines time begins =
    each_of (IsCovered (Waits [] [])) (first_instances system 1 0 system.processes)
    (λ n. all_covered (Waits [] []) system n 1 0 system.processes)
execution_covered ps system lines time (goes {at = at} execution next to follows) =
    covered_on ps time at next to follows (are_timed ps system lines time execution).paced
    (execution_covered ps system lines time execution)

-- each timer that runs has its fuse among those that wait
pub running_timers_have_fuses : RunningTimersHaveFuses
running_timers_have_fuses ps system lines time happenings last behaviours execution n i e =
    fused_more (Fits (Waits last.fuses []) n i) (Contains last.fuses) n (λ fuse own is. waiting fuse is.1)
    i.owner.state.timers (execution_covered ps system lines time execution n i e).timers where
      waiting : (fuse : Fuse) → Waits last.fuses [] fuse → Contains last.fuses fuse
      waiting fuse (inl is) = contained fuse last.fuses is
      waiting fuse (inr none) = absurd none

-- at the end of a whole run no timer that runs is due
pub no_timer_is_due : NoTimerIsDue
no_timer_is_due ps system lines limit report behaviours serial whole n i e =
    let ends : EndsWhole ps lines limit serial.happenings serial.last report.end =
    subst (λ (b : Bool). Ends b ps lines limit serial.happenings serial.last report.end) whole serial.ends in
    fused_more (Contains serial.last.fuses) (λ (fuse : Fuse). report.end < fuse.due) n
    (λ fuse own is.
    let beyond : end_of lines + 1 ≤ fuse.due =
    All-contains (λ (fuse : Fuse). end_of lines + 1 ≤ fuse.due) serial.last.fuses fuse ends.no_fuse is in
    omega (arith, beyond, ends.is_end)) i.owner.state.timers
    (running_timers_have_fuses ps system lines (end_of lines) serial.happenings serial.last behaviours serial.execution
    n i e)
