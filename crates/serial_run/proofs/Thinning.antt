-- A spent fuse stays spent, whatever is done to the instances; and what is done to two states, of which the second has
-- fewer spent fuses, leads to two such states.
use Rattle.std.proofs.Common.{◌≡◌, ◌∙◌, ◌⊎◌, ◌+◌, ◌<◌, ◌≤◌, ◌==◌, Bool, true, false, ℕ, zero, suc, nat_le, true≢false, if◌then◌else◌, inl, inr, List, [], ◌∷◌, ◌++◌, Option, None, Some, ap, arith, le-leb, length, refl, set, slice_get, subst, sym}
use Rattle.std.proofs.lemmas.Bool.Decides.{nat_tests}
use Rattle.std.proofs.lemmas.Option.{slice_get_past}
use Rattle.port_model.specs.declared.inbox.entry.Fuse.{Fuse}
use Rattle.port_model.proofs.Spent.{spent_step}
use Rattle.port_model.specs.History.{Expire, Put}
use Rattle.port_model.specs.Port.{PortState, expire_in, is_spent, put_into}
use Rattle.port_model.specs.declared.values.item.Item.{Item}
use Rattle.port_model.specs.declared.values.pid.Pid.TheVariants.{Of}
use Rattle.port_model.specs.declared.values.value.Value.{Value}
use Rattle.sdl_interp.specs.Instance.{InstanceValue}
use Rattle.run_record.specs.declared.evaluation.identity.Identity.{Identity}
use Rattle.run_semantics.specs.Effect.{Create, Effect}
use Rattle.serial_run.specs.Serial.{state_of}
use Rattle.serial_run.specs.Thinned.{IsThinned, is_spent_in, is_spent_of}
use Rattle.serial_run.specs.declared.instances.Instances.{Instances}
use Rattle.serial_order.specs.RunState.{RunState, after_effect, after_effects, armed, change_at, changed_at, expired, heard_effects, instance_at, instance_of, living_of, sent_to, with_created, with_expiry, with_instance, with_put}
use Rattle.serial_sweeps.specs.Sweeps.{Moment, at_agenda, until_of}
use Rattle.serial_sweeps.specs.declared.agenda.Agenda.{Agenda}
use Rattle.sdl_script.specs.declared.script.ScriptLine.{ScriptLine}
use Rattle.sdl_script.specs.declared.script.ScriptSignal.{ScriptSignal}
use Rattle.sdl_system.specs.Route.{target_in}
use Rattle.sdl_system.specs.declared.id.ProcessId.{ProcessId}
use Rattle.sdl_system.specs.declared.process.Process.{Process}
use Rattle.sdl_system.specs.declared.route.Source.TheVariants as source
use Rattle.sdl_system.specs.declared.route.Target.{Target}
use Rattle.sdl_system.specs.declared.route.Target.TheVariants.{Env, Instance, Nobody, Null}
use Rattle.sdl_timers.proofs.Arming.{IsInOrder-with_fuse}
use Rattle.sdl_timers.proofs.Thinning.{thins_on, thins_with}
use Rattle.sdl_timers.specs.DueOrder.{with_fuse}
use Rattle.sdl_timers.specs.Thinned.{Thins}

-- ---- one instance

spent_put : (fuse : Fuse) (item : Item) (i : InstanceValue) → is_spent_of fuse (Some i) ≡ true
    → is_spent_of fuse (Some (with_put item i)) ≡ true
spent_put fuse item i spent =
    spent_step fuse.key fuse.arm fuse.due i.owner.state (put_into i.owner.state item) (Put item) refl spent

spent_expiry : (fuse other : Fuse) (at : ℕ) (i : InstanceValue) → is_spent_of fuse (Some i) ≡ true
    → is_spent_of fuse (Some (with_expiry other at i)) ≡ true
spent_expiry fuse other at i spent = by_test (other.pid == i.owner.pid) where
  port : PortState
  port = i.owner.state

  after : PortState
  after = expire_in port other.key other.arm other.due at

  by_test : (b : Bool) → is_spent (if b then after else port) fuse.key fuse.arm fuse.due ≡ true
  by_test true =
      spent_step fuse.key fuse.arm fuse.due port after (Expire other.key other.arm other.due at) refl spent
  by_test false = spent

-- ---- all instances

module _ (fuse : Fuse) where
  spent_set : (xs : List InstanceValue) (place k : ℕ) (old new : InstanceValue) → slice_get xs place ≡ Some old
      → (is_spent_of fuse (Some old) ≡ true → is_spent_of fuse (Some new) ≡ true)
      → is_spent_of fuse (slice_get xs k) ≡ true → is_spent_of fuse (slice_get (set xs place new) k) ≡ true
  spent_set [] place k old new there keeps spent = spent
  spent_set (x ∷ xs) zero zero old new there keeps spent =
      let is : x ≡ old = cc in keeps (subst (λ (j : InstanceValue). is_spent_of fuse (Some j) ≡ true) is spent)
  spent_set (x ∷ xs) zero (suc k) old new there keeps spent = spent
  spent_set (x ∷ xs) (suc place) zero old new there keeps spent = spent
  spent_set (x ∷ xs) (suc place) (suc k) old new there keeps spent = spent_set xs place k old new there keeps spent

  -- one of them is changed
  pub spent_with : (instances : List InstanceValue) (number : ℕ) (old new : InstanceValue)
      → instance_at instances number ≡ Some old
      → (is_spent_of fuse (Some old) ≡ true → is_spent_of fuse (Some new) ≡ true)
      → is_spent_in instances fuse ≡ true → is_spent_in (with_instance instances number new) fuse ≡ true
  spent_with instances zero old new there keeps spent = spent
  spent_with instances (suc place) old new there keeps spent = by_number fuse.pid spent where
    by_number : (n : ℕ) → is_spent_of fuse (instance_at instances n) ≡ true
        → is_spent_of fuse (instance_at (set instances place new) n) ≡ true
    by_number zero gone = gone
    by_number (suc k) gone = spent_set instances place k old new there keeps gone

  spent_change : (change : InstanceValue → InstanceValue)
      → ((i : InstanceValue) → is_spent_of fuse (Some i) ≡ true → is_spent_of fuse (Some (change i)) ≡ true)
      → (instances : List InstanceValue) (number : ℕ) → is_spent_in instances fuse ≡ true
      → is_spent_in (change_at change instances number) fuse ≡ true
  spent_change change keeps instances number spent = by_found (instance_at instances number) refl where
    by_found : (o : Option InstanceValue) → instance_at instances number ≡ o
        → is_spent_in (changed_at change instances number o) fuse ≡ true
    by_found None there = spent
    by_found (Some i) there = spent_with instances number i (change i) there (keeps i) spent

  spent_more_at : (xs : List InstanceValue) (k : ℕ) (new : InstanceValue) → is_spent_of fuse (slice_get xs k) ≡ true
      → is_spent_of fuse (slice_get (xs ++ new ∷ []) k) ≡ true
  spent_more_at [] k new spent = absurd (true≢false (sym spent))
  spent_more_at (x ∷ xs) zero new spent = spent
  spent_more_at (x ∷ xs) (suc k) new spent = spent_more_at xs k new spent

  -- one is made
  spent_more : (instances : List InstanceValue) (new : InstanceValue) → is_spent_in instances fuse ≡ true
      → is_spent_in (instances ++ new ∷ []) fuse ≡ true
  spent_more instances new spent = by_number fuse.pid spent where
    by_number : (n : ℕ) → is_spent_of fuse (instance_at instances n) ≡ true
        → is_spent_of fuse (instance_at (instances ++ new ∷ []) n) ≡ true
    by_number zero gone = gone
    by_number (suc k) gone = spent_more_at instances k new gone

-- ---- lists of fuses

pub thins_more : (p q : Fuse → Bool) → ((fuse : Fuse) → p fuse ≡ true → q fuse ≡ true) → (fuses left : List Fuse)
    → Thins p fuses left → Thins q fuses left
thins_more p q more [] left none = none
thins_more p q more (fuse ∷ fuses) left (inl (gone, thins)) =
    inl (more fuse gone, thins_more p q more fuses left thins)
thins_more p q more (fuse ∷ fuses) left (inr (rest, is, thins)) =
    inr (rest, is, thins_more p q more fuses rest thins)

-- ---- what is done

pub thinned_sent : (g h : RunState) (target : Target) (item : Item) → IsThinned g h
    → IsThinned (sent_to g target item) (sent_to h target item)
thinned_sent g h (Instance number) item thinned = record {
  same = ap (λ (x : RunState). sent_to x (Instance number) item) thinned.same;
  in_order = thinned.in_order;
  thins = thins_more (is_spent_in g.instances) (is_spent_in (change_at (with_put item) g.instances number))
      (λ fuse spent. spent_change fuse (with_put item) (spent_put fuse item) g.instances number spent) g.fuses h.fuses
      thinned.thins;
}
thinned_sent g h Env item thinned = thinned
thinned_sent g h Null item thinned = thinned
thinned_sent g h Nobody item thinned = thinned

pub thinned_expired : (g h : RunState) (fuse : Fuse) → IsThinned g h → IsThinned (expired g fuse) (expired h fuse)
thinned_expired g h fuse thinned = record {
  same = ap (λ (x : RunState). expired x fuse) thinned.same;
  in_order = thinned.in_order;
  thins = thins_more (is_spent_in g.instances)
      (is_spent_in (change_at (with_expiry fuse g.clock) g.instances fuse.pid))
      (λ one spent. spent_change one (with_expiry fuse g.clock) (spent_expiry one fuse g.clock) g.instances fuse.pid
      spent) g.fuses h.fuses thinned.thins;
}

-- a fuse whose time has come expires at once
pub thinned_fired : (g h : RunState) (fuse : Fuse) → IsThinned g h → fuse.due ≤ h.clock
    → IsThinned (armed g fuse) (expired h fuse)
thinned_fired g h fuse thinned come =
    let clock : h.clock ≡ g.clock = ap (λ (x : RunState). x.clock) thinned.same in
    let is : nat_le fuse.due g.clock ≡ true = le-leb fuse.due g.clock (omega (arith, come, clock)) in
    subst (λ b. IsThinned (if b then expired g fuse else record g { fuses = with_fuse fuse g.fuses }) (expired h fuse))
    (sym is) (thinned_expired g h fuse thinned)

not_le : (a b : ℕ) → b < a → nat_le a b ≡ false
not_le a b late = grind (arith, nat_tests)

-- another waits, and then some spent ones are taken out
pub thinned_armed : (g h : RunState) (fuse : Fuse) (left : List Fuse) → IsThinned g h → h.clock < fuse.due
    → Thins (is_spent_in h.instances) (with_fuse fuse h.fuses) left
    → IsThinned (armed g fuse) (record h { fuses = left })
thinned_armed g h fuse left thinned late thins =
    let spent : Fuse → Bool = is_spent_in g.instances in
    let clock : h.clock ≡ g.clock = ap (λ (x : RunState). x.clock) thinned.same in
    let is : nat_le fuse.due g.clock ≡ false = not_le fuse.due g.clock (omega (arith, late, clock)) in
    let first : Thins spent (with_fuse fuse g.fuses) (with_fuse fuse h.fuses) =
    thins_with spent fuse g.fuses h.fuses thinned.in_order thinned.thins in
    let again : Thins spent (with_fuse fuse h.fuses) left =
    subst (λ (all : List InstanceValue). Thins (is_spent_in all) (with_fuse fuse h.fuses) left)
    (ap (λ (x : RunState). x.instances) thinned.same) thins in
    let waits : IsThinned (record g { fuses = with_fuse fuse g.fuses }) (record h { fuses = left }) = record {
      same = ap (λ (x : RunState). record x { fuses = left }) thinned.same;
      in_order = IsInOrder-with_fuse fuse g.fuses thinned.in_order;
      thins = thins_on spent (with_fuse fuse g.fuses) (with_fuse fuse h.fuses) left first again;
    } in
    subst (λ b. IsThinned (if b then expired g fuse else record g { fuses = with_fuse fuse g.fuses })
    (record h { fuses = left })) (sym is) waits

pub thinned_created : (g h : RunState) (id : ProcessId) (number parent : ℕ) (values : List Value) → IsThinned g h
    → IsThinned (after_effect g (Create id number parent values)) (after_effect h (Create id number parent values))
thinned_created g h id number parent values thinned = record {
  same = ap (λ (x : RunState). after_effect x (Create id number parent values)) thinned.same;
  in_order = thinned.in_order;
  thins = by_process (slice_get g.system.processes id.0);
} where
  who : Identity
  who = record { process = id; pid = number; parent = Of parent }

  by_process : (o : Option Process)
      → Thins (is_spent_in (with_created g.system g.instances who values o)) g.fuses h.fuses
  by_process None = thinned.thins
  by_process (Some process) =
      thins_more (is_spent_in g.instances)
      (is_spent_in (g.instances ++ instance_of g.system process who values ∷ []))
      (λ fuse spent. spent_more fuse g.instances (instance_of g.system process who values) spent) g.fuses h.fuses
      thinned.thins

-- a line is heard, and the others are left
pub thinned_heard : (g h : RunState) (later : List ScriptLine) (signal : Option ScriptSignal) → IsThinned g h
    → IsThinned (after_effects (record g { script = later }) (heard_effects g signal))
    (after_effects (record h { script = later }) (heard_effects h signal))
thinned_heard g h later None thinned = record {
  same = ap (λ (x : RunState). record x { script = later }) thinned.same;
  in_order = thinned.in_order;
  thins = thinned.thins;
}
thinned_heard g h later (Some signal) thinned =
    let before : RunState = record g { script = later } in
    let fewer : RunState = record h { script = later } in
    let thinned_before : IsThinned before fewer = record {
      same = ap (λ (x : RunState). record x { script = later }) thinned.same;
      in_order = thinned.in_order;
      thins = thinned.thins;
    } in
    subst (λ (done : List Effect). IsThinned (after_effects before (heard_effects g (Some signal)))
    (after_effects fewer done)) (sym (ap (λ (x : RunState). heard_effects x (Some signal)) thinned.same))
    (thinned_sent before fewer
    (target_in g.system.routes signal.item.name source.Env signal.to (living_of g.system g.instances).least) signal.item
    thinned_before)

-- ---- what the code knows

-- an instance that is made of a process that is there
pub created_is : (m : Moment) (a b : Instances) (old new : Agenda) (id : ProcessId) (number parent : ℕ)
    (values : List Value) (process : Process) → b.system ≡ a.system → new.clock ≡ old.clock → new.fuses ≡ old.fuses
    → slice_get a.system.now.processes id.0 ≡ Some process
    → b.instances.items ≡ a.instances.items
    ++ instance_of a.system.now process (record { process = id; pid = number; parent = Of parent }) values ∷ []
    → state_of (at_agenda m new) b
    ≡ after_effect (state_of (at_agenda m old) a) (Create id number parent values)
created_is m a b old new id number parent values process system clock fuses there made =
    let who : Identity = record { process = id; pid = number; parent = Of parent } in
    let all : b.instances.items ≡ with_created a.system.now a.instances.items who values
    (slice_get a.system.now.processes id.0) =
    made ∙ ap (with_created a.system.now a.instances.items who values) (sym there) in
    λ k. record {
      system = (system k).now;
      clock = clock k;
      until = until_of m.begun (clock k);
      instances = all k;
      turn = m.turn;
      bound = m.bound;
      fuses = fuses k;
      script = m.script;
    }

-- whether a fuse is spent, of the instance of its number
pub spent_there : (instances : List InstanceValue) (place : ℕ) (i : InstanceValue) (fuse : Fuse)
    → place + 1 ≡ fuse.pid → slice_get instances place ≡ Some i
    → is_spent i.owner.state fuse.key fuse.arm fuse.due ≡ is_spent_in instances fuse
spent_there instances place i fuse is there =
    let number : fuse.pid ≡ suc place = omega (arith, is) in
    sym (ap (λ n. is_spent_of fuse (instance_at instances n)) number ∙ ap (is_spent_of fuse) there)

pub spent_nowhere : (instances : List InstanceValue) (fuse : Fuse)
    → (fuse.pid ≡ 0) ⊎ (length instances < fuse.pid) → is_spent_in instances fuse ≡ false
spent_nowhere instances fuse out = by_number fuse.pid out where
  by_number : (n : ℕ) → (n ≡ 0) ⊎ (length instances < n) → is_spent_of fuse (instance_at instances n) ≡ false
  by_number zero none = refl
  by_number (suc place) none =
      let past : length instances ≤ place = elim none [ inl zero_is ↦ omega arith | inr far ↦ omega arith ] in
      ap (is_spent_of fuse) (slice_get_past instances place past)
