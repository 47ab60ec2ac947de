-- What is known of each instance while a run goes on: it is told, and it has its number.
use Rattle.std.proofs.Common.{◌≡◌, ◌∙◌, ◌+◌, ◌++◌, ◌<◌, ◌==◌, ◌&&◌, ap, append-nil, append_assoc, arith, length-append, if◌then◌else◌, inl, inr, refl, subst, sym, ℕ, zero, suc, Bool, true, false, List, [], ◌∷◌, Option, Some, length, map, nat_le, slice_get, drop}
use Rattle.std.specs.List.{AllZip}
use Rattle.std.proofs.lemmas.Option.{none-some, same_Some}
use Rattle.port_model.specs.declared.inbox.entry.Fuse.{Fuse}
use Rattle.port_model.specs.History.{Expire, PortEvent, PortStep, Put}
use Rattle.port_model.specs.Laws.{IsFromOutside}
use Rattle.port_model.specs.Port.{PortState, empty_port, expire_in, put_into}
use Rattle.port_model.specs.declared.values.item.Item.{Item}
use Rattle.port_model.specs.declared.values.pid.Pid.TheVariants.{Of}
use Rattle.port_model.specs.declared.values.value.Value.{Value}
use Rattle.serial_order.proofs.Numbers.{at_change, at_more, eq_is, eq_of, length-change, not_there, there}
use Rattle.serial_order.proofs.Made.{IsProcess, MakeNext, MakesNext}
use Rattle.serial_order.specs.RunState.{RunState, after_effect, after_effects, armed, change_at, instance_at, instance_of, sent_to, with_created, with_expiry, with_put}
use Rattle.serial_order.specs.Told.{IsTold, Moment, comes_by, comes_by_one, expiry_by, given_after, given_after_one, is_there}
use Rattle.run_record.specs.Environment.{initial_store}
use Rattle.run_record.specs.Variables.{VariableList}
use Rattle.run_record.specs.declared.evaluation.identity.Identity.{Identity}
use Rattle.sdl_interp.specs.Instance.{InstanceValue, variables_from}
use Rattle.run_semantics.specs.Effect.{Effect, Arm, Create, Deed, Send}
use Rattle.sdl_timers.specs.DueOrder.{with_fuse}
use Rattle.run_semantics.specs.Behaves.{AreBehaviours, Behaves}
use Rattle.run_semantics.specs.Instance.{first_store, first_variables, parameters_from}
use Rattle.run_semantics.specs.ControlPoint.{AtStart, Definition}
use Rattle.run_semantics.specs.Runs.{Runs, hears, still}
use Rattle.sdl_system.specs.Behaviour.{Behaviour, Means, VariableMeaning, variable_meaning}
use Rattle.sdl_system.specs.System.{SystemValue}
use Rattle.sdl_system.specs.declared.id.ProcessId.{ProcessId}
use Rattle.sdl_system.specs.declared.process.Process.{Process}
use Rattle.sdl_system.specs.declared.process.Variable.{Variable}
use Rattle.sdl_system.specs.declared.route.Target.{Target}
use Rattle.sdl_system.specs.declared.route.Target.TheVariants.{Env, Instance, Nobody, Null}

-- the numbers that were given, and the clock, as they are
abbrev pub moment_of : RunState → Moment
moment_of g = record { given = length g.instances; clock = g.clock }

-- The instance of this number has it, belongs to the system, and is told.
pub record IsKnown (ps : List Behaviour) (system : SystemValue) (n : ℕ) (i : InstanceValue) (deeds : List Deed)
    (history : List PortEvent) : Type 0 where
  pub number : i.who.pid ≡ n
  pub owner : i.owner.pid ≡ n
  pub system_is : i.system ≡ system
  pub told : IsTold ps i deeds history

-- So it is with each that is there; of the others nothing is told.
pub record AreKnown (ps : List Behaviour) (system : SystemValue) (g : RunState) (deeds : ℕ → List Deed)
    (history : ℕ → List PortEvent) : Type 0 where
  pub system_is : g.system ≡ system
  pub beyond : (n : ℕ) → length g.instances < n → (deeds n ≡ []) × (history n ≡ [])
  pub each : (n : ℕ) (i : InstanceValue) → instance_at g.instances n ≡ Some i
      → IsKnown ps system n i (deeds n) (history n)

-- ---- one instance

module _ (ps : List Behaviour) (system : SystemValue) (n : ℕ) where
  pub known_as : (i j : InstanceValue) (deeds deeds' : List Deed) (history history' : List PortEvent) → i ≡ j
      → deeds ≡ deeds' → history ≡ history' → IsKnown ps system n i deeds history
      → IsKnown ps system n j deeds' history'
  known_as i j deeds deeds' history history' same done happened known =
      subst (λ (k : InstanceValue). IsKnown ps system n k deeds' history') same
      (subst (λ (list : List Deed). IsKnown ps system n i list history') done
      (subst (λ (list : List PortEvent). IsKnown ps system n i deeds list) happened known))

  -- what comes into its port is heard
  pub known_hears : (i : InstanceValue) (deeds : List Deed) (history : List PortEvent) (heard : PortEvent)
      (port : PortState) → IsFromOutside heard → PortStep i.owner.state heard port
      → IsKnown ps system n i deeds history
      → IsKnown ps system n (record i { owner = record i.owner { state = port } }) deeds (history ++ heard ∷ [])
  known_hears i deeds history heard port outside step known = record {
    number = known.number;
    owner = known.owner;
    system_is = known.system_is;
    told = record {
      p = known.told.p;
      values = known.told.values;
      meant = record { listed = known.told.meant.listed; is_run = known.told.meant.is_run };
      recorded = known.told.recorded;
      runs = hears known.told.runs heard port outside step;
    };
  }

  known_put : (i : InstanceValue) (deeds : List Deed) (history : List PortEvent) (item : Item)
      → IsKnown ps system n i deeds history → IsKnown ps system n (with_put item i) deeds (history ++ Put item ∷ [])
  known_put i deeds history item known =
      known_hears i deeds history (Put item) (put_into i.owner.state item) tt refl known

  expires_as : (own : Bool) (q r : PortState) → own ≡ true → (if own then r else q) ≡ r
  expires_as true q r own = refl
  expires_as false q r own = let wrong : ⊥ = cc in absurd wrong

  -- the fuse of its own timer
  known_expiry : (i : InstanceValue) (deeds : List Deed) (history : List PortEvent) (fuse : Fuse) (at : ℕ)
      → fuse.pid ≡ n → IsKnown ps system n i deeds history
      → IsKnown ps system n (with_expiry fuse at i) deeds (history ++ Expire fuse.key fuse.arm fuse.due at ∷ [])
  known_expiry i deeds history fuse at own known =
      let q : PortState = i.owner.state in
      known_hears i deeds history (Expire fuse.key fuse.arm fuse.due at)
      (if fuse.pid == i.owner.pid then expire_in q fuse.key fuse.arm fuse.due at else q) tt
      (expires_as (fuse.pid == i.owner.pid) q (expire_in q fuse.key fuse.arm fuse.due at)
      (eq_is fuse.pid i.owner.pid (own ∙ sym known.owner))) known

-- ---- one that has just been made

initials : (xs : List Variable)
    → map (λ (v : VariableMeaning). v.initial) (map variable_meaning xs) ≡ map (λ (v : Variable). v.initial) xs
initials [] = refl
initials (x ∷ xs) = ap (λ (rest : VariableList). x.initial ∷ rest) (initials xs)

-- the variables before the start, by the process, are those by what it means
variables_mean : (process : Process) (p : Behaviour) → Means process p → (values : List Value)
    → variables_from process values ≡ first_variables p values
variables_mean process p means values =
    ap (λ (list : VariableList). parameters_from process.parameters values ++ drop process.parameters list)
    (sym (initials process.variables.items)
    ∙ ap (λ (list : List VariableMeaning). map (λ (v : VariableMeaning). v.initial) list) means.variables_are)
    ∙ ap (λ n. parameters_from n values ++ drop n (map (λ (v : VariableMeaning). v.initial) p.variables))
    means.parameters_are

-- the behaviour of the process of this number
record Meaning (system : SystemValue) (ps : List Behaviour) (process : Process) (k : ℕ) : Type 0 where
  p : Behaviour
  listed : slice_get ps k ≡ Some p
  behaves : Behaves system process p

meaning_at : (system : SystemValue) (ps : List Behaviour) (processes : List Process) (process : Process) (k : ℕ)
    → AllZip (Behaves system) processes ps → slice_get processes k ≡ Some process → Meaning system ps process k
meaning_at system [] [] process k are e = absurd (none-some process e)
meaning_at system (p ∷ ps) [] process k are e = absurd are
meaning_at system [] (first ∷ rest) process k are e = absurd are
meaning_at system (p ∷ ps) (first ∷ rest) process zero are e = record {
  p = p;
  listed = refl;
  behaves = subst (λ (process : Process). Behaves system process p) (same_Some first process e) are.0;
}
meaning_at system (p ∷ ps) (first ∷ rest) process (suc k) are e =
    let found : Meaning system ps process k = meaning_at system ps rest process k are.1 e in
    record { p = found.p; listed = found.listed; behaves = found.behaves }

pub known_new : (ps : List Behaviour) (system : SystemValue) (process : Process) (who : Identity) (values : List Value)
    (n : ℕ) → AreBehaviours system ps → slice_get system.processes who.process.0 ≡ Some process → who.pid ≡ n
    → IsKnown ps system n (instance_of system process who values) [] []
known_new ps system process who values n are is number =
    let found : Meaning system ps process who.process.0 =
    meaning_at system ps system.processes process who.process.0 are is in
    let d : Definition = record { system = system; behaviour = found.p } in
    record {
      number = number;
      owner = number;
      system_is = refl;
      told = record {
        p = found.p;
        values = values;
        meant = record {
          listed = found.listed;
          is_run = record { system_is = refl; behaves = found.behaves };
        };
        recorded = refl;
        runs = subst
            (λ (list : VariableList). Runs d who AtStart (first_store found.p values) empty_port [] [] AtStart
            (initial_store list) empty_port)
            (sym (variables_mean process found.p found.behaves.means values)) still;
      };
    }

-- ---- an act is done

module _ (ps : List Behaviour) (system : SystemValue) (deeds : ℕ → List Deed) (history : ℕ → List PortEvent) where
  pub are_known_as : (deeds' : ℕ → List Deed) (history' : ℕ → List PortEvent) (g h : RunState) → g ≡ h
      → ((n : ℕ) → deeds n ≡ deeds' n) → ((n : ℕ) → history n ≡ history' n)
      → AreKnown ps system g deeds history → AreKnown ps system h deeds' history'
  are_known_as deeds' history' g h same done happened known =
      subst (λ (g : RunState). AreKnown ps system g deeds' history') same (record {
        system_is = known.system_is;
        beyond = λ n less.
            (sym (done n) ∙ (known.beyond n less).0, sym (happened n) ∙ (known.beyond n less).1);
        each = λ n i e.
            known_as ps system n i i (deeds n) (deeds' n) (history n) (history' n) refl (done n) (happened n)
            (known.each n i e);
      })

  module _ (g : RunState) (known : AreKnown ps system g deeds history) where
    -- the instance of a number hears an event, the others hear nothing
    module _ (change : InstanceValue → InstanceValue) (m : ℕ) (heard : PortEvent)
        (hears_it : (i : InstanceValue) → m ≡ i.who.pid → IsKnown ps system m i (deeds m) (history m)
        → IsKnown ps system m (change i) (deeds m) (history m ++ heard ∷ [])) where
      changed_known : (n : ℕ) (i : InstanceValue) → instance_at (change_at change g.instances m) n ≡ Some i
          → IsKnown ps system n i (deeds n) (history n ++ (if m == n then heard ∷ [] else []))
      changed_known n i e =
          elim (at_change change g.instances m n i e) [
            | inl w ↦
                let is : m ≡ n = eq_of m n w.0 in
                let before : IsKnown ps system n w.1.old (deeds n) (history n) = known.each n w.1.old w.1.is_there in
                let at_m : IsKnown ps system m w.1.old (deeds m) (history m) =
                subst (λ k. IsKnown ps system k w.1.old (deeds k) (history k)) (sym is) before in
                let after : IsKnown ps system m (change w.1.old) (deeds m) (history m ++ heard ∷ []) =
                hears_it w.1.old (is ∙ sym before.number) at_m in
                let at_n : IsKnown ps system n (change w.1.old) (deeds n) (history n ++ heard ∷ []) =
                subst (λ k. IsKnown ps system k (change w.1.old) (deeds k) (history k ++ heard ∷ [])) is after in
                known_as ps system n (change w.1.old) i (deeds n) (deeds n) (history n ++ heard ∷ [])
                (history n ++ (if m == n then heard ∷ [] else [])) (sym w.1.now) refl
                (ap (λ (b : Bool). history n ++ (if b then heard ∷ [] else [])) (sym w.0)) at_n
            | inr w ↦
                known_as ps system n i i (deeds n) (deeds n) (history n)
                (history n ++ (if m == n then heard ∷ [] else [])) refl refl
                (sym (append-nil (history n))
                ∙ ap (λ (b : Bool). history n ++ (if b then heard ∷ [] else [])) (sym w.0)) (known.each n i w.1)
          ]

      -- only to one that is there
      pub change_known : (h : RunState) → h ≡ record g { instances = change_at change g.instances m }
          → AreKnown ps system h deeds
          (λ n. history n ++ (if is_there n (moment_of g) then (if m == n then heard ∷ [] else []) else []))
      change_known h is =
          subst (λ (h : RunState). AreKnown ps system h deeds (λ n. history n
          ++ (if is_there n (moment_of g) then (if m == n then heard ∷ [] else []) else []))) (sym is) (record {
            system_is = known.system_is;
            beyond = λ n less.
                let far : length g.instances < n =
                subst (λ k. k < n) (length-change change g.instances m) less in
                let none = known.beyond n far in (
                  none.0,
                  ap (λ (b : Bool). history n
                      ++ (if b then (if m == n then heard ∷ [] else []) else [])) (not_there n (moment_of g) far)
                      ∙ append-nil (history n) ∙ none.1,
                );
            each = λ n i e.
                known_as ps system n i i (deeds n) (deeds n) (history n ++ (if m == n then heard ∷ [] else []))
                (history n ++ (if is_there n (moment_of g) then (if m == n then heard ∷ [] else []) else [])) refl refl
                (ap (λ (b : Bool). history n ++ (if b then (if m == n then heard ∷ [] else []) else []))
                (sym (here n i e))) (changed_known n i e);
          }) where
            here : (n : ℕ) (i : InstanceValue) → instance_at (change_at change g.instances m) n ≡ Some i
                → is_there n (moment_of g) ≡ true
            here n i e =
                ap (λ k. is_there n (record { given = k; clock = g.clock })) (sym (length-change change g.instances m))
                ∙ there (change_at change g.instances m) n i g.clock e

    -- what comes to nobody
    nothing_comes : (done : ℕ → List PortEvent) → ((n : ℕ) → done n ≡ [])
        → AreKnown ps system g deeds (λ n. history n ++ done n)
    nothing_comes done none =
        are_known_as deeds (λ n. history n ++ done n) g g refl (λ n. refl)
        (λ n. sym (append-nil (history n)) ∙ ap (λ (list : List PortEvent). history n ++ list) (sym (none n))) known

    none_either : (b : Bool) → let none : List PortEvent = [] in (if b then none else none) ≡ none
    none_either true = refl
    none_either false = refl

    send_known : (target : Target) (item : Item)
        → AreKnown ps system (sent_to g target item) deeds
        (λ n. history n ++ comes_by_one n (moment_of g) (Send target item))
    send_known (Instance number) item =
        change_known (with_put item) number (Put item) (λ i is before. known_put ps system number i (deeds number)
        (history number) item before) (sent_to g (Instance number) item) refl
    send_known Env item = nothing_comes (λ n. comes_by_one n (moment_of g) (Send Env item))
        (λ n. none_either (is_there n (moment_of g)))
    send_known Null item = nothing_comes (λ n. comes_by_one n (moment_of g) (Send Null item))
        (λ n. none_either (is_there n (moment_of g)))
    send_known Nobody item = nothing_comes (λ n. comes_by_one n (moment_of g) (Send Nobody item))
        (λ n. none_either (is_there n (moment_of g)))

    -- an expiry of a fuse
    pub expiry_known : (fuse : Fuse) (h : RunState)
        → h ≡ record g { instances = change_at (with_expiry fuse g.clock) g.instances fuse.pid }
        → AreKnown ps system h deeds
        (λ n. history n ++ (if is_there n (moment_of g) then expiry_by n g.clock fuse else []))
    expiry_known fuse h is =
        change_known (with_expiry fuse g.clock) fuse.pid (Expire fuse.key fuse.arm fuse.due g.clock)
        (λ i own before. known_expiry ps system fuse.pid i (deeds fuse.pid) (history fuse.pid) fuse g.clock refl before)
        h is

    -- what is not of the instances changes nothing
    pub same_known : (h : RunState) → h.system ≡ g.system → h.instances ≡ g.instances
        → AreKnown ps system h deeds history
    same_known h same is = record {
      system_is = same ∙ known.system_is;
      beyond = λ n less. known.beyond n (subst (λ (list : List InstanceValue). length list < n) is less);
      each = λ n i e. known.each n i (ap (λ (list : List InstanceValue). instance_at list n) (sym is) ∙ e);
    }

    and_true : (x b : Bool) → b ≡ true → (x && b) ≡ x
    and_true true b is = is
    and_true false b is = refl

    and_false : (x b : Bool) → b ≡ false → (x && b) ≡ false
    and_false true b is = is
    and_false false b is = refl

    arm_known : (fuse : Fuse) (b : Bool) → nat_le fuse.due g.clock ≡ b
        → AreKnown ps system (armed g fuse) deeds (λ n. history n ++ comes_by_one n (moment_of g) (Arm fuse))
    arm_known fuse true is =
        let now : RunState = record g { instances = change_at (with_expiry fuse g.clock) g.instances fuse.pid } in
        let later : RunState = record g { fuses = with_fuse fuse g.fuses } in
        let on : armed g fuse ≡ now = ap (λ (b : Bool). if b then now else later) is in
        subst (λ (h : RunState). AreKnown ps system h deeds (λ n. history n ++ comes_by_one n (moment_of g) (Arm fuse)))
        (sym on) (record {
          system_is = (expiry_known fuse now refl).system_is;
          beyond = λ n less.
              let none = (expiry_known fuse now refl).beyond n less in (
                none.0,
                ap (λ (b : Bool). history n ++ (if b then expiry_by n g.clock fuse else []))
                    (and_true (is_there n (moment_of g)) (nat_le fuse.due g.clock) is) ∙ none.1,
              );
          each = λ n i e.
              known_as ps system n i i (deeds n) (deeds n)
              (history n ++ (if is_there n (moment_of g) then expiry_by n g.clock fuse else []))
              (history n ++ comes_by_one n (moment_of g) (Arm fuse)) refl refl
              (ap (λ (b : Bool). history n ++ (if b then expiry_by n g.clock fuse else []))
              (sym (and_true (is_there n (moment_of g)) (nat_le fuse.due g.clock) is)))
              ((expiry_known fuse now refl).each n i e);
        })
    arm_known fuse false is =
        let now : RunState = record g { instances = change_at (with_expiry fuse g.clock) g.instances fuse.pid } in
        let later : RunState = record g { fuses = with_fuse fuse g.fuses } in
        let on : armed g fuse ≡ later = ap (λ (b : Bool). if b then now else later) is in
        let comes : ℕ → List PortEvent = λ n. comes_by_one n (moment_of g) (Arm fuse) in
        let quiet : AreKnown ps system g deeds (λ n. history n ++ comes n) =
        nothing_comes comes (λ n. ap (λ (b : Bool). if b then expiry_by n g.clock fuse else [])
        (and_false (is_there n (moment_of g)) (nat_le fuse.due g.clock) is)) in
        subst (λ (h : RunState). AreKnown ps system h deeds (λ n. history n ++ comes n)) (sym on) (record {
          system_is = quiet.system_is;
          beyond = quiet.beyond;
          each = quiet.each;
        })

-- ---- an instance is made

-- what a create of a process of the system does
pub create_is : (system : SystemValue) (g : RunState) (id : ProcessId) (number parent : ℕ) (values : List Value)
    (process : Process) → g.system ≡ system → slice_get system.processes id.0 ≡ Some process
    → after_effect g (Create id number parent values)
    ≡ record g {
      instances = g.instances
          ++ instance_of system process (record { process = id; pid = number; parent = Of parent }) values ∷ [];
    }
create_is system g id number parent values process same is =
    let who : Identity = record { process = id; pid = number; parent = Of parent } in
    ap (λ (o : Option Process). record g { instances = with_created g.system g.instances who values o })
    (ap (λ (s : SystemValue). slice_get s.processes id.0) same ∙ is)
    ∙ ap (λ (s : SystemValue). record g { instances = with_created s g.instances who values (Some process) }) same

module _ (ps : List Behaviour) (system : SystemValue) (behaviours : AreBehaviours system ps) where
  create_known : (deeds : ℕ → List Deed) (history : ℕ → List PortEvent) (g : RunState) (id : ProcessId)
      (number parent : ℕ) (values : List Value) → AreKnown ps system g deeds history
      → number ≡ length g.instances + 1 → IsProcess system id
      → AreKnown ps system (after_effect g (Create id number parent values)) deeds (λ n. history n ++ [])
  create_known deeds history g id number parent values known next made =
      let who : Identity = record { process = id; pid = number; parent = Of parent } in
      let new : InstanceValue = instance_of system made.process who values in
      let more : List InstanceValue = g.instances ++ new ∷ [] in
      let now : RunState = record g { instances = more } in
      let count : length more ≡ length g.instances + 1 = length-append g.instances (new ∷ []) in
      let is : after_effect g (Create id number parent values) ≡ now =
      create_is system g id number parent values made.process known.system_is made.is_there in
      subst (λ (h : RunState). AreKnown ps system h deeds (λ n. history n ++ [])) (sym is) (record {
        system_is = known.system_is;
        beyond = λ n less.
            let none = known.beyond n (omega (arith, less, count)) in
            (none.0, append-nil (history n) ∙ none.1);
        each = λ n i e.
            elim (at_more g.instances new n i e) [
              | inl w ↦
                  known_as ps system n i i (deeds n) (deeds n) (history n) (history n ++ []) refl refl
                  (sym (append-nil (history n))) (known.each n i w)
              | inr w ↦
                  let none = known.beyond n (omega (arith, w.0)) in
                  known_as ps system n new i [] (deeds n) [] (history n ++ []) (sym w.1) (sym none.0)
                  (sym (append-nil (history n) ∙ none.1))
                  (known_new ps system made.process who values n behaviours made.is_there (next ∙ sym w.0))
            ];
      })

  effect_known : (deeds : ℕ → List Deed) (history : ℕ → List PortEvent) (g : RunState) (effect : Effect)
      → AreKnown ps system g deeds history → MakesNext system (length g.instances) effect
      → AreKnown ps system (after_effect g effect) deeds (λ n. history n ++ comes_by_one n (moment_of g) effect)
  effect_known deeds history g (Send target item) known makes = send_known ps system deeds history g known target item
  effect_known deeds history g (Arm fuse) known makes =
      arm_known ps system deeds history g known fuse (nat_le fuse.due g.clock) refl
  effect_known deeds history g (Create id number parent values) known makes =
      create_known deeds history g id number parent values known makes.0 makes.1

-- ---- the moment behind an act

pub effect_system : (g : RunState) (effect : Effect) → (after_effect g effect).system ≡ g.system
effect_system g (Send (Instance number) item) = refl
effect_system g (Send Env item) = refl
effect_system g (Send Null item) = refl
effect_system g (Send Nobody item) = refl
effect_system g (Arm fuse) =
    by_test (nat_le fuse.due g.clock)
    (record g { instances = change_at (with_expiry fuse g.clock) g.instances fuse.pid })
    (record g { fuses = with_fuse fuse g.fuses }) refl refl where
      by_test : (b : Bool) (now later : RunState) → now.system ≡ g.system → later.system ≡ g.system
          → (if b then now else later).system ≡ g.system
      by_test true now later first second = first
      by_test false now later first second = second
effect_system g (Create id number parent values) = refl

moment_at : (given clock clock' given' : ℕ) → given ≡ given' → clock ≡ clock'
    → let now : Moment = record { given = given; clock = clock } in now ≡ record { given = given'; clock = clock' }
moment_at given clock clock' given' same also =
    ap (λ k. let now : Moment = record { given = k; clock = clock } in now) same
    ∙ ap (λ k. let now : Moment = record { given = given'; clock = k } in now) also

pub effect_moment : (system : SystemValue) (g : RunState) (effect : Effect) → g.system ≡ system
    → MakesNext system (length g.instances) effect
    → moment_of (after_effect g effect) ≡ record { given = given_after_one (length g.instances) effect; clock = g.clock }
effect_moment system g (Send (Instance number) item) same makes =
    moment_at (length (change_at (with_put item) g.instances number)) g.clock g.clock (length g.instances)
    (length-change (with_put item) g.instances number) refl
effect_moment system g (Send Env item) same makes = refl
effect_moment system g (Send Null item) same makes = refl
effect_moment system g (Send Nobody item) same makes = refl
effect_moment system g (Arm fuse) same makes =
    let changed : List InstanceValue = change_at (with_expiry fuse g.clock) g.instances fuse.pid in
    by_test (nat_le fuse.due g.clock) (record g { instances = changed }) (record g { fuses = with_fuse fuse g.fuses })
    (moment_at (length changed) g.clock g.clock (length g.instances)
    (length-change (with_expiry fuse g.clock) g.instances fuse.pid) refl) refl where
      by_test : (b : Bool) (now later : RunState) → moment_of now ≡ moment_of g → moment_of later ≡ moment_of g
          → moment_of (if b then now else later) ≡ moment_of g
      by_test true now later first second = first
      by_test false now later first second = second
effect_moment system g (Create id number parent values) same makes =
    let new : InstanceValue =
    instance_of system makes.1.process (record { process = id; pid = number; parent = Of parent }) values in
    ap moment_of (create_is system g id number parent values makes.1.process same makes.1.is_there)
    ∙ moment_at (length (g.instances ++ new ∷ [])) g.clock g.clock (length g.instances + 1)
    (length-append g.instances (new ∷ [])) refl

-- ---- several acts

pub effects_moment : (system : SystemValue) (g : RunState) (done : List Effect) → g.system ≡ system
    → MakeNext system (length g.instances) done
    → moment_of (after_effects g done) ≡ record { given = given_after (length g.instances) done; clock = g.clock }
effects_moment system g [] same make = refl
effects_moment system g (effect ∷ rest) same make =
    let one = effect_moment system g effect same make.0 in
    let count : length (after_effect g effect).instances ≡ given_after_one (length g.instances) effect =
    ap (λ (m : Moment). m.given) one in
    effects_moment system (after_effect g effect) rest (effect_system g effect ∙ same)
    (subst (λ k. MakeNext system k rest) (sym count) make.1)
    ∙ moment_at (given_after (length (after_effect g effect).instances) rest) (after_effect g effect).clock g.clock
    (given_after (given_after_one (length g.instances) effect) rest) (ap (λ k. given_after k rest) count)
    (ap (λ (m : Moment). m.clock) one)

module _ (ps : List Behaviour) (system : SystemValue) (behaviours : AreBehaviours system ps) where
  pub effects_known : (deeds : ℕ → List Deed) (history : ℕ → List PortEvent) (g : RunState) (done : List Effect)
      → AreKnown ps system g deeds history → MakeNext system (length g.instances) done
      → AreKnown ps system (after_effects g done) deeds (λ n. history n ++ comes_by n (moment_of g) done)
  effects_known deeds history g [] known make =
      are_known_as ps system deeds history deeds (λ n. history n ++ []) g g refl (λ n. refl)
      (λ n. sym (append-nil (history n))) known
  effects_known deeds history g (effect ∷ rest) known make =
      let h : RunState = after_effect g effect in
      let comes : ℕ → List PortEvent = λ n. comes_by_one n (moment_of g) effect in
      let moment = effect_moment system g effect known.system_is make.0 in
      let count : length h.instances ≡ given_after_one (length g.instances) effect = ap (λ (m : Moment). m.given) moment in
      let one : AreKnown ps system h deeds (λ n. history n ++ comes n) =
      effect_known ps system behaviours deeds history g effect known make.0 in
      are_known_as ps system deeds (λ n. history n ++ comes n ++ comes_by n (moment_of h) rest) deeds
      (λ n. history n ++ comes_by n (moment_of g) (effect ∷ rest)) (after_effects h rest) (after_effects h rest) refl (λ n. refl)
      (λ n. append_assoc (history n) (comes n) (comes_by n (moment_of h) rest)
      ∙ ap (λ (m : Moment). history n ++ (comes n ++ comes_by n m rest)) moment)
      (effects_known deeds (λ n. history n ++ comes n) h rest one
      (subst (λ k. MakeNext system k rest) (sym count) make.1))
