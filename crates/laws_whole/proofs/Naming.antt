-- Who is not there yet is reached by a Pid alone: routes lead to those that live.
use Rattle.std.proofs.Common.{◌≡◌, ◌∙◌, ◌+◌, ◌<◌, ◌≤◌, ap, arith, if◌then◌else◌, refl, subst, sym, unwrap_or, ℕ, suc, Bool, true, false, All, IfSome, List, [], ◌∷◌, None, Option, Some, length, slice_get, slice_index_or}
use Rattle.std.proofs.lemmas.List.Elements.{All-map, All-set, All-weaker}
use Rattle.std.proofs.lemmas.Option.{none-some}
use Rattle.std.specs.List.{range_with_len}
use Rattle.std.specs.Option.{option_map}
use Rattle.laws_creates.proofs.Numbers.{Numbered}
use Rattle.laws_creates.specs.Creates.{identities}
use Rattle.laws_whole.proofs.Lists.{all_at}
use Rattle.port_model.specs.declared.values.item.SignalId.{SignalId}
use Rattle.port_model.specs.declared.values.pid.Pid.{Pid}
use Rattle.port_model.specs.declared.values.pid.Pid.TheVariants as pid
use Rattle.run_record.specs.declared.evaluation.identity.Identity.{Identity}
use Rattle.run_record.specs.Event as event
use Rattle.run_record.specs.Event.{Event}
use Rattle.run_semantics.specs.Effect.{Arm, Create, Deed, Effect, Send}
use Rattle.run_semantics.specs.World as world
use Rattle.run_semantics.specs.World.{IsRouteBy, IsTrueOf, IsTrueOfOne, Living, WorldValue, living_after, time_after_one}
use Rattle.sdl_interp.specs.Instance.{InstanceValue}
use Rattle.sdl_script.specs.declared.script.ScriptSignal.{ScriptSignal}
use Rattle.sdl_system.specs.Route.{first_living, instance_or, living_in, or_later, pid_target, reaches_env, receivers, target_in}
use Rattle.sdl_system.specs.System.{SystemValue}
use Rattle.sdl_system.specs.declared.id.ProcessId.{ProcessId}
use Rattle.sdl_system.specs.declared.route.Dest.{Dest}
use Rattle.sdl_system.specs.declared.route.Dest.TheVariants as dest
use Rattle.sdl_system.specs.declared.route.Routes.{Routes}
use Rattle.sdl_system.specs.declared.route.Source.{Source}
use Rattle.sdl_system.specs.declared.route.Source.TheVariants as source
use Rattle.sdl_system.specs.declared.route.Target.{Target}
use Rattle.sdl_system.specs.declared.route.Target.TheVariants.{Env, Instance, Nobody, Null}
use Rattle.serial_order.specs.RunState.{RunState, least_living, lives_of, living_of, world_at}
use Rattle.serial_order.specs.Told.{given_after, given_after_one}

-- ---- numbers that are given

abbrev pub IsGiven : ℕ → Option ℕ → Type 0
IsGiven given o = IfSome o (λ k. k ≤ given)

abbrev pub AreGiven : ℕ → List (Option ℕ) → Type 0
AreGiven given least = All (IsGiven given) least

module _ (given : ℕ) (least : List (Option ℕ)) (are : AreGiven given least) where
  living_given : (process : ProcessId) (k : ℕ) → living_in least process ≡ Some k → k ≤ given
  living_given process k is = by_option (slice_get least process.0) refl is where
    by_option : (o : Option (Option ℕ)) → slice_get least process.0 ≡ o → unwrap_or o None ≡ Some k → k ≤ given
    by_option None there none = absurd (none-some k none)
    by_option (Some inner) there is =
        subst (λ (o : Option ℕ). IsGiven given o) is (all_at (IsGiven given) least process.0 inner there are)

  first_given : (processes : List ProcessId) (k : ℕ) → first_living least processes ≡ Some k → k ≤ given
  first_given [] k is = absurd (none-some k is)
  first_given (process ∷ rest) k is =
      by_option (living_in least process) refl is (λ later. first_given rest k later) where
        by_option : (o : Option ℕ) → living_in least process ≡ o → or_later o (first_living least rest) ≡ Some k
            → (first_living least rest ≡ Some k → k ≤ given) → k ≤ given
        by_option None none is later = later is
        by_option (Some j) there is later = living_given process k (there ∙ is)

  -- what reaches one that is not given names it by its Pid
  module _ (routes : Routes) (signal : SignalId) (from : Source) (k : ℕ) (beyond : given < k) where
    not_given : (j : ℕ) → Instance j ≡ Instance k → j ≤ given → ⊥
    not_given j same within =
        let is : j ≡ k = cc in
        let wrong : ⊥ = omega (arith, is, within, beyond) in
        wrong

    by_living : (o : Option ℕ) (other : Target) → ((j : ℕ) → o ≡ Some j → j ≤ given) → (other ≡ Instance k → ⊥)
        → instance_or o other ≡ Instance k → ⊥
    by_living None other within no_other same = no_other same
    by_living (Some j) other within no_other same = not_given j same (within j refl)

    env_or_nobody : (b : Bool) → (if b then Env else Nobody) ≡ Instance k → ⊥
    env_or_nobody true same = cc
    env_or_nobody false same = cc

    by_pid : (who : Pid) → pid_target who ≡ Instance k → who ≡ pid.Of k
    by_pid pid.Null same = let wrong : ⊥ = cc in absurd wrong
    by_pid pid.Env same = let wrong : ⊥ = cc in absurd wrong
    by_pid (pid.Of number) same = let is : number ≡ k = cc in ap pid.Of is

    pub names_pid : (to : Dest) → target_in routes signal from to least ≡ Instance k → to ≡ dest.Pid (pid.Of k)
    names_pid (dest.Pid who) same = ap dest.Pid (by_pid who same)
    names_pid (dest.Process process) same =
        absurd (by_living (living_in least process) Nobody (λ j is. living_given process j is) (λ other. cc) same)
    names_pid dest.Path same =
        absurd (by_living (first_living least (receivers routes from signal))
        (if reaches_env routes from signal then Env else Nobody)
        (λ j is. first_given (receivers routes from signal) j is) (env_or_nobody (reaches_env routes from signal)) same)

-- ---- outputs

-- what an output sends to one that is not given names it by its Pid
abbrev pub IsByPid : ℕ → Event → Type 0
IsByPid given (event.Output signal to values (Instance number)) = given < number → to ≡ dest.Pid (pid.Of number)
IsByPid given happened = Unit {0}

abbrev pub AreByPid : ℕ → List Deed → Type 0
AreByPid given [] = Unit {0}
AreByPid given (deed ∷ rest) = IsByPid given deed.event × AreByPid (given_after given deed.effects) rest

-- who lives in a world has a number that is given
pub record Knows (w : WorldValue) (given : ℕ) : Type 0 where
  living : Living
  known : w.living ≡ Some living
  are : AreGiven given living.least
  given_is : living.given ≡ given

more_given : (given : ℕ) (least : List (Option ℕ)) → AreGiven given least → AreGiven (given + 1) least
more_given given least are =
    All-weaker (IsGiven given) (IsGiven (given + 1)) more least are where
      more : (o : Option ℕ) → IsGiven given o → IsGiven (given + 1) o
      more None within = tt
      more (Some k) within = omega (arith, within)

later_given : (given : ℕ) (o : Option ℕ) → IsGiven given o → IsGiven (given + 1) (or_later o (Some (given + 1)))
later_given given None within = omega arith
later_given given (Some k) within = omega (arith, within)

living_in_given : (given : ℕ) (least : List (Option ℕ)) → AreGiven given least → (process : ProcessId)
    → IsGiven given (living_in least process)
living_in_given given least are process = by_option (living_in least process) refl where
  by_option : (o : Option ℕ) → living_in least process ≡ o → IsGiven given o
  by_option None is = tt
  by_option (Some k) is = living_given given least are process k is

known_after : (w : WorldValue) (effect : Effect) (living : Living) → w.living ≡ Some living
    → (world.after_effect w effect).living ≡ Some (living_after living effect)
known_after w effect living known =
    ap (λ (o : Option Living). option_map (λ living. living_after living effect) o) known

one_knows : (w : WorldValue) (given : ℕ) (effect : Effect) → Knows w given
    → Knows (world.after_effect w effect) (given_after_one given effect)
one_knows w given (Send target item) knows =
    record {
      living = knows.living;
      known = known_after w (Send target item) knows.living knows.known;
      are = knows.are;
      given_is = knows.given_is;
    }
one_knows w given (Arm fuse) knows =
    record {
      living = knows.living;
      known = known_after w (Arm fuse) knows.living knows.known;
      are = knows.are;
      given_is = knows.given_is;
    }
one_knows w given (Create process number parent values) knows =
    let before : Living = knows.living in
    let effect : Effect = Create process number parent values in
    record {
      living = living_after before effect;
      known = known_after w effect before knows.known;
      are = All-set (IsGiven (given + 1)) before.least process.0
          (or_later (living_in before.least process) (Some (before.given + 1)))
          (subst (λ k. IsGiven (given + 1) (or_later (living_in before.least process) (Some (k + 1))))
          (sym knows.given_is)
          (later_given given (living_in before.least process) (living_in_given given before.least knows.are process)))
          (more_given given before.least knows.are);
      given_is = ap (λ k. k + 1) knows.given_is;
    }

all_know : (w : WorldValue) (given : ℕ) (done : List Effect) → Knows w given
    → Knows (world.after_effects w done) (given_after given done)
all_know w given [] knows = knows
all_know w given (effect ∷ rest) knows =
    all_know (world.after_effect w effect) (given_after_one given effect) rest (one_knows w given effect knows)

module _ (system : SystemValue) (who : Identity) where
  event_named : (w : WorldValue) (given earlier : ℕ) → Knows w given → (e : Event)
      → IsTrueOfOne system who w earlier e → IsByPid given e
  event_named w given earlier knows (event.Output signal to values (Instance number)) is_true = λ beyond.
      names_pid given knows.living.least knows.are system.routes signal (source.Process who.process) number beyond to
      (sym (subst (λ (o : Option Living). IsRouteBy system o signal who.process to (Instance number)) knows.known
      is_true))
  event_named w given earlier knows happened is_true = tt

  pub deeds_named : (w : WorldValue) (given earlier : ℕ) → Knows w given → (deeds : List Deed)
      → IsTrueOf system who w earlier deeds → AreByPid given deeds
  deeds_named w given earlier knows [] are_true = tt
  deeds_named w given earlier knows (deed ∷ rest) are_true = (
    event_named w given earlier knows deed.event are_true.0,
    deeds_named (world.after_effects w deed.effects) (given_after given deed.effects)
        (time_after_one earlier deed.event)
        (all_know w given deed.effects knows) rest are_true.1,
  )

-- ---- as a step begins

least_number : (process base : ℕ) (xs : List InstanceValue) → Numbered base (identities xs)
    → IfSome (least_living xs process) (λ k. k < base + length xs)
least_number process base [] numbered = tt
least_number process base (x ∷ xs) numbered =
    by_test (lives_of process x) (least_number process (base + 1) xs numbered.1) where
      more : (o : Option ℕ) → IfSome o (λ k. k < base + 1 + length xs) → IfSome o (λ k. k < base + suc (length xs))
      more None within = tt
      more (Some k) within = omega (arith, within)

      by_test : (b : Bool) → IfSome (least_living xs process) (λ k. k < base + 1 + length xs)
          → IfSome (if b then Some x.who.pid else least_living xs process) (λ k. k < base + suc (length xs))
      by_test true later = omega (arith, numbered.0)
      by_test false later = more (least_living xs process) later

all_given : (system : SystemValue) (xs : List InstanceValue) → Numbered 1 (identities xs)
    → AreGiven (length xs) (living_of system xs).least
all_given system xs numbered =
    All-map (IsGiven (length xs)) (least_living xs) (range_with_len 0 (length system.processes))
    (λ k d below. within (slice_index_or (range_with_len 0 (length system.processes)) k d)) where
      less : (o : Option ℕ) → IfSome o (λ k. k < 1 + length xs) → IsGiven (length xs) o
      less None within = tt
      less (Some k) within = omega (arith, within)

      within : (process : ℕ) → IsGiven (length xs) (least_living xs process)
      within process = less (least_living xs process) (least_number process 1 xs numbered)

pub world_knows : (g : RunState) → Numbered 1 (identities g.instances) → Knows (world_at g) (length g.instances)
world_knows g numbered = record {
  living = living_of g.system g.instances;
  known = refl;
  are = all_given g.system g.instances numbered;
  given_is = refl;
}

-- ---- lines

-- a signal of the script that goes to one that is not given names it by its Pid
abbrev pub IsLineByPid : ℕ → Option ScriptSignal → Target → Type 0
IsLineByPid given (Some signal) (Instance number) = given < number → signal.to ≡ dest.Pid (pid.Of number)
IsLineByPid given o target = Unit {0}

pub line_named : (g : RunState) → Numbered 1 (identities g.instances) → (signal : ScriptSignal) (target : Target)
    → target ≡ target_in g.system.routes signal.item.name source.Env signal.to (living_of g.system g.instances).least
    → IsLineByPid (length g.instances) (Some signal) target
line_named g numbered signal (Instance number) is = λ beyond.
    names_pid (length g.instances) (living_of g.system g.instances).least (all_given g.system g.instances numbered)
    g.system.routes signal.item.name source.Env number beyond signal.to (sym is)
line_named g numbered signal Env is = tt
line_named g numbered signal Null is = tt
line_named g numbered signal Nobody is = tt
