-- Why a create gives no number, and where signals go: a step sees who lives as it is then.
use Rattle.std.proofs.Common.{◌≡◌, ◌≢◌, ◌≤◌, zero, suc, ◌∙◌, ◌||◌, ◌++◌, ◌+◌, ◌<◌, ap, arith, if◌then◌else◌, refl, subst, sym, ℕ, Bool, true, false, IfSome, List, [], ◌∷◌, None, Option, Some, length, nat_le, slice_get, unwrap_or}
use Rattle.std.specs.Option.{option_map, option_map_or}
use Rattle.std.proofs.lemmas.List.Concat.{flat_map-append}
use Rattle.std.proofs.lemmas.Option.{none-some, same_Some, slice_get_within}
use Rattle.serial_order.proofs.Made.{MakeNext}
use Rattle.serial_order.specs.Execution.{Steps}
use Rattle.serial_order.specs.RunState.{RunState, after_effect, after_effects, world_at, living_of, count_living, heard_effects, is_ended, least_living, lives_of}
use Rattle.serial_order.specs.Told.{given_after, given_after_one}
use Rattle.laws_creates.proofs.LivingLemmas.{living_effect, get_range, it, lives_own}
use Rattle.laws_creates.proofs.Creates.{effect_count, effect_system, effects_system, step_makes, system_kept}
use Rattle.laws_creates.proofs.Numbers.{Numbered, effects_numbered, all_numbered}
use Rattle.laws_creates.proofs.Sending.{step_sent}
use Rattle.laws_creates.specs.Creates.{identities}
use Rattle.laws_creates.specs.Steps.{AreCounted, EachIsCounted, EachIsCountedAmid, HasNoNumber, NullsHaveCause, OutputsAreMeant, SignalsAreMeant, all_given, as_many, no_process}
use Rattle.run_record.specs.declared.evaluation.identity.Identity.{Identity}
use Rattle.sdl_interp.specs.Instance.{InstanceValue}
use Rattle.run_record.specs.Event as event
use Rattle.run_record.specs.Event.{Event}
use Rattle.run_semantics.specs.Effect.{Effect, Deed, Send, effects_of}
use Rattle.run_semantics.specs.World.{Living, IsRouteBy, IsTrueOf, IsTrueOfOne, WorldValue, count_in, is_full, is_reached, most_instances, number_for, time_after_one}
use Rattle.run_semantics.specs.World as world
use Rattle.sdl_script.specs.declared.script.ScriptSignal.{ScriptSignal}
use Rattle.sdl_interp.specs.declared.transitions.machine.Position.{Position}
use Rattle.sdl_interp.specs.declared.transitions.machine.Position.TheVariants as position
use Rattle.sdl_system.specs.Behaviour.{Behaviour}
use Rattle.sdl_system.specs.Route.{target_in}
use Rattle.sdl_system.specs.System.{SystemValue}
use Rattle.sdl_system.specs.declared.id.ProcessId.{ProcessId}
use Rattle.sdl_system.specs.declared.process.Process.{Process}
use Rattle.sdl_system.specs.declared.route.Source.TheVariants as source

-- ---- the world of a deed

after_effects-append : (g : RunState) (first later : List Effect)
    → after_effects g (first ++ later) ≡ after_effects (after_effects g first) later
after_effects-append g [] later = refl
after_effects-append g (effect ∷ rest) later = after_effects-append (after_effect g effect) rest later

pub MakeNext-split : (system : SystemValue) (given : ℕ) (first later : List Effect) → MakeNext system given (first ++ later)
    → MakeNext system given first × MakeNext system (given_after given first) later
MakeNext-split system given [] later make = (tt, make)
MakeNext-split system given (effect ∷ rest) later make =
    let more = MakeNext-split system (given_after_one given effect) rest later make.1 in
    ((make.0, more.0), more.1)

-- a world sees the system and who lives as they are
record Sees (system : SystemValue) (w : WorldValue) (g : RunState) : Type 0 where
  system_is : w.system ≡ system
  living : w.living ≡ Some (living_of system g.instances)

module _ (system : SystemValue) where
  sees_effects : (w : WorldValue) (g : RunState) (done : List Effect) → g.system ≡ system
      → MakeNext system (length g.instances) done → Sees system w g
      → Sees system (world.after_effects w done) (after_effects g done)
      × (length (after_effects g done).instances ≡ given_after (length g.instances) done)
  sees_effects w g [] same make sees = (sees, refl)
  sees_effects w g (effect ∷ rest) same make sees =
      let h : RunState = after_effect g effect in
      let count : length h.instances ≡ given_after_one (length g.instances) effect = effect_count system g effect same make.0 in
      let one : Sees system (world.after_effect w effect) h = record {
        system_is = sees.system_is;
        living = ap (λ (o : Option Living). option_map (λ living. world.living_after living effect) o) sees.living
            ∙ ap Some (living_effect system g effect same make.0);
      } in
      let more = sees_effects (world.after_effect w effect) h rest (effect_system g effect ∙ same)
      (subst (λ k. MakeNext system k rest) (sym count) make.1) one in
      (more.0, more.1 ∙ ap (λ k. given_after k rest) count)

  -- what is said by a deed is true of the world as it is then
  record AtDeed (who : Identity) (g : RunState) (deed : Deed) : Type 0 where
    w : WorldValue
    earlier : ℕ
    sees : Sees system w g
    is_true : IsTrueOfOne system who w earlier deed.event

  module _ (who : Identity) (deed : Deed) (after : List Deed) where
    at_deed : (before : List Deed) (w : WorldValue) (g : RunState) (earlier : ℕ) → g.system ≡ system
        → Sees system w g → IsTrueOf system who w earlier (before ++ deed ∷ after)
        → MakeNext system (length g.instances) (effects_of (before ++ deed ∷ after))
        → AtDeed who (after_effects g (effects_of before)) deed
    at_deed [] w g earlier same sees are_true make =
        record { w = w; earlier = earlier; sees = sees; is_true = are_true.0 }
    at_deed (first ∷ rest) w g earlier same sees are_true make =
        let h : RunState = after_effects g first.effects in
        let parts =
        MakeNext-split system (length g.instances) first.effects (effects_of (rest ++ deed ∷ after)) make in
        let one = sees_effects w g first.effects same parts.0 sees in
        subst (λ (g : RunState). AtDeed who g deed) (sym (after_effects-append g first.effects (effects_of rest)))
        (at_deed rest (world.after_effects w first.effects) h (time_after_one earlier first.event)
        (effects_system g first.effects ∙ same) one.0 are_true.1
        (subst (λ k. MakeNext system k (effects_of (rest ++ deed ∷ after))) (sym one.1) parts.1))

-- a deed of a step
step_deed : (ps : List Behaviour) (system : SystemValue) (g : RunState) (who : Identity) (before : List Deed)
    (deed : Deed) (after : List Deed) (h : RunState) → g.system ≡ system → Steps ps g who (before ++ deed ∷ after) h
    → AtDeed system who (after_effects g (effects_of before)) deed
step_deed ps system g who before deed after h same step =
    let old : InstanceValue = step.old in
    let deeds : List Deed = before ++ deed ∷ after in
    let are_true : IsTrueOf system who (world_at g) old.store.time deeds =
    subst (λ (w : Identity). IsTrueOf system w (world_at g) old.store.time deeds) step.is_who
    (subst (λ (list : List Deed). IsTrueOf system old.who (world_at g) old.store.time list) step.deeds_are
    (subst (λ (s : SystemValue). IsTrueOf s old.who (world_at g) old.store.time step.goes.deeds)
    (step.of_system ∙ same) step.goes.are_true)) in
    at_deed system who deed after before (world_at g) g old.store.time same
    (record { system_is = same; living = ap (λ (s : SystemValue). Some (living_of s g.instances)) same })
    are_true (step_makes ps g who deeds h step system same)

-- ---- creates

module _ (system : SystemValue) (instances : List InstanceValue) (id : ProcessId) where
  abbrev there : Living
  there = living_of system instances

  full_by : (full : Bool) → None ≡ (if full then None else Some (length instances + 1)) → full ≡ true
  full_by true is = refl
  full_by false is = let no : ⊥ = cc in absurd no

  count_is : (process : Process) → slice_get system.processes id.0 ≡ Some process
      → count_in there id ≡ count_living instances id.0
  count_is process is =
      let inside : id.0 < length system.processes = slice_get_within system.processes id.0 process is in
      ap (λ (o : Option ℕ). unwrap_or o 0)
      (get_range (count_living instances) 0 (length system.processes) id.0 inside)
      ∙ ap (count_living instances) (omega arith)

  reached_by : (process : Process) → slice_get system.processes id.0 ≡ Some process → (most : Option ℕ)
      → process.maximum ≡ most → is_reached most (count_in there id) ≡ true → HasNoNumber system instances id
  reached_by process is None bounded reached = let no : ⊥ = cc in absurd no
  reached_by process is (Some most) bounded reached =
      as_many process most is bounded
      (omega (arith, below most (count_in there id) reached, count_is process is)) where
        below : (a b : ℕ) → nat_le a b ≡ true → a < b + 1
        below a b is = grind (arith, is)

  given_by : nat_le most_instances (length instances) ≡ true → HasNoNumber system instances id
  given_by is = all_given (grind (arith, is))

  either_by : (process : Process) → slice_get system.processes id.0 ≡ Some process → (a b : Bool)
      → is_reached process.maximum (count_in there id) ≡ a → nat_le most_instances (length instances) ≡ b
      → (a || b) ≡ true → HasNoNumber system instances id
  either_by process is true b first second full = reached_by process is process.maximum refl first
  either_by process is false b first second full = given_by (second ∙ full)

  process_by : (o : Option Process) → slice_get system.processes id.0 ≡ o
      → (option_map_or (λ (p : Process). is_reached p.maximum (count_in there id)) o true
      || nat_le most_instances (length instances)) ≡ true → HasNoNumber system instances id
  process_by None is full = no_process is
  process_by (Some process) is full =
      either_by process is (is_reached process.maximum (count_in there id))
      (nat_le most_instances (length instances)) refl refl full

  no_number : None ≡ number_for system there id → HasNoNumber system instances id
  no_number is =
      process_by (slice_get system.processes id.0) refl (full_by (is_full system there id) is)

-- a create gives none for a cause
pub nulls_have_cause : NullsHaveCause
nulls_have_cause ps system lines time happenings g h who before deed after execution step id is =
    let now : RunState = after_effects g (effects_of before) in
    let at : AtDeed system who now deed =
    step_deed ps system g who before deed after h (system_kept ps system time execution) step in
    let says : IsTrueOfOne system who at.w at.earlier (event.Create id None) =
    subst (λ (e : Event). IsTrueOfOne system who at.w at.earlier e) is at.is_true in
    let by_living : None ≡ number_for at.w.system (living_of system now.instances) id =
    subst (λ (o : Option Living). IfSome o (λ living. None ≡ number_for at.w.system living id)) at.sees.living says in
    no_number system now.instances id
    (subst (λ (s : SystemValue). None ≡ number_for s (living_of system now.instances) id) at.sees.system_is by_living)

-- ---- targets

-- what an instance sends goes where the routes lead
pub outputs_are_meant : OutputsAreMeant
outputs_are_meant ps system lines time happenings g h who before deed after execution step signal to values
    target is =
    let now : RunState = after_effects g (effects_of before) in
    let at : AtDeed system who now deed =
    step_deed ps system g who before deed after h (system_kept ps system time execution) step in
    let says : IsRouteBy system at.w.living signal who.process to target =
    subst (λ (e : Event). IsTrueOfOne system who at.w at.earlier e) is at.is_true in (
      subst (λ (o : Option Living). IsRouteBy system o signal who.process to target) at.sees.living says,
      step_sent ps g who before deed after h step signal to values target is,
    )

-- so does a signal of the script
pub signals_are_meant : SignalsAreMeant
signals_are_meant ps system lines time happenings g h line effects signal execution hears is =
    let same : g.system ≡ system = system_kept ps system time execution in
    hears.effects_are ∙ ap (λ (o : Option ScriptSignal). heard_effects g o) is
    ∙ ap (λ (s : SystemValue). let all : List Effect = Send
    (target_in s.routes signal.item.name source.Env signal.to (living_of s g.instances).least) signal.item ∷ [] in all)
    same

-- ---- who counts

lives_at : (at : Position) → at ≢ position.Ended → is_ended at ≡ false
lives_at position.BeforeStart lives = refl
lives_at (position.In n) lives = refl
lives_at position.Ended lives = absurd (lives refl)

-- the least number of those that live in a list, the first of which has this number
module _ (i : InstanceValue) (lives : is_ended i.position ≡ false) where
  abbrev own : ℕ
  own = i.who.process.0

  record Least (xs : List InstanceValue) (most : ℕ) : Type 0 where
    least : ℕ
    is : least_living xs own ≡ Some least
    within : least ≤ most

  least_first : (x : InstanceValue) (xs : List InstanceValue) (most : ℕ) → lives_of own x ≡ true → x.who.pid ≤ most
      → Least (x ∷ xs) most
  least_first x xs most here less = record {
    least = x.who.pid;
    is = ap (λ (b : Bool). if b then Some x.who.pid else least_living xs own) here;
    within = less;
  }

  least_later : (n : ℕ) (x : InstanceValue) (xs : List InstanceValue) (k : ℕ) → x.who.pid ≡ n → Least xs (n + 1 + k)
      → (b : Bool) → lives_of own x ≡ b → Least (x ∷ xs) (n + suc k)
  least_later n x xs k number later true here = least_first x xs (n + suc k) here (omega (arith, number))
  least_later n x xs k number later false other = record {
    least = later.least;
    is = ap (λ (b : Bool). if b then Some x.who.pid else least_living xs own) other ∙ later.is;
    within = omega (arith, later.within);
  }

  least_at : (n : ℕ) (xs : List InstanceValue) (k : ℕ) → Numbered n (identities xs) → slice_get xs k ≡ Some i
      → Least xs (n + k)
  least_at n [] k are there = absurd (none-some i there)
  least_at n (x ∷ xs) zero are there =
      let is : i ≡ x = sym (same_Some x i there) in
      least_first x xs (n + 0)
      (subst (λ (j : InstanceValue). lives_of own j ≡ true) is (lives_own i own (it own own refl) lives))
      (omega (arith, are.0))
  least_at n (x ∷ xs) (suc k) are there =
      least_later n x xs k are.0 (least_at (n + 1) xs k are.1 there) (lives_of own x) refl

counted : (instances : List InstanceValue) → Numbered 1 (identities instances) → AreCounted instances
counted instances are zero i there lives = absurd (none-some i there)
counted instances are (suc k) i there lives =
    let found : Least i (lives_at i.position lives) instances (1 + k) =
    least_at i (lives_at i.position lives) 1 instances k are there in
    (found.least, found.is, omega (arith, found.within))

-- who hasn't ended counts where a line is heard, and amid a step
pub each_is_counted : EachIsCounted
each_is_counted ps system lines time happenings last behaviours execution =
    counted last.instances (all_numbered ps system time execution)

pub each_is_counted_amid : EachIsCountedAmid
each_is_counted_amid ps system lines time happenings g h who before deed after execution step =
    let same : g.system ≡ system = system_kept ps system time execution in
    let deeds : List Deed = before ++ deed ∷ after in
    let parts : MakeNext system (length g.instances) (effects_of before)
    × MakeNext system (given_after (length g.instances) (effects_of before)) (effects_of (deed ∷ after)) =
    MakeNext-split system (length g.instances) (effects_of before) (effects_of (deed ∷ after))
    (subst (λ (list : List Effect). MakeNext system (length g.instances) list)
    (flat_map-append (λ (deed : Deed). deed.effects) before (deed ∷ after))
    (step_makes ps g who deeds h step system same)) in
    counted (after_effects g (effects_of before)).instances
    (effects_numbered system g (effects_of before) same parts.0 (all_numbered ps system time execution))
