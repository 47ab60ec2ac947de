-- What a create makes: the next number, of a process of the system.
use Rattle.std.proofs.Common.{◌≡◌, ◌∙◌, ◌+◌, ◌||◌, ap, refl, subst, sym, if◌then◌else◌, ℕ, Bool, true, false, IfSome, List, [], ◌∷◌, ◌++◌, Option, None, Some, nat_le, slice_get}
use Rattle.std.specs.Option.{option_map, option_map_or}
use Rattle.std.proofs.lemmas.Option.{same_Some}
use Rattle.port_model.specs.declared.values.value.Value.{Value}
use Rattle.serial_order.specs.Told.{given_after, given_after_one}
use Rattle.run_record.specs.declared.evaluation.identity.Identity.{Identity}
use Rattle.run_record.specs.Event as event
use Rattle.run_record.specs.Event.{Event}
use Rattle.run_semantics.proofs.Acting.{AreActs, AreActsOf}
use Rattle.run_semantics.specs.Effect.{Effect, Arm, Create, Deed, Send, effects_of}
use Rattle.run_semantics.specs.Leads.{created}
use Rattle.run_semantics.specs.World.{Living, IsTrueOf, IsTrueOfOne, WorldValue, after_effect, after_effects, living_after, count_in, is_reached, most_instances, number_for, time_after_one}
use Rattle.sdl_system.specs.System.{SystemValue}
use Rattle.sdl_system.specs.declared.id.ProcessId.{ProcessId}
use Rattle.sdl_system.specs.declared.process.Process.{Process}

-- this is a process of the system
pub record IsProcess (system : SystemValue) (id : ProcessId) : Type 0 where
  pub process : Process
  pub is_there : slice_get system.processes id.0 ≡ Some process

-- where so many numbers were given, an act makes an instance with the next one
abbrev pub MakesNext : SystemValue → ℕ → Effect → Type 0
MakesNext system given (Send target item) = Unit {0}
MakesNext system given (Arm fuse) = Unit {0}
MakesNext system given (Create process number parent values) = (number ≡ given + 1) × IsProcess system process

-- so do several acts
abbrev pub MakeNext : SystemValue → ℕ → List Effect → Type 0
MakeNext system given [] = Unit {0}
MakeNext system given (effect ∷ rest) = MakesNext system given effect × MakeNext system (given_after_one given effect) rest

MakeNext-append : (system : SystemValue) (given : ℕ) (first later : List Effect) → MakeNext system given first
    → MakeNext system (given_after given first) later → MakeNext system given (first ++ later)
MakeNext-append system given [] later make more = more
MakeNext-append system given (effect ∷ rest) later make more =
    (make.0, MakeNext-append system (given_after_one given effect) rest later make.1 more)

-- ---- the number of a create

module _ (system : SystemValue) (living : Living) (id : ProcessId) (number : ℕ) where
  by_full : (full : Bool) → Some number ≡ (if full then None else Some (living.given + 1)) → number ≡ living.given + 1
  by_full true e = let wrong : ⊥ = cc in absurd wrong
  by_full false e = same_Some number (living.given + 1) e

  by_process : (o : Option Process) → slice_get system.processes id.0 ≡ o
      → Some number ≡ (if (option_map_or (λ (p : Process). is_reached p.maximum (count_in living id)) o true
      || nat_le most_instances living.given) then None else Some (living.given + 1))
      → (number ≡ living.given + 1) × IsProcess system id
  by_process None is e = let wrong : ⊥ = cc in absurd wrong
  by_process (Some p) is e = (
    by_full (is_reached p.maximum (count_in living id) || nat_le most_instances living.given) e,
    record { process = p; is_there = is },
  )

  number_is : Some number ≡ number_for system living id → (number ≡ living.given + 1) × IsProcess system id
  number_is e = by_process (slice_get system.processes id.0) refl e

made_next : (system : SystemValue) (living : Living) (id : ProcessId) (number : Option ℕ) (pid : ℕ)
    (values : List Value) → number ≡ number_for system living id
    → MakeNext system living.given (created id pid values number)
made_next system living id None pid values e = tt
made_next system living id (Some number) pid values e = (number_is system living id number e, tt)

-- ---- what deeds make

module _ (system : SystemValue) (who : Identity) (w : WorldValue) (living : Living) (known : w.living ≡ Some living) (earlier : ℕ) where
  nothing_made : (done : List Effect) → done ≡ [] → MakeNext w.system living.given done
  nothing_made done none = subst (λ (list : List Effect). MakeNext w.system living.given list) (sym none) tt

  event_makes : (e : Event) (done : List Effect) → AreActsOf who.pid e done → IsTrueOfOne system who w earlier e
      → MakeNext w.system living.given done
  event_makes (event.Output signal named values target) done are is_true =
      subst (λ (list : List Effect). MakeNext w.system living.given list) (sym are.1) (tt, tt)
  event_makes (event.Set key due) done are is_true =
      subst (λ (list : List Effect). MakeNext w.system living.given list) (sym are.1) (tt, tt)
  event_makes (event.Create id number) done are is_true =
      let next : number ≡ number_for w.system living id =
      subst (λ (o : Option Living). IfSome o (λ living. number ≡ number_for w.system living id)) known is_true in
      subst (λ (list : List Effect). MakeNext w.system living.given list) (sym are.1)
      (made_next w.system living id number who.pid are.0 next)
  event_makes (event.Start at) done are is_true = nothing_made done are
  event_makes (event.Consumed at got) done are is_true = nothing_made done are
  event_makes (event.Prior at got) done are is_true = nothing_made done are
  event_makes (event.Discarded at got) done are is_true = nothing_made done are
  event_makes (event.Provided at number) done are is_true = nothing_made done are
  event_makes (event.FailedAt at why) done are is_true = nothing_made done are
  event_makes (event.Task variable value) done are is_true = nothing_made done are
  event_makes (event.Reset key) done are is_true = nothing_made done are
  event_makes (event.NextState state) done are is_true = nothing_made done are
  event_makes event.Stop done are is_true = nothing_made done are
  event_makes (event.Failed why) done are is_true = nothing_made done are
  event_makes (event.Rest state) done are is_true = nothing_made done are
  event_makes (event.Cut state) done are is_true = nothing_made done are

-- who lives after some effects
record Counts (w : WorldValue) (given : ℕ) : Type 0 where
  living : Living
  known : w.living ≡ Some living
  given_is : living.given ≡ given

counts_one : (w : WorldValue) (given : ℕ) (effect : Effect) → Counts w given
    → Counts (after_effect w effect) (given_after_one given effect)
counts_one w given effect counts = record {
  living = living_after counts.living effect;
  known = ap (λ (o : Option Living). option_map (λ living. living_after living effect) o) counts.known;
  given_is = by_effect effect ∙ ap (λ given. given_after_one given effect) counts.given_is;
} where
  by_effect : (effect : Effect) → (living_after counts.living effect).given ≡ given_after_one counts.living.given effect
  by_effect (Send target item) = refl
  by_effect (Arm fuse) = refl
  by_effect (Create process number parent values) = refl

counts_all : (w : WorldValue) (given : ℕ) (done : List Effect) → Counts w given
    → Counts (after_effects w done) (given_after given done)
counts_all w given [] counts = counts
counts_all w given (effect ∷ rest) counts =
    counts_all (after_effect w effect) (given_after_one given effect) rest (counts_one w given effect counts)

system_kept : (w : WorldValue) (done : List Effect) → (after_effects w done).system ≡ w.system
system_kept w [] = refl
system_kept w (effect ∷ rest) = system_kept (after_effect w effect) rest

deeds_count : (system : SystemValue) (who : Identity) (w : WorldValue) (given earlier : ℕ) (deeds : List Deed) → Counts w given
    → AreActs who.pid deeds → IsTrueOf system who w earlier deeds → MakeNext w.system given (effects_of deeds)
deeds_count system who w given earlier [] counts are are_true = tt
deeds_count system who w given earlier (deed ∷ rest) counts are are_true =
    let first : MakeNext w.system given deed.effects =
    subst (λ given. MakeNext w.system given deed.effects) counts.given_is
    (event_makes system who w counts.living counts.known earlier deed.event deed.effects are.0 are_true.0) in
    let later : MakeNext w.system (given_after given deed.effects) (effects_of rest) =
    subst (λ (s : SystemValue). MakeNext s (given_after given deed.effects) (effects_of rest))
    (system_kept w deed.effects)
    (deeds_count system who (after_effects w deed.effects) (given_after given deed.effects) (time_after_one earlier deed.event) rest
    (counts_all w given deed.effects counts) are.1 are_true.1) in
    MakeNext-append w.system given deed.effects (effects_of rest) first later

-- what deeds do that are true of a world in which so many numbers were given
pub deeds_make : (system : SystemValue) (who : Identity) (w : WorldValue) (living : Living) (earlier : ℕ) (deeds : List Deed)
    → w.living ≡ Some living → AreActs who.pid deeds → IsTrueOf system who w earlier deeds
    → MakeNext w.system living.given (effects_of deeds)
deeds_make system who w living earlier deeds known are are_true =
    deeds_count system who w living.given earlier deeds (record { living = living; known = known; given_is = refl }) are
    are_true
