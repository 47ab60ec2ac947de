-- What lies outside of an instance, as it makes its steps: the clock, who lives, and what it did to it.
use Rattle.std.specs.Prelude.{◌≡◌, ◌==◌, ◌+◌, ◌&&◌, ◌||◌, max, nat_le, ℕ, Bool, true, false, List, [], ◌∷◌, ◌++◌, Option, None, Some, IfSome, if◌then◌else◌, slice_get, slice_set, unwrap_or}
use Rattle.std.specs.Option.{option_map, option_map_or}
use Rattle.port_model.specs.declared.values.item.Item.{Item}
use Rattle.port_model.specs.declared.values.item.SignalId.{SignalId}
use Rattle.run_record.specs.declared.evaluation.identity.Identity.{Identity}
use Rattle.run_record.specs.Event.{Event}
use Rattle.run_record.specs.Event as event
use Rattle.run_semantics.specs.Effect.{Effect, Create, Deed, Send}
use Rattle.sdl_system.specs.Route.{living_in, or_later, target_in}
use Rattle.sdl_system.specs.System.{SystemValue}
use Rattle.sdl_system.specs.declared.id.ProcessId.{ProcessId}
use Rattle.sdl_system.specs.declared.route.Dest.{Dest}
use Rattle.sdl_system.specs.declared.route.Source.TheVariants as source
use Rattle.sdl_system.specs.declared.route.Target.{Target}
use Rattle.sdl_system.specs.declared.route.Target.TheVariants.{Instance}

-- ---- who lives

-- the instances that a run may have in all
abbrev pub most_instances : ℕ
most_instances = 1000

-- For each process the least number of its living instances, and how many live; and how many numbers were given, of
-- which no two are the same.
pub record Living : Type 0 where
  pub least : List (Option ℕ)
  pub counts : List ℕ
  pub given : ℕ

abbrev pub count_in : Living → ProcessId → ℕ
count_in living process = unwrap_or (slice_get living.counts process.0) 0

-- whether as many live as may, where that is bounded
abbrev pub is_reached : Option ℕ → ℕ → Bool
is_reached None count = false
is_reached (Some most) count = nat_le most count

-- whether no instance of the process can be made: as many live as may, all numbers were given, or it is no process of
-- the system
abbrev pub is_full : SystemValue → Living → ProcessId → Bool
is_full system living process =
    option_map_or (λ p. is_reached p.maximum (count_in living process)) (slice_get system.processes process.0) true
    || nat_le most_instances living.given

-- the number of a new instance, where one can be made: the next that wasn't given
abbrev pub number_for : SystemValue → Living → ProcessId → Option ℕ
number_for system living process = if is_full system living process then None else Some (living.given + 1)

-- once an instance of the process was made
abbrev pub with_one_more : Living → ProcessId → Living
with_one_more living process = record {
  least = slice_set living.least process.0 (or_later (living_in living.least process) (Some (living.given + 1)));
  counts = slice_set living.counts process.0 (count_in living process + 1);
  given = living.given + 1;
}

-- ---- what was sent

-- whether an instance of this number has a port: each number that may be given has one
abbrev pub has_port : ℕ → Bool
has_port number = nat_le 1 number && nat_le number most_instances

-- the signals that were sent to each instance, in their order
abbrev pub Sent : Type 0
Sent = ℕ → List Item

-- once this signal was sent to the instance `to`, if that has a port
abbrev pub sent_on : Sent → ℕ → Item → Sent
sent_on sent to item number =
    if has_port number && (to == number) then sent number ++ item ∷ [] else sent number

-- ---- the world

-- The system that is run; the clock's time, who lives, what was done so far, in order, and what was sent so far, each
-- where it is known. Where something isn't known, any answer may come.
pub record WorldValue : Type 0 where
  pub system : SystemValue
  pub clock : Option ℕ
  pub living : Option Living
  pub effects : Option (List Effect)
  pub sent : Option Sent

-- the clock shows this time
abbrev pub IsClock : WorldValue → ℕ → Type 0
IsClock w time = IfSome w.clock (λ clock. time ≡ clock)

-- the time of a step of an instance whose latest step had the time `earlier`: the later of the clock's and that
abbrev pub IsReading : WorldValue → ℕ → ℕ → Type 0
IsReading w earlier at = IfSome w.clock (λ clock. at ≡ max clock earlier)

-- the signal of an instance of this process may reach this target: it does by some list of living instances
abbrev pub MayReach : SystemValue → SignalId → ProcessId → Dest → Target → Type 0
MayReach system signal process to target =
    (living : List (Option ℕ)) × (target ≡ target_in system.routes signal (source.Process process) to living)

-- the signal of an instance of this process reaches this target, by the instances that live now, or by some
abbrev pub IsRouteBy : SystemValue → Option Living → SignalId → ProcessId → Dest → Target → Type 0
IsRouteBy system None signal process to target = MayReach system signal process to target
IsRouteBy system (Some living) signal process to target =
    target ≡ target_in system.routes signal (source.Process process) to living.least

-- so it does in this world, by the routes of the system that the instance is of
abbrev pub IsRoute : SystemValue → WorldValue → SignalId → ProcessId → Dest → Target → Type 0
IsRoute system w signal process to target = IsRouteBy system w.living signal process to target

-- a create of an instance of the process gives this number, or none
abbrev pub IsNumber : WorldValue → ProcessId → Option ℕ → Type 0
IsNumber w process number = IfSome w.living (λ living. number ≡ number_for w.system living process)

-- ---- what is done to it

abbrev pub living_after : Living → Effect → Living
living_after living (Create process number parent values) = with_one_more living process
living_after living effect = living

abbrev pub sent_after : Sent → Effect → Sent
sent_after sent (Send (Instance to) item) = sent_on sent to item
sent_after sent effect = sent

-- the world, once this was done
abbrev pub after_effect : WorldValue → Effect → WorldValue
after_effect w effect = record w {
  living = option_map (λ living. living_after living effect) w.living;
  effects = option_map (λ done. done ++ effect ∷ []) w.effects;
  sent = option_map (λ sent. sent_after sent effect) w.sent;
}

abbrev pub after_effects : WorldValue → List Effect → WorldValue
after_effects w [] = w
after_effects w (effect ∷ rest) = after_effects (after_effect w effect) rest

abbrev pub after_deeds : WorldValue → List Deed → WorldValue
after_deeds w [] = w
after_deeds w (deed ∷ rest) = after_deeds (after_effects w deed.effects) rest

-- ---- what the events say of it

-- the time of an instance after an event, and after several deeds
abbrev pub time_after_one : ℕ → Event → ℕ
time_after_one earlier (event.Start at) = at
time_after_one earlier (event.Consumed at got) = at
time_after_one earlier (event.Prior at got) = at
time_after_one earlier (event.Discarded at got) = at
time_after_one earlier (event.Provided at number) = at
time_after_one earlier (event.FailedAt at why) = at
time_after_one earlier happened = earlier

abbrev pub time_after : ℕ → List Deed → ℕ
time_after earlier [] = earlier
time_after earlier (deed ∷ rest) = time_after (time_after_one earlier deed.event) rest

-- what an event of an instance of this system says of the world is so: its time is a reading of the clock, its target is
-- where the signal goes, its number is the next one
abbrev pub IsTrueOfOne : SystemValue → Identity → WorldValue → ℕ → Event → Type 0
IsTrueOfOne system who w earlier (event.Start at) = IsReading w earlier at
IsTrueOfOne system who w earlier (event.Consumed at got) = IsReading w earlier at
IsTrueOfOne system who w earlier (event.Prior at got) = IsReading w earlier at
IsTrueOfOne system who w earlier (event.Discarded at got) = IsReading w earlier at
IsTrueOfOne system who w earlier (event.Provided at number) = IsReading w earlier at
IsTrueOfOne system who w earlier (event.FailedAt at why) = IsReading w earlier at
IsTrueOfOne system who w earlier (event.Output signal to values target) = IsRoute system w signal who.process to target
IsTrueOfOne system who w earlier (event.Create process number) = IsNumber w process number
IsTrueOfOne system who w earlier happened = Unit {0}

-- so is what each of several deeds says, of the world as it is then
abbrev pub IsTrueOf : SystemValue → Identity → WorldValue → ℕ → List Deed → Type 0
IsTrueOf system who w earlier [] = Unit {0}
IsTrueOf system who w earlier (deed ∷ rest) =
    IsTrueOfOne system who w earlier deed.event
    × IsTrueOf system who (after_effects w deed.effects) (time_after_one earlier deed.event) rest
