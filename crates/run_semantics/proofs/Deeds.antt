-- What deeds say and do, of two lists one after the other.
use Rattle.std.proofs.Common.{◌≡◌, ◌∙◌, sym, subst, refl, ℕ, List, [], ◌∷◌, ◌++◌, Option, None, Some}
use Rattle.std.proofs.lemmas.Grind.{flat_map-append}
use Rattle.std.proofs.lemmas.List.{map-append}
use Rattle.port_model.specs.declared.values.item.SignalId.{SignalId}
use Rattle.run_record.specs.declared.evaluation.identity.Identity.{Identity}
use Rattle.run_semantics.specs.Effect.{Effect, Deed, events_of, calls_of, effects_of}
use Rattle.run_semantics.specs.World.{WorldValue, after_effect, after_effects, after_deeds, time_after, time_after_one, IsRouteBy, IsTrueOf, Living, MayReach}
use Rattle.sdl_system.specs.System.{SystemValue}
use Rattle.sdl_system.specs.declared.id.ProcessId.{ProcessId}
use Rattle.sdl_system.specs.declared.route.Dest.{Dest}
use Rattle.sdl_system.specs.declared.route.Target.{Target}

pub events_of-append : (first later : List Deed) → events_of (first ++ later) ≡ events_of first ++ events_of later
events_of-append first later = map-append (λ (deed : Deed). deed.event) first later

pub calls_of-append : (first later : List Deed) → calls_of (first ++ later) ≡ calls_of first ++ calls_of later
calls_of-append first later = flat_map-append (λ (deed : Deed). deed.calls) first later

pub effects_of-append : (first later : List Deed) → effects_of (first ++ later) ≡ effects_of first ++ effects_of later
effects_of-append first later = flat_map-append (λ (deed : Deed). deed.effects) first later

pub after_effects-append : (w : WorldValue) (first later : List Effect)
    → after_effects w (first ++ later) ≡ after_effects (after_effects w first) later
after_effects-append w [] later = refl
after_effects-append w (effect ∷ rest) later = after_effects-append (after_effect w effect) rest later

pub after_deeds-append : (w : WorldValue) (first later : List Deed)
    → after_deeds w (first ++ later) ≡ after_deeds (after_deeds w first) later
after_deeds-append w [] later = refl
after_deeds-append w (deed ∷ rest) later = after_deeds-append (after_effects w deed.effects) rest later

-- the deeds do to the world what their acts do
pub after_deeds-effects : (w : WorldValue) (deeds : List Deed) → after_deeds w deeds ≡ after_effects w (effects_of deeds)
after_deeds-effects w [] = refl
after_deeds-effects w (deed ∷ rest) =
    after_deeds-effects (after_effects w deed.effects) rest ∙ sym (after_effects-append w deed.effects (effects_of rest))

pub time_after-append : (t : ℕ) (first later : List Deed)
    → time_after t (first ++ later) ≡ time_after (time_after t first) later
time_after-append t [] later = refl
time_after-append t (deed ∷ rest) later = time_after-append (time_after_one t deed.event) rest later

pub IsTrueOf-append : (system : SystemValue) (who : Identity) (w : WorldValue) (t : ℕ) (first later : List Deed) → IsTrueOf system who w t first
    → IsTrueOf system who (after_deeds w first) (time_after t first) later → IsTrueOf system who w t (first ++ later)
IsTrueOf-append system who w t [] later none then = then
IsTrueOf-append system who w t (deed ∷ rest) later are then =
    (are.0, IsTrueOf-append system who (after_effects w deed.effects) (time_after_one t deed.event) rest later are.1 then)

-- the same of equal instances, worlds and times
pub IsTrueOf-same : (system : SystemValue) (who who' : Identity) (w w' : WorldValue) (t t' : ℕ) (deeds : List Deed) → who ≡ who' → w ≡ w'
    → t ≡ t' → IsTrueOf system who w t deeds → IsTrueOf system who' w' t' deeds
IsTrueOf-same system who who' w w' t t' deeds same around time are =
    subst (λ (x : Identity). IsTrueOf system x w' t' deeds) same
    (subst (λ (x : WorldValue). IsTrueOf system who x t' deeds) around
    (subst (λ (x : ℕ). IsTrueOf system who w x deeds) time are))

-- whoever lives, the target of a signal is one that it may reach
pub may_reach : (system : SystemValue) (living : Option Living) (signal : SignalId) (process : ProcessId) (to : Dest)
    (target : Target) → IsRouteBy system living signal process to target → MayReach system signal process to target
may_reach system None signal process to target is = is
may_reach system (Some living) signal process to target is = (living.least, is)
