-- What is at hand of a roster, as the instances of one process change.
use Rattle.std.proofs.Common.{◌≡◌, ℕ, zero, suc, ◌<◌, Bool, true, false, cond, List, [], ◌∷◌, length, map, Some, Option, All, slice_get, slice_set, get_or, sym, refl, ap, subst, ◌∙◌}
use Rattle.std.specs.Option.{option_map_or}
use Rattle.std.proofs.lemmas.List.{map-set}
use Rattle.std.proofs.lemmas.List.Elements.{All-get_or, All-set}
use Rattle.std.proofs.lemmas.Option.{get_or_from_slice_get, none-some, same_Some, slice_get_read, slice_get_within}
use Rattle.sdl_system.specs.declared.id.ProcessId.{ProcessId}
use Rattle.threads_ports.specs.Instances.{InstancesValue, AreAscending, AreWithinLimit, least, with_one, with_reservation, without_one}
use Rattle.threads_ports.specs.NumberSets.{IsAscending}
use Rattle.threads_ports.specs.Roster.{IsKept, with_changed}
use Rattle.threads_ports.proofs.Ascending.{ascending_with, ascending_without}

-- ---- what is kept

-- where those that live stay the same
same_least : (roster : List InstancesValue) (i : ℕ) (old new : InstancesValue) → slice_get roster i ≡ Some old
    → least new ≡ least old → map least (slice_set roster i new) ≡ map least roster
same_least [] i old new at same = absurd (none-some old at)
same_least (x ∷ xs) zero old new at same = ap (λ l. l ∷ map least xs) (same ∙ ap least (sym (same_Some x old at)))
same_least (x ∷ xs) (suc i) old new at same = ap (λ l. least x ∷ l) (same_least xs i old new at same)

ascending_at : (roster : List InstancesValue) (i : ℕ) (x : InstancesValue) → slice_get roster i ≡ Some x
    → All AreAscending roster → IsAscending x.living
ascending_at roster i x at all =
    subst AreAscending (get_or_from_slice_get roster i x x at)
    (All-get_or AreAscending roster i x (slice_get_within roster i x at) all)

pub kept_same : (roster : List InstancesValue) (at_hand : List (Option ℕ)) (i : ℕ) (old new : InstancesValue)
    → slice_get roster i ≡ Some old → new.living ≡ old.living → AreWithinLimit new → IsKept roster at_hand
    → IsKept (slice_set roster i new) at_hand
kept_same roster at_hand i old new at same within kept = record {
  least_is = kept.least_is ∙ sym (same_least roster i old new at (ap (λ l. slice_get l 0) same));
  within = All-set AreWithinLimit roster i new within kept.within;
  ascending =
      All-set AreAscending roster i new (subst IsAscending (sym same) (ascending_at roster i old at kept.ascending))
      kept.ascending;
}

-- where one comes or goes, and the least of those that live then is put at its place
kept_new : (roster : List InstancesValue) (at_hand : List (Option ℕ)) (i : ℕ) (new : InstancesValue)
    (first : Option ℕ) → first ≡ least new → AreWithinLimit new → IsAscending new.living → IsKept roster at_hand
    → IsKept (slice_set roster i new) (slice_set at_hand i first)
kept_new roster at_hand i new first same within ascending kept = record {
  least_is =
      ap (λ n. slice_set at_hand i n) same ∙ ap (λ l. slice_set l i (least new)) kept.least_is
      ∙ sym (map-set least roster i new);
  within = All-set AreWithinLimit roster i new within kept.within;
  ascending = All-set AreAscending roster i new ascending kept.ascending;
}

module _ (roster : List InstancesValue) (at_hand : List (Option ℕ)) (i number : ℕ) (old new : InstancesValue)
    (first : Option ℕ) (at : slice_get roster i ≡ Some old) (first_is : first ≡ least new) (within : AreWithinLimit new)
    (kept : IsKept roster at_hand) where
  pub kept_with : new ≡ with_one number old → IsKept (slice_set roster i new) (slice_set at_hand i first)
  kept_with after =
      kept_new roster at_hand i new first first_is within
      (subst AreAscending (sym after) (ascending_with number old.living (ascending_at roster i old at kept.ascending)))
      kept

  pub kept_without : new ≡ without_one number old → IsKept (slice_set roster i new) (slice_set at_hand i first)
  kept_without after =
      kept_new roster at_hand i new first first_is within
      (subst AreAscending (sym after)
      (ascending_without number old.living (ascending_at roster i old at kept.ascending)))
      kept

-- a reservation changes nothing of who lives
pub living_reserved : (b : Bool) (old new : InstancesValue) → new ≡ cond b (with_reservation old) old
    → new.living ≡ old.living
living_reserved true old new e = ap (λ (x : InstancesValue). x.living) e
living_reserved false old new e = ap (λ (x : InstancesValue). x.living) e

-- ---- one process

-- what stands at a place, as a loan of it says
pub lent_at : (roster : List InstancesValue) (i : ℕ) (x : InstancesValue) → i < length roster → x ≡ get_or roster i x
    → slice_get roster i ≡ Some x
lent_at roster i x lt e = slice_get_read roster (length roster) i x refl lt e

put_back : (roster : List InstancesValue) (i : ℕ) (x : InstancesValue) → slice_get roster i ≡ Some x
    → slice_set roster i x ≡ roster
put_back [] i x at = refl
put_back (y ∷ ys) zero x at = ap (λ z. z ∷ ys) (sym (same_Some y x at))
put_back (y ∷ ys) (suc i) x at = ap (λ l. y ∷ l) (put_back ys i x at)

module _ (roster now : List InstancesValue) (process : ProcessId) (old : InstancesValue)
    (at : slice_get roster process.0 ≡ Some old) (seen : roster ≡ now) where
  -- what is said of the instances of the process
  pub said_of : (f : InstancesValue → Bool) → f old ≡ option_map_or f (slice_get now process.0) false
  said_of f =
      sym (ap (λ o. option_map_or f o false) at) ∙ ap (λ r. option_map_or f (slice_get r process.0) false) seen

  -- the instances of the process are changed
  pub changed : (change : InstancesValue → InstancesValue) (new : InstancesValue) → new ≡ change old
      → slice_set roster process.0 new ≡ with_changed change now process
  changed change new e =
      ap (λ x. slice_set roster process.0 x) e
      ∙ sym (ap (λ o. option_map_or (λ x. slice_set roster process.0 (change x)) o roster) at)
      ∙ ap (λ r. with_changed change r process) seen

  -- or they stay as they are
  pub changed_if : (b : Bool) (change : InstancesValue → InstancesValue) (new : InstancesValue)
      → new ≡ cond b (change old) old
      → slice_set roster process.0 new ≡ cond b (with_changed change now process) now
  changed_if true change new e = changed change new e
  changed_if false change new e = ap (λ x. slice_set roster process.0 x) e ∙ put_back roster process.0 old at ∙ seen
