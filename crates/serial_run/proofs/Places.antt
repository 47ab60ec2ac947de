-- The instances of a run, where one of them is changed.
use Rattle.std.proofs.Common.{◌≡◌, ◌≢◌, ◌⊎◌, ◌∙◌, ◌+◌, ◌≤◌, ◌==◌, ◌&&◌, if◌then◌else◌, Bool, false, not, cond, ℕ, zero, suc, List, [], ◌∷◌, Option, Some, inl, inr, refl, sym, ap, subst, arith, slice_get, set, length, map, All}
use Rattle.std.specs.List.{range_with_len}
use Rattle.std.specs.Prelude.{Contains, ◌↔◌}
use Rattle.std.proofs.lemmas.List.{length-set}
use Rattle.std.proofs.lemmas.Option.{get_or_from_slice_get}
use Rattle.serial_order.specs.RunState.{living_of, count_living, instance_at, is_ended, least_living, lives_of}
use Rattle.serial_run.proofs.LivingLemmas.{count_cons}
use Rattle.serial_run.specs.Serial.{AreInPlace, AreMarked, IsOfSystem, IsSerial}
use Rattle.serial_run.specs.declared.instances.Instances.{Instances}
use Rattle.run_record.specs.declared.evaluation.identity.Identity.{Identity}
use Rattle.sdl_interp.specs.Instance.{InstanceValue, IsAtRest, Keeps}
use Rattle.serial_run.specs.Meanings.{all_at, there_is}
use Rattle.sdl_interp.specs.declared.transitions.machine.Position.{Position}
use Rattle.sdl_interp.specs.declared.transitions.machine.Position.TheVariants as position
use Rattle.sdl_system.specs.System.{SystemValue}

-- what stands in a list where one place is changed
pub at_set : {X : Type 0} (xs : List X) (place k : ℕ) (new i : X) → slice_get (set xs place new) k ≡ Some i
    → ((k ≡ place) × (i ≡ new)) ⊎ ((k ≢ place) × (slice_get xs k ≡ Some i))
at_set [] place k new i e = let no : ⊥ = cc in absurd no
at_set (x ∷ xs) zero zero new i e = inl (refl, cc)
at_set (x ∷ xs) zero (suc k) new i e = inr (λ is. absurd (omega (arith, is)), e)
at_set (x ∷ xs) (suc place) zero new i e = inr (λ is. absurd (omega (arith, is)), e)
at_set (x ∷ xs) (suc place) (suc k) new i e =
    elim (at_set xs place k new i e) [
      | inl w ↦ inl (ap suc w.0, w.1)
      | inr w ↦ inr (λ is. w.0 (omega (arith, is)), w.1)
    ]

-- the same value at its place changes nothing
pub set_there : {X : Type 0} (xs : List X) (place : ℕ) (x : X) → slice_get xs place ≡ Some x → set xs place x ≡ xs
set_there [] place x there = let no : ⊥ = cc in absurd no
set_there (first ∷ xs) zero x there = let is : x ≡ first = cc in ap (λ y. y ∷ xs) is
set_there (first ∷ xs) (suc place) x there = ap (λ all. first ∷ all) (set_there xs place x there)

pub in_place_set : (n : ℕ) (xs : List InstanceValue) (place : ℕ) (old new : InstanceValue) → AreInPlace n xs
    → slice_get xs place ≡ Some old → new.who ≡ old.who → new.owner.pid ≡ old.owner.pid
    → AreInPlace n (set xs place new)
in_place_set n [] place old new are there who pid = are
in_place_set n (x ∷ xs) zero old new are there who pid =
    let is : x ≡ old = cc in (
      ap (λ (w : Identity). w.pid) who ∙ sym (ap (λ (j : InstanceValue). j.who.pid) is) ∙ are.0,
      pid ∙ sym (ap (λ (j : InstanceValue). j.owner.pid) is) ∙ are.1,
      are.2,
    )
in_place_set n (x ∷ xs) (suc place) old new are there who pid =
    (are.0, are.1, in_place_set (n + 1) xs place old new are.2 there who pid)

-- ---- who lives, where a living one lives on

module _ (q : ℕ) (old new : InstanceValue) (who : new.who ≡ old.who)
    (ended : is_ended new.position ≡ is_ended old.position) where
  lives_same : lives_of q new ≡ lives_of q old
  lives_same = λ i. ((who i).process.0 == q) && not (ended i)

  least_same : (xs : List InstanceValue) (place : ℕ) → slice_get xs place ≡ Some old
      → least_living (set xs place new) q ≡ least_living xs q
  least_same [] place there = refl
  least_same (x ∷ xs) zero there =
      let is : old ≡ x = cc in
      let at : Bool → ℕ → Option ℕ = λ lives pid. if lives then Some pid else least_living xs q in
      ap (λ b. at b new.who.pid) lives_same ∙ ap (λ (w : Identity). at (lives_of q old) w.pid) who
      ∙ ap (λ (j : InstanceValue). at (lives_of q j) j.who.pid) is
  least_same (x ∷ xs) (suc place) there =
      ap (λ rest. if lives_of q x then Some x.who.pid else rest) (least_same xs place there)

  count_same : (xs : List InstanceValue) (place : ℕ) → slice_get xs place ≡ Some old
      → count_living (set xs place new) q ≡ count_living xs q
  count_same [] place there = refl
  count_same (x ∷ xs) zero there =
      let is : old ≡ x = cc in
      let at : Bool → ℕ = λ lives. cond lives 1 0 + count_living xs q in
      count_cons q new xs ∙ ap at lives_same ∙ ap (λ (j : InstanceValue). at (lives_of q j)) is ∙ sym (count_cons q x xs)
  count_same (x ∷ xs) (suc place) there =
      count_cons q x (set xs place new) ∙ ap (λ rest. cond (lives_of q x) 1 0 + rest) (count_same xs place there)
      ∙ sym (count_cons q x xs)

pub living_same : (system : SystemValue) (xs : List InstanceValue) (place : ℕ) (old new : InstanceValue)
    → slice_get xs place ≡ Some old → new.who ≡ old.who → is_ended new.position ≡ is_ended old.position
    → living_of system (set xs place new) ≡ living_of system xs
living_same system xs place old new there who ended = λ i. record {
  least = map (λ q. least_same q old new who ended xs place there i) (range_with_len 0 (length system.processes));
  counts = map (λ q. count_same q old new who ended xs place there i) (range_with_len 0 (length system.processes));
  given = length-set xs place new i;
}

-- ---- marks and members

-- the changed one is there, and can be changed back
pub set_here : {X : Type 0} (xs : List X) (place : ℕ) (x new : X) → slice_get xs place ≡ Some x
    → slice_get (set xs place new) place ≡ Some new
set_here [] place x new there = let no : ⊥ = cc in absurd no
set_here (first ∷ xs) zero x new there = refl
set_here (first ∷ xs) (suc place) x new there = set_here xs place x new there

pub set_back : {X : Type 0} (xs : List X) (place : ℕ) (x new : X) → slice_get xs place ≡ Some x
    → set (set xs place new) place x ≡ xs
set_back [] place x new there = let no : ⊥ = cc in absurd no
set_back (first ∷ xs) zero x new there = let is : x ≡ first = cc in ap (λ y. y ∷ xs) is
set_back (first ∷ xs) (suc place) x new there = ap (λ all. first ∷ all) (set_back xs place x new there)

pub not_ended : (at : Position) → at ≢ position.Ended → is_ended at ≡ false
not_ended position.BeforeStart lives = refl
not_ended (position.In n) lives = refl
not_ended position.Ended lives = absurd (lives refl)

-- two values that stand at one place
pub one_there : {X : Type 0} (o : Option X) (x y : X) → o ≡ Some x → o ≡ Some y → x ≡ y
one_there o x y first second = let both : Some x ≡ Some y = sym first ∙ second in cc

-- whoever has a place is of the system, also where one is changed
members_set : (system : SystemValue) (xs : List InstanceValue) (place : ℕ) (old new : InstanceValue)
    → All (IsOfSystem system) xs → slice_get xs place ≡ Some old → Keeps old new
    → All (IsOfSystem system) (set xs place new)
members_set system xs place old new all there keeps = λ k d below.
    let found = there_is (set xs place new) k below in
    let was = all_at (IsOfSystem system) xs place old all there in
    let changed : IsOfSystem system new = record {
      system_is = keeps.system ∙ was.system_is;
      process_is = ap (λ (w : Identity). slice_get system.processes w.process.0) keeps.who ∙ was.process_is
          ∙ ap Some (sym keeps.process);
    } in
    subst (IsOfSystem system) (sym (get_or_from_slice_get (set xs place new) k found.0 d found.1))
    (elim (at_set xs place k new found.0 found.1) [
      | inl w ↦ subst (IsOfSystem system) (sym w.1) changed
      | inr w ↦ all_at (IsOfSystem system) xs k found.0 all w.1
    ])

-- the one at a place may still have something to do
pub marked_on : (ready : List ℕ) (xs : List InstanceValue) (place : ℕ) (new : InstanceValue) → AreMarked ready xs
    → Contains ready (suc place) → AreMarked ready (set xs place new)
marked_on ready xs place new are has = record {
  there = λ number marked. (
    (are.there number marked).0,
    subst (λ n. number ≤ n) (sym (length-set xs place new)) (are.there number marked).1,
  );
  others = others;
} where
  others : (number : ℕ) (i : InstanceValue) → instance_at (set xs place new) number ≡ Some i
      → Contains ready number ⊎ IsAtRest i
  others zero i there = let no : ⊥ = cc in absurd no
  others (suc k) i there =
      elim (at_set xs place k new i there) [
        | inl w ↦ inl (subst (Contains ready) (ap suc (sym w.0)) has)
        | inr w ↦ are.others (suc k) i w.1
      ]

-- or it has not, and is at rest
pub marked_off : (ready fewer : List ℕ) (xs : List InstanceValue) (place : ℕ) (new : InstanceValue)
    → AreMarked ready xs → ((n : ℕ) → Contains fewer n ↔ (Contains ready n × (n ≢ suc place))) → IsAtRest new
    → AreMarked fewer (set xs place new)
marked_off ready fewer xs place new are off rest = record {
  there = λ number marked. let was = are.there number ((off number).0 marked).0 in
      (was.0, subst (λ n. number ≤ n) (sym (length-set xs place new)) was.1);
  others = others;
} where
  others : (number : ℕ) (i : InstanceValue) → instance_at (set xs place new) number ≡ Some i
      → Contains fewer number ⊎ IsAtRest i
  others zero i there = let no : ⊥ = cc in absurd no
  others (suc k) i there =
      elim (at_set xs place k new i there) [
        | inl w ↦ inr (subst IsAtRest (sym w.1) rest)
        | inr w ↦ elim (are.others (suc k) i w.1) [
          | inl marked ↦ inl ((off (suc k)).1 (marked, λ e. w.0 (omega (arith, e))))
          | inr quiet ↦ inr quiet
        ]
      ]

-- the working state, where the instance at a place is changed
pub serial_set : {ready : List ℕ} (s t : Instances) (after : List ℕ) (place : ℕ) (old new : InstanceValue)
    → IsSerial ready s
    → slice_get s.instances.items place ≡ Some old → Keeps old new
    → t.instances.items ≡ set s.instances.items place new → t.system ≡ s.system
    → t.living ≡ living_of s.system.now (set s.instances.items place new)
    → AreMarked after (set s.instances.items place new) → IsSerial after t
serial_set s t after place old new serial there keeps items system living marked =
    let now = set s.instances.items place new in
    record {
      living = living ∙ ap (living_of s.system.now) (sym items)
          ∙ ap (λ r. living_of r.now t.instances.items) (sym system);
      places = subst (AreInPlace 0) (sym items)
          (in_place_set 0 s.instances.items place old new serial.places there keeps.who keeps.pid);
      members = subst (λ r. All (IsOfSystem r.now) t.instances.items) (sym system)
          (subst (All (IsOfSystem s.system.now)) (sym items)
          (members_set s.system.now s.instances.items place old new serial.members there keeps));
      marked = subst (AreMarked after) (sym items) marked;
    }
