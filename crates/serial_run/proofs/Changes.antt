-- What a put or an expiry in the port of an instance does to the working state of a run.
use Rattle.std.proofs.Common.{◌≡◌, ◌⊎◌, ◌↔◌, ◌&&◌, ◌==◌, ℕ, zero, suc, ◌+◌, ◌<◌, ◌≤◌, cond, not, List, [], ◌∷◌}
use Rattle.std.proofs.Common.{map, length, Some, refl, ap, ◌∙◌, sym, subst, inl, inr, arith, slice_get, get_or}
use Rattle.std.proofs.Common.{All, set, Result, Ok, Err, MatchResult, is_err, false, if◌then◌else◌}
use Rattle.std.specs.List.{Contains, range_with_len}
use Rattle.std.proofs.lemmas.Bool.{cases_eq}
use Rattle.std.proofs.lemmas.List.{length-set}
use Rattle.std.proofs.lemmas.List.Elements.{All-get_or, All-set}
use Rattle.std.proofs.lemmas.List.Sums.{sum_by-set}
use Rattle.std.proofs.lemmas.Option.{get_or_from_slice_get, slice_get_past, slice_get_within}
use Rattle.port_model.specs.Calls.{ComesBack}
use Rattle.port_model.specs.declared.inbox.entry.Fuse.{Fuse}
use Rattle.port_model.specs.declared.refused.Refused.{Refused}
use Rattle.port_model.specs.Port.{PortState}
use Rattle.port_model.specs.declared.values.item.Item.{Item}
use Rattle.serial_order.specs.RunState.{living_of, change_at, changed_at, count_living, instance_at, is_ended}
use Rattle.serial_order.specs.RunState.{least_living, lives_of, with_expiry, with_put}
use Rattle.serial_run.specs.Serial.{AreInPlace, AreMarked, IsOfSystem, IsSerial}
use Rattle.serial_run.specs.declared.instances.Instances.{Instances}
use Rattle.sdl_interp.specs.Instance.{InstanceValue}
use Rattle.run_semantics.specs.World.{Living}
use Rattle.sdl_system.specs.System.{SystemValue}

-- ---- lists

-- what stands at a place of a list of which all elements are so
pub All-slice_get : {X : Type 0} (P : X → Type 0) (xs : List X) (place : ℕ) (x : X)
    → All P xs → slice_get xs place ≡ Some x → P x
All-slice_get P xs place x all there =
    subst P (get_or_from_slice_get xs place x x there) (All-get_or P xs place x (slice_get_within xs place x there) all)

-- functions that agree everywhere map a list alike
pub map_alike : {X Y : Type 0} (f g : X → Y) (xs : List X) → ((x : X) → f x ≡ g x) → map f xs ≡ map g xs
map_alike f g [] agree = refl
map_alike f g (x ∷ xs) agree = ap (λ y. y ∷ map f xs) (agree x) ∙ ap (λ ys. g x ∷ ys) (map_alike f g xs agree)

first_is : {X : Type 0} (first : X) (rest : List X) (x : X) → slice_get (first ∷ rest) zero ≡ Some x → first ≡ x
first_is first rest x there = cc

slice_get-set_other : {X : Type 0} (xs : List X) (place other : ℕ) (x : X) → (place ≡ other → ⊥)
    → slice_get (set xs place x) other ≡ slice_get xs other
slice_get-set_other [] place other x apart = refl
slice_get-set_other (first ∷ rest) zero zero x apart = absurd (apart refl)
slice_get-set_other (first ∷ rest) zero (suc other) x apart = refl
slice_get-set_other (first ∷ rest) (suc place) zero x apart = refl
slice_get-set_other (first ∷ rest) (suc place) (suc other) x apart =
    slice_get-set_other rest place other x (λ e. apart (ap suc e))

-- ---- an instance whose port is changed

-- the same instance, with another state of its port
pub record IsChanged (old new : InstanceValue) : Type 0 where
  pub system : new.system ≡ old.system
  pub process : new.process ≡ old.process
  pub who : new.who ≡ old.who
  pub position : new.position ≡ old.position
  pub pid : new.owner.pid ≡ old.owner.pid

pub with_port : (old new : InstanceValue) (state : PortState)
    → new ≡ record old { owner = record old.owner { state = state } } → IsChanged old new
with_port old new state now = record {
  system = ap (λ i. i.system) now;
  process = ap (λ i. i.process) now;
  who = ap (λ i. i.who) now;
  position = ap (λ i. i.position) now;
  pid = ap (λ i. i.owner.pid) now;
}

lives_alike : (q : ℕ) (old new : InstanceValue) → IsChanged old new → lives_of q new ≡ lives_of q old
lives_alike q old new same =
    ap (λ who. (who.process.0 == q) && not (is_ended new.position)) same.who
    ∙ ap (λ position. (old.who.process.0 == q) && not (is_ended position)) same.position

least-set : (instances : List InstanceValue) (place : ℕ) (old new : InstanceValue) (q : ℕ)
    → slice_get instances place ≡ Some old → IsChanged old new
    → least_living (set instances place new) q ≡ least_living instances q
least-set [] place old new q there same = refl
least-set (first ∷ rest) zero old new q there same =
    let is : first ≡ old = first_is first rest old there in
    ap (λ lives. if lives then Some new.who.pid else least_living rest q) (lives_alike q old new same)
    ∙ ap (λ who. if lives_of q old then Some who.pid else least_living rest q) same.who
    ∙ ap (λ i. if lives_of q i then Some i.who.pid else least_living rest q) (sym is)
least-set (first ∷ rest) (suc place) old new q there same =
    ap (λ later. if lives_of q first then Some first.who.pid else later) (least-set rest place old new q there same)

count-set : (instances : List InstanceValue) (place : ℕ) (old new : InstanceValue) (q : ℕ)
    → slice_get instances place ≡ Some old → IsChanged old new
    → count_living (set instances place new) q ≡ count_living instances q
count-set instances place old new q there same =
    let one : InstanceValue → ℕ = λ i. cond (lives_of q i) 1 0 in
    let inside : place < length instances = slice_get_within instances place old there in
    let counted = sum_by-set one instances place new old inside in
    let alike : one new ≡ one old = ap (λ lives. cond lives 1 0) (lives_alike q old new same) in
    let is : one (get_or instances place old) ≡ one old =
    ap one (get_or_from_slice_get instances place old old there) in
    omega (arith, counted, alike, is)

-- who lives stays
pub living-set : (system : SystemValue) (instances : List InstanceValue) (place : ℕ) (old new : InstanceValue)
    → slice_get instances place ≡ Some old → IsChanged old new
    → living_of system (set instances place new) ≡ living_of system instances
living-set system instances place old new there same =
    let numbers = range_with_len 0 (length system.processes) in
    let after = set instances place new in
    let least : map (least_living after) numbers ≡ map (least_living instances) numbers =
    map_alike (least_living after) (least_living instances) numbers
    (λ q. least-set instances place old new q there same) in
    let counts : map (count_living after) numbers ≡ map (count_living instances) numbers =
    map_alike (count_living after) (count_living instances) numbers
    (λ q. count-set instances place old new q there same) in
    let given : length after ≡ length instances = length-set instances place new in
    let begin : Living = living_of system instances in
    ap (λ all. record (living_of system after) { least = all }) least
    ∙ ap (λ all. record begin { counts = all; given = length after }) counts
    ∙ ap (λ all. record begin { given = all }) given

places-set : (from : ℕ) (instances : List InstanceValue) (place : ℕ) (old new : InstanceValue)
    → AreInPlace from instances → slice_get instances place ≡ Some old → IsChanged old new
    → AreInPlace from (set instances place new)
places-set from [] place old new m there same = tt
places-set from (first ∷ rest) zero old new m there same =
    let is : first ≡ old = first_is first rest old there in (
      ap (λ who. who.pid) same.who ∙ ap (λ i. i.who.pid) (sym is) ∙ m.0,
      same.pid ∙ ap (λ i. i.owner.pid) (sym is) ∙ m.1,
      m.2,
    )
places-set from (first ∷ rest) (suc place) old new m there same =
    (m.0, m.1, places-set (from + 1) rest place old new m.2 there same)

member_as : (system : SystemValue) (old new : InstanceValue) → IsOfSystem system old → IsChanged old new
    → IsOfSystem system new
member_as system old new member same = record {
  system_is = same.system ∙ member.system_is;
  process_is = ap (λ who. slice_get system.processes who.process.0) same.who ∙ member.process_is
      ∙ ap Some (sym same.process);
}

-- ---- who may have something to do

-- who may have something to do, after an instance was put to this
abbrev pub IsWaked : ℕ → List ℕ → List ℕ → Type 0
IsWaked number old new = (n : ℕ) → Contains new n ↔ ((n ≡ number) ⊎ Contains old n)

there_after : (ready after : List ℕ) (number count : ℕ)
    → ((n : ℕ) → Contains ready n → (0 < n) × (n ≤ count)) → (0 < number) × (number ≤ count)
    → IsWaked number ready after → (n : ℕ) → Contains after n → (0 < n) × (n ≤ count)
there_after ready after number count there inside waked n is =
    elim ((waked n).0 is) [
      | inl same ↦ subst (λ m. (0 < m) × (m ≤ count)) (sym same) inside
      | inr before ↦ there n before
    ]

other_place : (instances : List InstanceValue) (place n : ℕ) (new i : InstanceValue) → (n ≡ place + 1 → ⊥)
    → instance_at (set instances place new) n ≡ Some i → instance_at instances n ≡ Some i
other_place instances place zero new i apart at = at
other_place instances place (suc n) new i apart at =
    let off : place ≡ n → ⊥ = λ e. apart (omega (arith, e)) in
    sym (slice_get-set_other instances place n new off) ∙ at

marks-set : (ready after : List ℕ) (instances : List InstanceValue) (number place : ℕ) (new : InstanceValue)
    → number ≡ place + 1 → place < length instances → AreMarked ready instances → IsWaked number ready after
    → AreMarked after (set instances place new)
marks-set ready after instances number place new is_number inside marked waked =
    let count : length (set instances place new) ≡ length instances = length-set instances place new in
    let low : 0 < number = omega arith in
    let high : number ≤ length instances = omega arith in
    record {
      there = subst (λ count. (n : ℕ) → Contains after n → (0 < n) × (n ≤ count)) (sym count)
          (there_after ready after number (length instances) marked.there (low, high) waked);
      others = λ n i at. elim (cases_eq n number) [
        | inl same ↦ inl ((waked n).1 (inl same))
        | inr apart ↦ elim (marked.others n i
            (other_place instances place n new i (λ e. apart (e ∙ sym is_number)) at)) [
              | inl before ↦ inl ((waked n).1 (inr before))
              | inr rests ↦ inr rests
            ]
      ];
    }

-- ---- the working state

-- an instance's port is changed, and it may have something to do
pub serial-set : (s t : Instances) (ready after : List ℕ) (number place : ℕ) (old new : InstanceValue)
    → IsSerial ready s
    → number ≡ place + 1 → slice_get s.instances.items place ≡ Some old → IsChanged old new
    → t.system ≡ s.system → t.living ≡ s.living → t.instances.items ≡ set s.instances.items place new
    → IsWaked number ready after → IsSerial after t
serial-set s t ready after number place old new serial is_number there same system living instances waked =
    let before = s.instances.items in
    let inside : place < length before = slice_get_within before place old there in
    let member = All-slice_get (IsOfSystem s.system.now) before place old serial.members there in
    record {
      living = living ∙ serial.living ∙ sym (living-set s.system.now before place old new there same)
          ∙ ap (λ all. living_of s.system.now all) (sym instances)
          ∙ ap (λ (system : _). living_of system.now t.instances.items) (sym system);
      places = subst (AreInPlace 0) (sym instances) (places-set 0 before place old new serial.places there same);
      members = subst (λ all. All (IsOfSystem t.system.now) all) (sym instances)
          (subst (λ (system : _). All (IsOfSystem system.now) (set before place new)) (sym system)
          (All-set (IsOfSystem s.system.now) before place new (member_as s.system.now old new member same)
          serial.members));
      marked = subst (AreMarked after) (sym instances)
          (marks-set ready after before number place new is_number inside serial.marked waked);
    }

-- the instance of a number is changed
pub change_there : (change : InstanceValue → InstanceValue) (instances : List InstanceValue) (number place : ℕ)
    (old : InstanceValue) → number ≡ place + 1 → slice_get instances place ≡ Some old
    → change_at change instances number ≡ set instances place (change old)
change_there change instances number place old is_number there =
    let is_suc : number ≡ suc place = omega arith in
    ap (change_at change instances) is_suc ∙ ap (changed_at change instances (suc place)) there

-- a number that nobody has changes nothing
pub change_nobody : (change : InstanceValue → InstanceValue) (instances : List InstanceValue) (number : ℕ)
    → (number ≡ 0) ⊎ (length instances < number) → change_at change instances number ≡ instances
change_nobody change instances zero out = refl
change_nobody change instances (suc place) out =
    let past : length instances ≤ place = elim out [ inl none ↦ omega arith | inr far ↦ omega arith ] in
    ap (changed_at change instances (suc place)) (slice_get_past instances place past)

-- a put that was no error, and an expiry
pub put_is : {A : Type 0} (r : Result A (Refused Item)) (old new : InstanceValue) (item : Item) → is_err r ≡ false
    → MatchResult r (λ _. new ≡ with_put item old) (λ back. ComesBack back item × (new ≡ old)) → new ≡ with_put item old
put_is (Ok a) old new item ok did = did
put_is (Err e) old new item ok did = let wrong : ⊥ = cc in absurd wrong

pub expiry_is : {A : Type 0} (r : Result A (Refused Fuse)) (old new : InstanceValue) (fuse : Fuse) (at : ℕ)
    → is_err r ≡ false → MatchResult r (λ _. new ≡ with_expiry fuse at old) (λ _. new ≡ old)
    → new ≡ with_expiry fuse at old
expiry_is (Ok a) old new fuse at ok did = did
expiry_is (Err e) old new fuse at ok did = let wrong : ⊥ = cc in absurd wrong
