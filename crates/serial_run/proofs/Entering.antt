-- What one instance more does to the working state of a run.
use Rattle.std.proofs.Common.{◌≡◌, ◌⊎◌, ◌&&◌, ℕ, zero, suc, ◌+◌, ◌<◌, ◌≤◌, Bool, true, false, cond, not}
use Rattle.std.proofs.Common.{List, [], ◌∷◌, ◌++◌, map, length, Option, None, Some, refl, ap, ◌∙◌, sym, subst, inl}
use Rattle.std.proofs.Common.{inr, arith, slice_get, All, set, nat_eq, if◌then◌else◌, length-append}
use Rattle.std.proofs.Common.{unwrap_or, add-zero}
use Rattle.std.specs.List.{range_with_len}
use Rattle.std.proofs.lemmas.List.Elements.{All-append, All-cons, All-nil}
use Rattle.std.proofs.lemmas.List.Sums.{sum_by_push}
use Rattle.std.proofs.lemmas.Option.{slice_get_within}
use Rattle.port_model.specs.Ends.{OwnerState}
use Rattle.port_model.specs.declared.values.pid.Pid.{Pid}
use Rattle.port_model.specs.declared.values.value.Value.{Value}
use Rattle.serial_order.specs.RunState.{living_of, count_living, instance_at, is_ended, least_living, lives_of}
use Rattle.serial_run.proofs.Changes.{IsWaked}
use Rattle.serial_run.specs.Serial.{AreInPlace, AreMarked, IsOfSystem, IsSerial}
use Rattle.serial_run.specs.declared.instances.Instances.{Instances}
use Rattle.sdl_interp.specs.Instance.{InstanceValue, created}
use Rattle.run_semantics.specs.World.{Living, count_in, with_one_more}
use Rattle.sdl_system.specs.Route.{living_in, or_later}
use Rattle.sdl_system.specs.System.{SystemValue}
use Rattle.sdl_system.specs.declared.id.ProcessId.{ProcessId}
use Rattle.sdl_system.specs.declared.process.Process.{Process}

-- ---- lists by numbers

map_range_alike : {X : Type 0} (f g : ℕ → X) (b n : ℕ) → ((q : ℕ) → b ≤ q → f q ≡ g q)
    → map f (range_with_len b n) ≡ map g (range_with_len b n)
map_range_alike f g b zero agree = refl
map_range_alike f g b (suc n) agree =
    let later = map_range_alike f g (b + 1) n (λ q above. agree q (omega (arith, above))) in
    let head : f b ≡ g b = agree b (omega arith) in
    ap (λ y. y ∷ map f (range_with_len (b + 1) n)) head ∙ ap (λ ys. g b ∷ ys) later

-- functions that agree but at one number
set_range : {X : Type 0} (f g : ℕ → X) (b place n : ℕ) → ((q : ℕ) → (q ≡ b + place → ⊥) → f q ≡ g q)
    → map f (range_with_len b n) ≡ set (map g (range_with_len b n)) place (f (b + place))
set_range f g b place zero agree = refl
set_range f g b zero (suc n) agree =
    let later : map f (range_with_len (b + 1) n) ≡ map g (range_with_len (b + 1) n) =
    map_range_alike f g (b + 1) n (λ q above. agree q (λ e. let no : ⊥ = omega (arith, above, e) in no)) in
    let head : f b ≡ f (b + 0) = ap f (sym (add-zero b)) in
    ap (λ y. y ∷ map f (range_with_len (b + 1) n)) head ∙ ap (λ ys. f (b + 0) ∷ ys) later
set_range f g b (suc place) (suc n) agree =
    let same : b + 1 + place ≡ b + suc place = omega arith in
    let later = set_range f g (b + 1) place n (λ q apart. agree q (λ e. apart (e ∙ sym same))) in
    let head : f b ≡ g b = agree b (λ e. let no : ⊥ = omega (arith, e) in no) in
    ap (λ y. y ∷ map f (range_with_len (b + 1) n)) head
    ∙ ap (λ ys. g b ∷ ys) (later ∙ ap (λ q. set (map g (range_with_len (b + 1) n)) place (f q)) same)

get_range : {X : Type 0} (g : ℕ → X) (b n k : ℕ) → k < n → slice_get (map g (range_with_len b n)) k ≡ Some (g (b + k))
get_range g b zero k inside = let no : ⊥ = omega arith in absurd no
get_range g b (suc n) zero inside = ap (λ q. Some (g q)) (sym (add-zero b))
get_range g b (suc n) (suc k) inside =
    let same : b + 1 + k ≡ b + suc k = omega arith in
    get_range g (b + 1) n k (omega arith) ∙ ap (λ q. Some (g q)) same

-- ---- who lives

lives_other : (i : InstanceValue) (q : ℕ) → nat_eq i.who.process.0 q ≡ false → lives_of q i ≡ false
lives_other i q other = ap (λ own. own && not (is_ended i.position)) other

lives_own : (i : InstanceValue) (q : ℕ) → nat_eq i.who.process.0 q ≡ true → is_ended i.position ≡ false
    → lives_of q i ≡ true
lives_own i q own alive =
    ap (λ own. own && not (is_ended i.position)) own ∙ ap (λ ended. not ended) alive

later_too : (lives : Bool) (first : ℕ) (after before last : Option ℕ) → after ≡ or_later before last
    → (if lives then Some first else after) ≡ or_later (if lives then Some first else before) last
later_too true first after before last e = refl
later_too false first after before last e = e

least_own : (instances : List InstanceValue) (i : InstanceValue) (q : ℕ) → lives_of q i ≡ true
    → least_living (instances ++ i ∷ []) q ≡ or_later (least_living instances q) (Some i.who.pid)
least_own [] i q lives = ap (λ lives. if lives then Some i.who.pid else None) lives
least_own (first ∷ rest) i q lives =
    later_too (lives_of q first) first.who.pid (least_living (rest ++ i ∷ []) q) (least_living rest q) (Some i.who.pid)
    (least_own rest i q lives)

least_other : (instances : List InstanceValue) (i : InstanceValue) (q : ℕ) → lives_of q i ≡ false
    → least_living (instances ++ i ∷ []) q ≡ least_living instances q
least_other [] i q lives = ap (λ lives. if lives then Some i.who.pid else None) lives
least_other (first ∷ rest) i q lives =
    ap (λ later. if lives_of q first then Some first.who.pid else later) (least_other rest i q lives)

count_own : (instances : List InstanceValue) (i : InstanceValue) (q : ℕ) → lives_of q i ≡ true
    → count_living (instances ++ i ∷ []) q ≡ count_living instances q + 1
count_own instances i q lives =
    sum_by_push (λ j. cond (lives_of q j) 1 0) instances i
    ∙ ap (λ lives. count_living instances q + cond lives 1 0) lives

count_other : (instances : List InstanceValue) (i : InstanceValue) (q : ℕ) → lives_of q i ≡ false
    → count_living (instances ++ i ∷ []) q ≡ count_living instances q
count_other instances i q lives =
    sum_by_push (λ j. cond (lives_of q j) 1 0) instances i
    ∙ ap (λ lives. count_living instances q + cond lives 1 0) lives
    ∙ add-zero (count_living instances q)

not_it : (a b : ℕ) → (b ≡ a → ⊥) → nat_eq a b ≡ false
not_it a b apart = grind arith

it : (a b : ℕ) → a ≡ b → nat_eq a b ≡ true
it a b e = grind arith

-- an instance that enters
pub record Enters (system : SystemValue) (given : ℕ) (id : ProcessId) (i : InstanceValue) : Type 0 where
  pub process : i.who.process ≡ id
  pub pid : i.who.pid ≡ given + 1
  pub port : i.owner.pid ≡ given + 1
  pub lives : is_ended i.position ≡ false
  pub member : IsOfSystem system i
  pub inside : id.0 < length system.processes

-- an instance before its start, with the next number
pub entering : (system : SystemValue) (process : Process) (id : ProcessId) (pid given : ℕ) (parent : Pid)
    (values : List Value) (owner : OwnerState) (i : InstanceValue)
    → i ≡ created system process (record { process = id; pid = pid; parent = parent }) values owner → owner.pid ≡ pid
    → pid ≡ given + 1 → slice_get system.processes id.0 ≡ Some process → Enters system given id i
entering system process id pid given parent values owner i made port next there = record {
  process = ap (λ (j : InstanceValue). j.who.process) made;
  pid = ap (λ (j : InstanceValue). j.who.pid) made ∙ next;
  port = ap (λ (j : InstanceValue). j.owner.pid) made ∙ port ∙ next;
  lives = ap (λ (j : InstanceValue). is_ended j.position) made;
  member = record {
    system_is = ap (λ (j : InstanceValue). j.system) made;
    process_is = ap (λ (j : InstanceValue). slice_get system.processes j.who.process.0) made ∙ there
        ∙ ap (λ (j : InstanceValue). Some j.process) (sym made);
  };
  inside = slice_get_within system.processes id.0 process there;
}

-- who lives, with one more
pub living-entered : (system : SystemValue) (instances : List InstanceValue) (id : ProcessId) (i : InstanceValue)
    → Enters system (length instances) id i
    → living_of system (instances ++ i ∷ []) ≡ with_one_more (living_of system instances) id
living-entered system instances id i enters =
    let n = length system.processes in
    let numbers = range_with_len 0 n in
    let after = instances ++ i ∷ [] in
    let before : Living = living_of system instances in
    let p = id.0 in
    let zeroed : 0 + p ≡ p = omega arith in
    let is_own : i.who.process.0 ≡ p = ap (λ (id : ProcessId). id.0) enters.process in
    let own : lives_of p i ≡ true = lives_own i p (it i.who.process.0 p is_own) enters.lives in
    let other : (q : ℕ) → (q ≡ 0 + p → ⊥) → lives_of q i ≡ false = λ q apart.
    lives_other i q (not_it i.who.process.0 q (λ e. apart (e ∙ is_own ∙ sym zeroed))) in
    let least_there : slice_get before.least p ≡ Some (least_living instances p) =
    get_range (least_living instances) 0 n p enters.inside ∙ ap (λ q. Some (least_living instances q)) zeroed in
    let count_there : slice_get before.counts p ≡ Some (count_living instances p) =
    get_range (count_living instances) 0 n p enters.inside ∙ ap (λ q. Some (count_living instances q)) zeroed in
    let least_is : least_living after (0 + p) ≡ or_later (living_in before.least id) (Some (length instances + 1)) =
    ap (least_living after) zeroed ∙ least_own instances i p own
    ∙ ap (λ number. or_later (least_living instances p) (Some number)) enters.pid
    ∙ ap (λ found. or_later (unwrap_or found None) (Some (length instances + 1))) (sym least_there) in
    let count_is : count_living after (0 + p) ≡ count_in before id + 1 =
    ap (count_living after) zeroed ∙ count_own instances i p own
    ∙ ap (λ found. unwrap_or found 0 + 1) (sym count_there) in
    let least : map (least_living after) numbers
    ≡ set before.least p (or_later (living_in before.least id) (Some (length instances + 1))) =
    set_range (least_living after) (least_living instances) 0 p n
    (λ q apart. least_other instances i q (other q apart))
    ∙ ap (set before.least p) least_is in
    let counts : map (count_living after) numbers ≡ set before.counts p (count_in before id + 1) =
    set_range (count_living after) (count_living instances) 0 p n
    (λ q apart. count_other instances i q (other q apart))
    ∙ ap (set before.counts p) count_is in
    let given : length after ≡ length instances + 1 = length-append instances (i ∷ []) in
    let end : Living = with_one_more before id in
    ap (λ all. record (living_of system after) { least = all }) least
    ∙ ap (λ all. record end { counts = all; given = length after }) counts
    ∙ ap (λ all. record end { given = all }) given

places-entered : (from : ℕ) (instances : List InstanceValue) (i : InstanceValue) → AreInPlace from instances
    → i.who.pid ≡ from + length instances + 1 → i.owner.pid ≡ from + length instances + 1
    → AreInPlace from (instances ++ i ∷ [])
places-entered from [] i m pid port =
    let none : from + 0 + 1 ≡ from + 1 = omega arith in
    (pid ∙ none, port ∙ none, tt)
places-entered from (first ∷ rest) i m pid port =
    let shift : from + length (first ∷ rest) + 1 ≡ from + 1 + length rest + 1 = omega arith in
    (m.0, m.1, places-entered (from + 1) rest i m.2 (pid ∙ shift) (port ∙ shift))

place_cases : (instances : List InstanceValue) (i j : InstanceValue) (n : ℕ)
    → slice_get (instances ++ i ∷ []) n ≡ Some j → (n ≡ length instances) ⊎ (slice_get instances n ≡ Some j)
place_cases [] i j zero at = inl refl
place_cases [] i j (suc n) at = let no : ⊥ = cc in absurd no
place_cases (first ∷ rest) i j zero at = inr at
place_cases (first ∷ rest) i j (suc n) at = elim (place_cases rest i j n at) [
  | inl last ↦ inl (ap suc last)
  | inr before ↦ inr before
]

number_cases : (instances : List InstanceValue) (i j : InstanceValue) (n : ℕ)
    → instance_at (instances ++ i ∷ []) n ≡ Some j
    → (n ≡ length instances + 1) ⊎ (instance_at instances n ≡ Some j)
number_cases instances i j zero at = let no : ⊥ = cc in absurd no
number_cases instances i j (suc n) at = elim (place_cases instances i j n at) [
  | inl last ↦ inl (omega arith)
  | inr before ↦ inr before
]

marks-entered : (ready after : List ℕ) (instances : List InstanceValue) (i : InstanceValue)
    → AreMarked ready instances → IsWaked (length instances + 1) ready after → AreMarked after (instances ++ i ∷ [])
marks-entered ready after instances i marked waked =
    let count : length (instances ++ i ∷ []) ≡ length instances + 1 = length-append instances (i ∷ []) in
    record {
      there = λ n is. elim ((waked n).0 is) [
        | inl last ↦ (omega (arith, last), omega (arith, last, count))
        | inr before ↦
            (omega (arith, (marked.there n before).0), omega (arith, (marked.there n before).1, count))
      ];
      others = λ n j at. elim (number_cases instances i j n at) [
        | inl last ↦ inl ((waked n).1 (inl last))
        | inr before ↦ elim (marked.others n j before) [
          | inl readied ↦ inl ((waked n).1 (inr readied))
          | inr rests ↦ inr rests
        ]
      ];
    }

-- an instance enters, and may have something to do
pub serial-entered : (s t : Instances) (ready after : List ℕ) (id : ProcessId) (i : InstanceValue)
    → IsSerial ready s
    → Enters s.system.now s.living.given id i → t.system ≡ s.system → t.living ≡ with_one_more s.living id
    → t.instances.items ≡ s.instances.items ++ i ∷ [] → IsWaked (s.living.given + 1) ready after → IsSerial after t
serial-entered s t ready after id i serial enters system living instances waked =
    let before = s.instances.items in
    let given : s.living.given ≡ length before = ap (λ (c : Living). c.given) serial.living in
    let entered : Enters s.system.now (length before) id i =
    subst (λ given. Enters s.system.now given id i) given enters in
    let waked_so : IsWaked (length before + 1) ready after =
    subst (λ given. IsWaked (given + 1) ready after) given waked in
    record {
      living = living ∙ ap (λ c. with_one_more c id) serial.living
          ∙ sym (living-entered s.system.now before id i entered)
          ∙ ap (λ all. living_of s.system.now all) (sym instances)
          ∙ ap (λ (system : _). living_of system.now t.instances.items) (sym system);
      places = subst (AreInPlace 0) (sym instances)
          (places-entered 0 before i serial.places (entered.pid ∙ omega arith) (entered.port ∙ omega arith));
      members = subst (λ all. All (IsOfSystem t.system.now) all) (sym instances)
          (subst (λ (system : _). All (IsOfSystem system.now) (before ++ i ∷ [])) (sym system)
          (All-append (IsOfSystem s.system.now) before (i ∷ []) serial.members
          (All-cons (IsOfSystem s.system.now) i [] entered.member (All-nil (IsOfSystem s.system.now)))));
      marked = subst (AreMarked after) (sym instances)
          (marks-entered ready after before i serial.marked waked_so);
    }
