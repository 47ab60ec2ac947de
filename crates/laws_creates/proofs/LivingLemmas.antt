-- Who lives, where an act is done.
use Rattle.std.proofs.Common.{◌≡◌, ◌∙◌, ◌&&◌, ◌==◌, ◌++◌, ◌+◌, ◌<◌, ◌≤◌, add-zero, ap, arith, cond, if◌then◌else◌, length-append, refl, sym, ℕ, zero, suc, Bool, true, false, not, List, [], ◌∷◌, None, Option, Some, length, map, nat_eq, nat_le, set, slice_get, unwrap_or}
use Rattle.std.specs.List.{range_with_len}
use Rattle.std.proofs.lemmas.List.{length-set}
use Rattle.std.proofs.lemmas.List.Sums.{sum_by-cons, sum_by_push}
use Rattle.std.proofs.lemmas.Option.{same_Some, slice_get_within}
use Rattle.port_model.specs.declared.values.pid.Pid.TheVariants.{Of}
use Rattle.port_model.specs.declared.values.value.Value.{Value}
use Rattle.serial_order.proofs.Made.{MakesNext}
use Rattle.serial_order.specs.RunState.{RunState, after_effect, living_of, change_at, changed_at, count_living, instance_at, instance_of, is_ended, least_living, lives_of, with_expiry, with_put}
use Rattle.laws_creates.proofs.Creates.{create_is}
use Rattle.run_record.specs.declared.evaluation.identity.Identity.{Identity}
use Rattle.sdl_interp.specs.Instance.{InstanceValue}
use Rattle.run_semantics.specs.Effect.{Effect, Arm, Create, Send}
use Rattle.run_semantics.specs.World.{Living, living_after, count_in, with_one_more}
use Rattle.sdl_system.specs.Route.{living_in, or_later}
use Rattle.sdl_system.specs.System.{SystemValue}
use Rattle.sdl_system.specs.declared.process.Process.{Process}
use Rattle.sdl_system.specs.declared.route.Target.TheVariants.{Env, Instance, Nobody, Null}
use Rattle.sdl_timers.specs.DueOrder.{with_fuse}

-- ---- one is changed

count_cons : (q : ℕ) (x : InstanceValue) (xs : List InstanceValue)
    → count_living (x ∷ xs) q ≡ cond (lives_of q x) 1 0 + count_living xs q
count_cons q x xs = sum_by-cons (λ (i : InstanceValue). cond (lives_of q i) 1 0) x xs

-- one that stays who it is and where it is
module _ (q : ℕ) (old new : InstanceValue) (who : new.who ≡ old.who)
    (ended : is_ended new.position ≡ is_ended old.position) where
  lives_same : lives_of q new ≡ lives_of q old
  lives_same = λ i. ((who i).process.0 == q) && not (ended i)

  least_same : (xs : List InstanceValue) (place : ℕ) → slice_get xs place ≡ Some old
      → least_living (set xs place new) q ≡ least_living xs q
  least_same [] place there = refl
  least_same (x ∷ xs) zero there =
      let is : old ≡ x = sym (same_Some x old there) in
      let at : Bool → ℕ → Option ℕ = λ lives pid. if lives then Some pid else least_living xs q in
      ap (λ b. at b new.who.pid) lives_same ∙ ap (λ (w : Identity). at (lives_of q old) w.pid) who
      ∙ ap (λ (j : InstanceValue). at (lives_of q j) j.who.pid) is
  least_same (x ∷ xs) (suc place) there =
      ap (λ rest. if lives_of q x then Some x.who.pid else rest) (least_same xs place there)

  count_same : (xs : List InstanceValue) (place : ℕ) → slice_get xs place ≡ Some old
      → count_living (set xs place new) q ≡ count_living xs q
  count_same [] place there = refl
  count_same (x ∷ xs) zero there =
      let is : old ≡ x = sym (same_Some x old there) in
      let at : Bool → ℕ = λ lives. cond lives 1 0 + count_living xs q in
      count_cons q new xs ∙ ap at lives_same ∙ ap (λ (j : InstanceValue). at (lives_of q j)) is
      ∙ sym (count_cons q x xs)
  count_same (x ∷ xs) (suc place) there =
      count_cons q x (set xs place new) ∙ ap (λ rest. cond (lives_of q x) 1 0 + rest) (count_same xs place there)
      ∙ sym (count_cons q x xs)

living_set : (system : SystemValue) (xs : List InstanceValue) (place : ℕ) (old new : InstanceValue)
    → slice_get xs place ≡ Some old → new.who ≡ old.who → is_ended new.position ≡ is_ended old.position
    → living_of system (set xs place new) ≡ living_of system xs
living_set system xs place old new there who ended = λ i. record {
  least = map (λ q. least_same q old new who ended xs place there i) (range_with_len 0 (length system.processes));
  counts = map (λ q. count_same q old new who ended xs place there i) (range_with_len 0 (length system.processes));
  given = length-set xs place new i;
}

module _ (system : SystemValue) (change : InstanceValue → InstanceValue)
    (who : (i : InstanceValue) → (change i).who ≡ i.who)
    (ended : (i : InstanceValue) → is_ended (change i).position ≡ is_ended i.position) where
  living_changed : (xs : List InstanceValue) (n : ℕ) (o : Option InstanceValue) → instance_at xs n ≡ o
      → living_of system (changed_at change xs n o) ≡ living_of system xs
  living_changed xs n None is = refl
  living_changed xs zero (Some i) is = refl
  living_changed xs (suc k) (Some i) is = living_set system xs k i (change i) is (who i) (ended i)

  living_change : (xs : List InstanceValue) (n : ℕ)
      → living_of system (change_at change xs n) ≡ living_of system xs
  living_change xs n = living_changed xs n (instance_at xs n) refl

-- ---- one more is there

map_alike : {X : Type 0} (f g : ℕ → X) (b n : ℕ) → ((q : ℕ) → b ≤ q → f q ≡ g q)
    → map f (range_with_len b n) ≡ map g (range_with_len b n)
map_alike f g b zero agree = refl
map_alike f g b (suc n) agree =
    let later = map_alike f g (b + 1) n (λ q above. agree q (omega (arith, above))) in
    let head : f b ≡ g b = agree b (omega arith) in
    ap (λ y. y ∷ map f (range_with_len (b + 1) n)) head ∙ ap (λ ys. g b ∷ ys) later

-- functions that agree but at one number
set_range : {X : Type 0} (f g : ℕ → X) (b place n : ℕ) → ((q : ℕ) → (q ≡ b + place → ⊥) → f q ≡ g q)
    → map f (range_with_len b n) ≡ set (map g (range_with_len b n)) place (f (b + place))
set_range f g b place zero agree = refl
set_range f g b zero (suc n) agree =
    let later : map f (range_with_len (b + 1) n) ≡ map g (range_with_len (b + 1) n) =
    map_alike f g (b + 1) n (λ q above. agree q (λ e. let no : ⊥ = omega (arith, above, e) in no)) in
    let head : f b ≡ f (b + 0) = ap f (sym (add-zero b)) in
    ap (λ y. y ∷ map f (range_with_len (b + 1) n)) head ∙ ap (λ ys. f (b + 0) ∷ ys) later
set_range f g b (suc place) (suc n) agree =
    let same : b + 1 + place ≡ b + suc place = omega arith in
    let later = set_range f g (b + 1) place n (λ q apart. agree q (λ e. apart (e ∙ sym same))) in
    let head : f b ≡ g b = agree b (λ e. let no : ⊥ = omega (arith, e) in no) in
    ap (λ y. y ∷ map f (range_with_len (b + 1) n)) head
    ∙ ap (λ ys. g b ∷ ys) (later ∙ ap (λ q. set (map g (range_with_len (b + 1) n)) place (f q)) same)

pub get_range : {X : Type 0} (g : ℕ → X) (b n k : ℕ) → k < n
    → slice_get (map g (range_with_len b n)) k ≡ Some (g (b + k))
get_range g b zero k inside = let no : ⊥ = omega arith in absurd no
get_range g b (suc n) zero inside = ap (λ q. Some (g q)) (sym (add-zero b))
get_range g b (suc n) (suc k) inside =
    let same : b + 1 + k ≡ b + suc k = omega arith in
    get_range g (b + 1) n k (omega arith) ∙ ap (λ q. Some (g q)) same

lives_other : (i : InstanceValue) (q : ℕ) → nat_eq i.who.process.0 q ≡ false → lives_of q i ≡ false
lives_other i q other = ap (λ own. own && not (is_ended i.position)) other

pub lives_own : (i : InstanceValue) (q : ℕ) → nat_eq i.who.process.0 q ≡ true → is_ended i.position ≡ false
    → lives_of q i ≡ true
lives_own i q own alive =
    ap (λ own. own && not (is_ended i.position)) own ∙ ap (λ ended. not ended) alive

later_too : (lives : Bool) (first : ℕ) (after before last : Option ℕ) → after ≡ or_later before last
    → (if lives then Some first else after) ≡ or_later (if lives then Some first else before) last
later_too true first after before last e = refl
later_too false first after before last e = e

least_own : (instances : List InstanceValue) (i : InstanceValue) (q : ℕ) → lives_of q i ≡ true
    → least_living (instances ++ i ∷ []) q ≡ or_later (least_living instances q) (Some i.who.pid)
least_own [] i q lives = ap (λ lives. if lives then Some i.who.pid else None) lives
least_own (first ∷ rest) i q lives =
    later_too (lives_of q first) first.who.pid (least_living (rest ++ i ∷ []) q) (least_living rest q) (Some i.who.pid)
    (least_own rest i q lives)

least_other : (instances : List InstanceValue) (i : InstanceValue) (q : ℕ) → lives_of q i ≡ false
    → least_living (instances ++ i ∷ []) q ≡ least_living instances q
least_other [] i q lives = ap (λ lives. if lives then Some i.who.pid else None) lives
least_other (first ∷ rest) i q lives =
    ap (λ later. if lives_of q first then Some first.who.pid else later) (least_other rest i q lives)

count_own : (instances : List InstanceValue) (i : InstanceValue) (q : ℕ) → lives_of q i ≡ true
    → count_living (instances ++ i ∷ []) q ≡ count_living instances q + 1
count_own instances i q lives =
    sum_by_push (λ j. cond (lives_of q j) 1 0) instances i
    ∙ ap (λ lives. count_living instances q + cond lives 1 0) lives

count_other : (instances : List InstanceValue) (i : InstanceValue) (q : ℕ) → lives_of q i ≡ false
    → count_living (instances ++ i ∷ []) q ≡ count_living instances q
count_other instances i q lives =
    sum_by_push (λ j. cond (lives_of q j) 1 0) instances i
    ∙ ap (λ lives. count_living instances q + cond lives 1 0) lives
    ∙ add-zero (count_living instances q)

not_it : (a b : ℕ) → (b ≡ a → ⊥) → nat_eq a b ≡ false
not_it a b apart = grind arith

pub it : (a b : ℕ) → a ≡ b → nat_eq a b ≡ true
it a b e = grind arith

-- an instance before its start, with the next number
living_more : (system : SystemValue) (instances : List InstanceValue) (who : Identity) (process : Process)
    (values : List Value) → slice_get system.processes who.process.0 ≡ Some process → who.pid ≡ length instances + 1
    → living_of system (instances ++ instance_of system process who values ∷ [])
    ≡ with_one_more (living_of system instances) who.process
living_more system instances who process values is number =
    let i : InstanceValue = instance_of system process who values in
    let n = length system.processes in
    let numbers = range_with_len 0 n in
    let after = instances ++ i ∷ [] in
    let before : Living = living_of system instances in
    let p = who.process.0 in
    let inside : p < n = slice_get_within system.processes p process is in
    let zeroed : 0 + p ≡ p = omega arith in
    let own : lives_of p i ≡ true = lives_own i p (it p p refl) refl in
    let other : (q : ℕ) → (q ≡ 0 + p → ⊥) → lives_of q i ≡ false = λ q apart.
    lives_other i q (not_it p q (λ e. apart (e ∙ sym zeroed))) in
    let least_there : slice_get before.least p ≡ Some (least_living instances p) =
    get_range (least_living instances) 0 n p inside ∙ ap (λ q. Some (least_living instances q)) zeroed in
    let count_there : slice_get before.counts p ≡ Some (count_living instances p) =
    get_range (count_living instances) 0 n p inside ∙ ap (λ q. Some (count_living instances q)) zeroed in
    let least_is : least_living after (0 + p) ≡ or_later (living_in before.least who.process)
    (Some (length instances + 1)) =
    ap (least_living after) zeroed ∙ least_own instances i p own
    ∙ ap (λ number. or_later (least_living instances p) (Some number)) number
    ∙ ap (λ found. or_later (unwrap_or found None) (Some (length instances + 1))) (sym least_there) in
    let count_is : count_living after (0 + p) ≡ count_in before who.process + 1 =
    ap (count_living after) zeroed ∙ count_own instances i p own
    ∙ ap (λ found. unwrap_or found 0 + 1) (sym count_there) in
    let least : map (least_living after) numbers
    ≡ set before.least p (or_later (living_in before.least who.process) (Some (length instances + 1))) =
    set_range (least_living after) (least_living instances) 0 p n
    (λ q apart. least_other instances i q (other q apart))
    ∙ ap (set before.least p) least_is in
    let counts : map (count_living after) numbers ≡ set before.counts p (count_in before who.process + 1) =
    set_range (count_living after) (count_living instances) 0 p n
    (λ q apart. count_other instances i q (other q apart))
    ∙ ap (set before.counts p) count_is in
    let given : length after ≡ length instances + 1 = length-append instances (i ∷ []) in
    let end : Living = with_one_more before who.process in
    ap (λ all. record (living_of system after) { least = all }) least
    ∙ ap (λ all. record end { counts = all; given = length after }) counts
    ∙ ap (λ all. record end { given = all }) given

-- ---- an act

-- who lives as a step counts it is who lives
pub living_effect : (system : SystemValue) (g : RunState) (effect : Effect) → g.system ≡ system
    → MakesNext system (length g.instances) effect
    → living_after (living_of system g.instances) effect ≡ living_of system (after_effect g effect).instances
living_effect system g (Send (Instance number) item) same makes =
    sym (living_change system (with_put item) (λ i. refl) (λ i. refl) g.instances number)
living_effect system g (Send Env item) same makes = refl
living_effect system g (Send Null item) same makes = refl
living_effect system g (Send Nobody item) same makes = refl
living_effect system g (Arm fuse) same makes =
    by_test (nat_le fuse.due g.clock)
    (record g { instances = change_at (with_expiry fuse g.clock) g.instances fuse.pid })
    (record g { fuses = with_fuse fuse g.fuses })
    (sym (living_change system (with_expiry fuse g.clock) (λ i. refl) (λ i. refl) g.instances fuse.pid)) refl where
      by_test : (b : Bool) (now later : RunState) → living_of system g.instances ≡ living_of system now.instances
          → living_of system g.instances ≡ living_of system later.instances
          → living_of system g.instances ≡ living_of system (if b then now else later).instances
      by_test true now later first second = first
      by_test false now later first second = second
living_effect system g (Create id number parent values) same makes =
    let who : Identity = record { process = id; pid = number; parent = Of parent } in
    sym (ap (λ (h : RunState). living_of system h.instances)
    (create_is system g id number parent values makes.1.process same makes.1.is_there)
    ∙ living_more system g.instances who makes.1.process values makes.1.is_there makes.0)
