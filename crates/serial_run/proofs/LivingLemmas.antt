-- Who lives, where one instance has ended; and the numbers of instances.
use Rattle.std.proofs.Common.{◌≡◌, ◌≢◌, ◌∙◌, ◌+◌, ◌-◌, ◌<◌, ◌≤◌, ◌==◌, ◌&&◌, if◌then◌else◌, Bool, true, false, not, cond, ℕ, zero, suc, List, [], ◌∷◌, Option, None, Some, refl, sym, ap, subst, arith, slice_get, set, length, map, drop, eq-eqb}
use Rattle.std.specs.List.{range_with_len}
use Rattle.std.specs.Prelude.{IsSomeAnd, unwrap_or}
use Rattle.std.proofs.lemmas.List.{length-set}
use Rattle.std.proofs.lemmas.List.FromFn.{get_or-map-range_with_len}
use Rattle.std.proofs.lemmas.List.Sums.{sum_by-cons}
use Rattle.std.proofs.lemmas.Option.{unwrap_or-slice_get}
use Rattle.serial_order.specs.RunState.{living_of, count_living, is_ended, least_living, lives_of}
use Rattle.serial_run.specs.Serial.{AreInPlace, HasEnded}
use Rattle.serial_run.specs.declared.instances.Instances.{Instances}
use Rattle.run_record.specs.declared.evaluation.identity.Identity.{Identity}
use Rattle.sdl_interp.specs.Instance.{InstanceValue}
use Rattle.run_semantics.specs.World.{Living, count_in}
use Rattle.sdl_system.specs.Route.{living_in}

-- the numbers of an instance at a place
pub in_place : (n : ℕ) (xs : List InstanceValue) (place : ℕ) (i : InstanceValue) → AreInPlace n xs
    → slice_get xs place ≡ Some i → (i.who.pid ≡ n + place + 1) × (i.owner.pid ≡ n + place + 1)
in_place n [] place i are there = let no : ⊥ = cc in absurd no
in_place n (x ∷ xs) zero i are there =
    let is : x ≡ i = cc in (
      sym (ap (λ (j : InstanceValue). j.who.pid) is) ∙ are.0 ∙ omega arith,
      sym (ap (λ (j : InstanceValue). j.owner.pid) is) ∙ are.1 ∙ omega arith,
    )
in_place n (x ∷ xs) (suc place) i are there =
    let rest = in_place (n + 1) xs place i are.2 there in
    (rest.0 ∙ omega arith, rest.1 ∙ omega arith)

-- how many live, of one more
pub count_cons : (q : ℕ) (x : InstanceValue) (xs : List InstanceValue)
    → count_living (x ∷ xs) q ≡ cond (lives_of q x) 1 0 + count_living xs q
count_cons q x xs = sum_by-cons (λ (i : InstanceValue). cond (lives_of q i) 1 0) x xs

other_number : (a b : ℕ) → a ≢ b → (a == b) ≡ false
other_number a b other = grind (arith, other)

module _ (before now : InstanceValue) (lived : is_ended before.position ≡ false)
    (ended : is_ended now.position ≡ true) (who : now.who ≡ before.who) where
  process_same : now.who.process.0 ≡ before.who.process.0
  process_same = ap (λ (w : Identity). w.process.0) who

  pid_same : now.who.pid ≡ before.who.pid
  pid_same = ap (λ (w : Identity). w.pid) who

  lived_then : (q : ℕ) → now.who.process.0 ≡ q → lives_of q before ≡ true
  lived_then q is =
      let same : (before.who.process.0 == q) ≡ true =
      eq-eqb before.who.process.0 q (sym process_same ∙ is) in
      λ i. (same i) && not (lived i)

  ended_now : (q : ℕ) → now.who.process.0 ≡ q → lives_of q now ≡ false
  ended_now q is =
      let same : (now.who.process.0 == q) ≡ true = eq-eqb now.who.process.0 q is in
      λ i. (same i) && not (ended i)

  -- those of other processes are none the less
  not_before : (q : ℕ) → q ≢ now.who.process.0 → lives_of q before ≡ false
  not_before q other =
      let no : (before.who.process.0 == q) ≡ false =
      other_number before.who.process.0 q
      (λ is. other (sym (process_same ∙ is))) in
      ap (λ b. b && not (is_ended before.position)) no

  not_now : (q : ℕ) → q ≢ now.who.process.0 → lives_of q now ≡ false
  not_now q other =
      let no : (now.who.process.0 == q) ≡ false =
      other_number now.who.process.0 q (λ is. other (sym is)) in
      ap (λ b. b && not (is_ended now.position)) no

  least_other : (q : ℕ) → q ≢ now.who.process.0 → (xs : List InstanceValue) (place : ℕ)
      → slice_get xs place ≡ Some now → least_living (set xs place before) q ≡ least_living xs q
  least_other q other [] place there = refl
  least_other q other (x ∷ xs) zero there =
      let is : now ≡ x = cc in
      ap (λ b. if b then Some before.who.pid else least_living xs q) (not_before q other)
      ∙ ap (λ b. if b then Some now.who.pid else least_living xs q) (sym (not_now q other))
      ∙ ap (λ (j : InstanceValue). if lives_of q j then Some j.who.pid else least_living xs q) is
  least_other q other (x ∷ xs) (suc place) there =
      ap (λ rest. if lives_of q x then Some x.who.pid else rest) (least_other q other xs place there)

  count_other : (q : ℕ) → q ≢ now.who.process.0 → (xs : List InstanceValue) (place : ℕ)
      → slice_get xs place ≡ Some now → count_living (set xs place before) q ≡ count_living xs q
  count_other q other [] place there = refl
  count_other q other (x ∷ xs) zero there =
      let is : now ≡ x = cc in
      count_cons q before xs ∙ ap (λ b. cond b 1 0 + count_living xs q) (not_before q other)
      ∙ ap (λ b. cond b 1 0 + count_living xs q) (sym (not_now q other))
      ∙ ap (λ (j : InstanceValue). cond (lives_of q j) 1 0 + count_living xs q) is ∙ sym (count_cons q x xs)
  count_other q other (x ∷ xs) (suc place) there =
      count_cons q x (set xs place before)
      ∙ ap (λ rest. cond (lives_of q x) 1 0 + rest) (count_other q other xs place there) ∙ sym (count_cons q x xs)

  -- of its process one fewer lives
  count_fewer : (q : ℕ) → now.who.process.0 ≡ q → (xs : List InstanceValue) (place : ℕ)
      → slice_get xs place ≡ Some now → count_living (set xs place before) q ≡ count_living xs q + 1
  count_fewer q own [] place there = let no : ⊥ = cc in absurd no
  count_fewer q own (x ∷ xs) zero there =
      let is : now ≡ x = cc in
      let one : count_living (before ∷ xs) q ≡ 1 + count_living xs q =
      count_cons q before xs ∙ ap (λ b. cond b 1 0 + count_living xs q) (lived_then q own) in
      let none : count_living (x ∷ xs) q ≡ 0 + count_living xs q =
      count_cons q x xs ∙ sym (ap (λ (j : InstanceValue). cond (lives_of q j) 1 0 + count_living xs q) is)
      ∙ ap (λ b. cond b 1 0 + count_living xs q) (ended_now q own) in
      omega (arith, one, none)
  count_fewer q own (x ∷ xs) (suc place) there =
      let first = count_cons q x (set xs place before) in
      let second = count_cons q x xs in
      omega (arith, first, second, count_fewer q own xs place there)

  -- its place begins the search, unless a lesser number lives
  module _ (q : ℕ) (own : now.who.process.0 ≡ q) where
    lesser_by : (b : Bool) (pid m : ℕ) (rest whole : Option ℕ) → (if b then Some pid else rest) ≡ Some m
        → (rest ≡ Some m → whole ≡ Some m) → (if b then Some pid else whole) ≡ Some m
    lesser_by true pid m rest whole e more = e
    lesser_by false pid m rest whole e more = more e

    pub lesser : (xs : List InstanceValue) (place m : ℕ) → slice_get xs place ≡ Some now
        → least_living (set xs place before) q ≡ Some m → m < now.who.pid → least_living xs q ≡ Some m
    lesser [] place m there e less = let no : ⊥ = cc in absurd no
    lesser (x ∷ xs) zero m there e less =
        let first : Some before.who.pid ≡ Some m =
        sym (ap (λ b. if b then Some before.who.pid else least_living xs q) (lived_then q own)) ∙ e in
        let is : before.who.pid ≡ m = cc in
        absurd (omega (arith, is, pid_same, less))
    lesser (x ∷ xs) (suc place) m there e less =
        lesser_by (lives_of q x) x.who.pid m (least_living (set xs place before) q) (least_living xs q) e
        (λ rest. lesser xs place m there rest less)

    behind_by : (b : Bool) (pid : ℕ) (rest whole behind : Option ℕ) → pid < now.who.pid
        → ((m : ℕ) → (if b then Some pid else rest) ≡ Some m → now.who.pid ≤ m)
        → (((m : ℕ) → rest ≡ Some m → now.who.pid ≤ m) → behind ≡ whole)
        → behind ≡ (if b then Some pid else whole)
    behind_by true pid rest whole behind less most more = absurd (omega (arith, less, most pid refl))
    behind_by false pid rest whole behind less most more = more most

    pub behind : (n : ℕ) (xs : List InstanceValue) (place : ℕ) → AreInPlace n xs → slice_get xs place ≡ Some now
        → ((m : ℕ) → least_living (set xs place before) q ≡ Some m → now.who.pid ≤ m)
        → least_living (drop place xs) q ≡ least_living xs q
    behind n [] place are there most = let no : ⊥ = cc in absurd no
    behind n (x ∷ xs) zero are there most = refl
    behind n (x ∷ xs) (suc place) are there most =
        behind_by (lives_of q x) x.who.pid (least_living (set xs place before) q) (least_living xs q)
        (least_living (drop place xs) q)
        (omega (arith, are.0, (in_place (n + 1) xs place now are.2 there).0))
        most (behind (n + 1) xs place are.2 there)

    none_by : (b : Bool) (pid : ℕ) (rest whole : Option ℕ) → (if b then Some pid else rest) ≡ None
        → (rest ≡ None → whole ≡ None) → (if b then Some pid else whole) ≡ None
    none_by true pid rest whole e more = e
    none_by false pid rest whole e more = more e

    pub none_left : (xs : List InstanceValue) (place : ℕ) → slice_get xs place ≡ Some now
        → least_living (set xs place before) q ≡ None → least_living xs q ≡ None
    none_left [] place there e = e
    none_left (x ∷ xs) zero there e =
        let first : Some before.who.pid ≡ None =
        sym (ap (λ b. if b then Some before.who.pid else least_living xs q) (lived_then q own)) ∙ e in
        let no : ⊥ = cc in absurd no
    none_left (x ∷ xs) (suc place) there e =
        none_by (lives_of q x) x.who.pid (least_living (set xs place before) q) (least_living xs q) e
        (none_left xs place there)

-- ---- lists by numbers

map_same : {A : Type 0} (f g : ℕ → A) (k n : ℕ) → ((q : ℕ) → k ≤ q → f q ≡ g q)
    → map f (range_with_len k n) ≡ map g (range_with_len k n)
map_same f g k zero same = refl
map_same f g k (suc n) same =
    ap (λ x. x ∷ map f (range_with_len (k + 1) n)) (same k (omega arith))
    ∙ ap (λ xs. g k ∷ xs) (map_same f g (k + 1) n (λ q above. same q (omega (arith, above))))

map_set : {A : Type 0} (f g : ℕ → A) (k n p : ℕ) (v : A) → v ≡ g (k + p) → ((q : ℕ) → q ≢ k + p → f q ≡ g q)
    → set (map f (range_with_len k n)) p v ≡ map g (range_with_len k n)
map_set f g k zero p v is same = refl
map_set f g k (suc n) zero v is same =
    let here : k + 0 ≡ k = omega arith in
    ap (λ x. x ∷ map f (range_with_len (k + 1) n)) (is ∙ ap g here)
    ∙ ap (λ xs. g k ∷ xs) (map_same f g (k + 1) n (λ q above. same q (λ e. absurd (omega (arith, above, e)))))
map_set f g k (suc n) (suc p) v is same =
    let on : k + suc p ≡ k + 1 + p = omega arith in
    ap (λ x. x ∷ set (map f (range_with_len (k + 1) n)) p v) (same k (λ e. absurd (omega (arith, e))))
    ∙ ap (λ xs. g k ∷ xs)
    (map_set f g (k + 1) n p v (is ∙ ap g on) (λ q other. same q (λ e. other (e ∙ on))))

-- who lives without the one that has ended
pub living_left : (s : Instances) (place : ℕ) (h : HasEnded s place) (least : Option ℕ)
    → least ≡ least_living s.instances.items h.now.who.process.0
    → (let c : Living = record s.living {
      least = set s.living.least h.now.who.process.0 least;
      counts = set s.living.counts h.now.who.process.0 (count_in s.living h.now.who.process - 1);
    } in c) ≡ living_of s.system.now s.instances.items
living_left s place h least is =
    let xs = s.instances.items in
    let was = set xs place h.before in
    let p = h.now.who.process.0 in
    let n = length s.system.now.processes in
    let counted : unwrap_or (slice_get (map (count_living was) (range_with_len 0 n)) p) 0 ≡ count_living was p =
    unwrap_or-slice_get (map (count_living was) (range_with_len 0 n)) p 0
    ∙ get_or-map-range_with_len (count_living was) 0 n p p 0 h.inside (omega arith) in
    let fewer : count_living was p ≡ count_living xs p + 1 =
    count_fewer h.before h.now h.lived h.ended h.who p refl xs place h.is_there in
    let one_less : unwrap_or (slice_get (map (count_living was) (range_with_len 0 n)) p) 0 - 1 ≡ count_living xs p =
    omega (arith, counted, fewer) in
    let leasts : set (map (least_living was) (range_with_len 0 n)) p least ≡ map (least_living xs) (range_with_len 0 n) =
    map_set (least_living was) (least_living xs) 0 n p least (is ∙ ap (least_living xs) (omega arith))
    (λ q other. least_other h.before h.now h.lived h.ended h.who q (λ e. other (e ∙ omega arith)) xs place
    h.is_there) in
    let counts : set (map (count_living was) (range_with_len 0 n)) p
    (unwrap_or (slice_get (map (count_living was) (range_with_len 0 n)) p) 0 - 1)
    ≡ map (count_living xs) (range_with_len 0 n) =
    map_set (count_living was) (count_living xs) 0 n p
    (unwrap_or (slice_get (map (count_living was) (range_with_len 0 n)) p) 0 - 1)
    (one_less ∙ ap (count_living xs) (omega arith))
    (λ q other. count_other h.before h.now h.lived h.ended h.who q (λ e. other (e ∙ omega arith)) xs place
    h.is_there) in
    ap (λ (c : Living). record c {
      least = set c.least p least;
      counts = set c.counts p (count_in c h.now.who.process - 1);
    }) h.living
    ∙ (λ i. record { least = leasts i; counts = counts i; given = length-set xs place h.before i })

-- who lives, as it is counted, before the end
living_was : (s : Instances) (place : ℕ) (h : HasEnded s place)
    → living_in s.living.least h.now.who.process
    ≡ least_living (set s.instances.items place h.before) h.now.who.process.0
living_was s place h =
    let was = set s.instances.items place h.before in
    let p = h.now.who.process.0 in
    let n = length s.system.now.processes in
    ap (λ (c : Living). living_in c.least h.now.who.process) h.living
    ∙ unwrap_or-slice_get (map (least_living was) (range_with_len 0 n)) p None
    ∙ get_or-map-range_with_len (least_living was) 0 n p p None h.inside (omega arith)

who_there : (o : Option InstanceValue) (i : InstanceValue) (who : Identity) → o ≡ Some i
    → IsSomeAnd o (λ (j : InstanceValue). j.who ≡ who) → i.who ≡ who
who_there o i who is at = subst (λ (o : Option InstanceValue). IsSomeAnd o (λ (j : InstanceValue). j.who ≡ who)) is at

module _ (s : Instances) (place : ℕ) (h : HasEnded s place) (who : Identity)
    (at : IsSomeAnd (slice_get s.instances.items place) (λ (i : InstanceValue). i.who ≡ who)) where
  who_is : h.now.who ≡ who
  who_is = who_there (slice_get s.instances.items place) h.now who h.is_there at

  process_is : h.now.who.process.0 ≡ who.process.0
  process_is = ap (λ (w : Identity). w.process.0) who_is

  was_living : living_in s.living.least who.process
      ≡ least_living (set s.instances.items place h.before) who.process.0
  was_living = subst (λ (w : Identity). living_in s.living.least w.process
      ≡ least_living (set s.instances.items place h.before) w.process.0) who_is (living_was s place h)

  -- the least number, where it is less
  pub left_lesser : (m : ℕ) → Some m ≡ living_in s.living.least who.process → m < who.pid
      → Some m ≡ least_living s.instances.items who.process.0
  left_lesser m is less =
      let pid = ap (λ (w : Identity). w.pid) who_is in
      sym (lesser h.before h.now h.lived h.ended h.who who.process.0 process_is s.instances.items place m h.is_there
      (sym (is ∙ was_living)) (omega (arith, pid, less)))

  -- where it is not less, it is the one that has ended
  pub left_behind : (m : ℕ) → Some m ≡ living_in s.living.least who.process → who.pid ≤ m
      → least_living (drop place s.instances.items) who.process.0 ≡ least_living s.instances.items who.process.0
  left_behind m is most =
      let pid = ap (λ (w : Identity). w.pid) who_is in
      behind h.before h.now h.lived h.ended h.who who.process.0 process_is 0 s.instances.items place h.places h.is_there
      (λ other e.
      let both : Some m ≡ Some other = is ∙ was_living ∙ e in
      let same : m ≡ other = cc in
      omega (arith, pid, most, same))

  pub left_none : None ≡ living_in s.living.least who.process
      → None ≡ least_living s.instances.items who.process.0
  left_none is =
      sym (none_left h.before h.now h.lived h.ended h.who who.process.0 process_is s.instances.items place h.is_there
      (sym (is ∙ was_living)))

  pub leaves : (least : Option ℕ) (living : Living) → least ≡ least_living s.instances.items who.process.0
      → living ≡ record s.living {
        least = set s.living.least who.process.0 least;
        counts = set s.living.counts who.process.0 (count_in s.living who.process - 1);
      } → living ≡ living_of s.system.now s.instances.items
  leaves least living is now =
      let own : least ≡ least_living s.instances.items h.now.who.process.0 =
      is ∙ ap (least_living s.instances.items) (sym process_is) in
      now
      ∙ ap (λ (w : Identity). record s.living {
        least = set s.living.least w.process.0 least;
        counts = set s.living.counts w.process.0 (count_in s.living w.process - 1);
      }) (sym who_is)
      ∙ living_left s place h least own
