-- Lists: what a test tells of all entries, of none, and of one entry among others.
use Rattle.std.proofs.Common.{◌≡◌, ◌+◌, ◌≤◌, Bool, true, false, not, ◌&&◌, ◌||◌, cond, List, [], ◌∷◌, ◌++◌, length, map, filter, refl, ap, arith}
use Rattle.std.specs.List.{list_any}

-- a test and more says nothing where no entry passes the test
pub none_tested : {X : Type 0} (p q : X → Bool) (xs : List X) → list_any p xs ≡ false → list_any (λ x. p x && q x) xs ≡ false
none_tested p q [] e = refl
none_tested p q (x ∷ xs) e = grind (arith, none_tested p q xs)

-- what passes one test passes another
module _ {X : Type 0} (p q : X → Bool) (h : (x : X) → p x ≡ true → q x ≡ true) where
  pub any_implied : (xs : List X) → list_any p xs ≡ true → list_any q xs ≡ true
  any_implied [] e = e
  any_implied (x ∷ xs) e = grind (arith, any_implied xs, h x)

  pub none_implied : (xs : List X) → list_any q xs ≡ false → list_any p xs ≡ false
  none_implied [] e = refl
  none_implied (x ∷ xs) e = grind (arith, none_implied xs, h x)

pub any-map : {X Y : Type 0} (f : X → Y) (p : Y → Bool) (xs : List X) → list_any p (map f xs) ≡ list_any (λ x. p (f x)) xs
any-map f p [] = refl
any-map f p (x ∷ xs) = ap (λ b. p (f x) || b) (any-map f p xs)

-- the second list is the first with one entry more
pub data With {X : Type 0} (x : X) : List X → List X → Type 0 where
  first : (rest : List X) → With x rest (x ∷ rest)
  later : (e : X) (rest all : List X) → With x rest all → With x (e ∷ rest) (e ∷ all)

pub pushed : {X : Type 0} (xs : List X) (x : X) → With x xs (xs ++ x ∷ [])
pushed [] x = first []
pushed (e ∷ xs) x = later e xs (xs ++ x ∷ []) (pushed xs x)

pub middle : {X : Type 0} (before after : List X) (x : X) → With x (before ++ after) (before ++ x ∷ after)
middle [] after x = first after
middle (e ∷ before) after x = later e (before ++ after) (before ++ x ∷ after) (middle before after x)

pub with_map : {X Y : Type 0} (f : X → Y) {x : X} {rest all : List X} → With x rest all → With (f x) (map f rest) (map f all)
with_map f (first rest) = first (map f rest)
with_map f (later e rest all w) = later (f e) (map f rest) (map f all) (with_map f w)

module _ {X : Type 0} (p : X → Bool) where
  pub none_counted : (xs : List X) → length (filter p xs) ≡ 0 → list_any p xs ≡ false
  none_counted [] e = refl
  none_counted (x ∷ xs) e = grind (arith, none_counted xs)

  pub some_counted : (xs : List X) → list_any p xs ≡ true → 1 ≤ length (filter p xs)
  some_counted [] e = absurd cc
  some_counted (x ∷ xs) e = grind (arith, some_counted xs)

  pub none_pushed : (xs : List X) (x : X) → list_any p xs ≡ false → p x ≡ false → list_any p (xs ++ x ∷ []) ≡ false
  none_pushed [] x none is = grind arith
  none_pushed (y ∷ xs) x none is = grind (arith, none_pushed xs x)

  pub none_left : (xs : List X) → list_any p xs ≡ false → filter (λ x. not (p x)) xs ≡ xs
  none_left [] e = refl
  none_left (x ∷ xs) e = grind (arith, none_left xs)

  pub none_kept : (xs : List X) → list_any p xs ≡ false → filter p xs ≡ []
  none_kept [] e = refl
  none_kept (x ∷ xs) e = grind (arith, none_kept xs)

  pub any_with : {x : X} {rest all : List X} → With x rest all → list_any p all ≡ (p x || list_any p rest)
  any_with (first rest) = refl
  any_with (later e rest all w) = grind (arith, any_with w)

  pub count_with : {x : X} {rest all : List X} → With x rest all → length (filter p all) ≡ length (filter p rest) + cond (p x) 1 0
  count_with {x} (first rest) = grind (arith, p x)
  count_with (later e rest all w) = grind (arith, count_with w)

  pub none_lost : {x : X} {rest all : List X} → With x rest all → p x ≡ false → filter p all ≡ filter p rest
  none_lost (first rest) is = grind arith
  none_lost (later e rest all w) is = grind (arith, none_lost w)

  -- one entry alone passes
  pub others_left : {x : X} {rest all : List X} → With x rest all → p x ≡ true → list_any p rest ≡ false → filter (λ y. not (p y)) all ≡ rest
  others_left (first rest) is none = grind (arith, none_left rest)
  others_left (later e rest all w) is none = grind (arith, others_left w)

  pub alone_kept : {x : X} {rest all : List X} → With x rest all → p x ≡ true → list_any p rest ≡ false → filter p all ≡ x ∷ []
  alone_kept (first rest) is none = grind (arith, none_kept rest)
  alone_kept (later e rest all w) is none = grind (arith, alone_kept w)

pub alone_tested : {X : Type 0} (p q : X → Bool) {x : X} {rest all : List X} → With x rest all → p x ≡ true → list_any p rest ≡ false
    → list_any (λ y. p y && q y) all ≡ q x
alone_tested p q {rest = rest} w is none =
    let one = any_with (λ y. p y && q y) w in let others = none_tested p q rest none in grind arith

-- no entry of a part passes
module _ {X : Type 0} (p : X → Bool) where
  pub none_filter : (q : X → Bool) (xs : List X) → list_any p xs ≡ false → list_any p (filter q xs) ≡ false
  none_filter q [] e = refl
  none_filter q (x ∷ xs) e = grind (arith, none_filter q xs)

  pub none_passes : (xs : List X) → list_any p (filter (λ x. not (p x)) xs) ≡ false
  none_passes [] = refl
  none_passes (x ∷ xs) = grind (arith, none_passes xs)

-- where all that passes a test answers another alike
pub count_left : {X : Type 0} (p q : X → Bool) (b : Bool) → ((x : X) → p x ≡ true → q x ≡ b) → (xs : List X)
    → length (filter p (filter (λ x. not (q x)) xs)) ≡ cond b 0 (length (filter p xs))
count_left p q b h [] = grind arith
count_left p q b h (x ∷ xs) = grind (arith, count_left p q b h xs, h x)
