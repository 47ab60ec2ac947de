-- Text that is gathered, and goes out piece by piece.
use Rattle.std.proofs.Common.{◌≡◌, ℕ, suc, ◌+◌, ◌<◌, List, [], ◌∷◌, ◌++◌, length, get_or, take, drop, Option, Result, Ok, Err, refl, sym, ap, ◌∙◌, subst, append_assoc, append-nil, length-append, take-append-drop, drop-cons, arith}
use Rattle.std.proofs.lemmas.List.{take_at, flat_map_more, length-drop}
use Rattle.std.proofs.lemmas.List.Concat.{flat_map-append}
use Rattle.std.proofs.lemmas.Grind.{take_at_read}
use Rattle.std.specs.List.{flat_map}
use Rattle.std.specs.Prelude.{OnErr}
use Rattle.std.specs.Io.KnownBytes.{Appends}
use Rattle.std.proofs.KnownBytes.{Appends-nil, Appends-trans}
use Rattle.sdl_report.specs.Gathered.{Grows, Breaks, BreaksOff}
use Rattle.sdl_report.specs.ReportText.{line}

-- bytes that are gathered alone
pub Grows-gathered : (held : Option (List ℕ)) (gathered gathered' bytes : List ℕ) → gathered' ≡ gathered ++ bytes → Grows held gathered held gathered' bytes
Grows-gathered held gathered gathered' bytes e = ([], Appends-nil held, e)

pub Grows-trans : (a b c : Option (List ℕ)) (g h i xs ys : List ℕ) → Grows a g b h xs → Grows b h c i ys → Grows a g c i (xs ++ ys)
Grows-trans a b c g h i xs ys p q = (
  p.0 ++ q.0,
  Appends-trans a b c p.0 q.0 p.1 q.1,
  append_assoc p.0 q.0 i ∙ ap (λ l. p.0 ++ l) q.2 ∙ sym (append_assoc p.0 h ys) ∙ ap (λ l. l ++ ys) p.2 ∙ append_assoc g xs ys,
)

-- nothing more has gone out, and so the last line is lost
pub Breaks-now : (held : Option (List ℕ)) (gathered text : List ℕ) → Breaks held gathered held (line text)
Breaks-now held gathered text = (
  [],
  gathered ++ line text,
  Appends-nil held,
  refl,
  omega (arith, length-append gathered (line text), length-append text (10 ∷ [])),
)

-- a break while the bytes are gathered
pub Breaks-gathered : (a c : Option (List ℕ)) (g h bytes : List ℕ) → h ≡ g ++ bytes → Breaks a h c []
    → Breaks a g c bytes
Breaks-gathered a c g h bytes e p = (p.0, p.1, p.2, p.3 ∙ append-nil h ∙ e, p.4)

-- a break behind some bytes
pub Breaks-after : (a b c : Option (List ℕ)) (g h xs ys : List ℕ) → Grows a g b h xs → Breaks b h c ys → Breaks a g c (xs ++ ys)
Breaks-after a b c g h xs ys p q = (
  p.0 ++ q.0,
  q.1,
  Appends-trans a b c p.0 q.0 p.1 q.2,
  append_assoc p.0 q.0 q.1 ∙ ap (λ l. p.0 ++ l) q.3 ∙ sym (append_assoc p.0 h ys) ∙ ap (λ l. l ++ ys) p.2 ∙ append_assoc g xs ys,
  q.4,
)

-- the same after all that was to come before it
pub Breaks-none : (held : Option (List ℕ)) (bytes text : List ℕ) → Breaks held [] held (bytes ++ line text)
Breaks-none held bytes text =
    Breaks-after held held held [] bytes bytes (line text) (Grows-gathered held [] bytes bytes refl)
    (Breaks-now held bytes text)

-- all that was gathered goes out, too
pub Grows-sent : (a b c : Option (List ℕ)) (g h xs : List ℕ) → Grows a g b h xs → Appends b c h → Appends a c (g ++ xs)
Grows-sent a b c g h xs p sent = subst (Appends a c) p.2 (Appends-trans a b c p.0 h p.1 sent)

-- the same with more behind it, where nothing was gathered at first
pub Appends-after : (a b c : Option (List ℕ)) (h xs ys : List ℕ) → Grows a [] b h xs → Appends b c (h ++ ys)
    → Appends a c (xs ++ ys)
Appends-after a b c h xs ys p sent =
    subst (Appends a c) (sym (append_assoc p.0 h ys) ∙ ap (λ l. l ++ ys) p.2) (Appends-trans a b c p.0 (h ++ ys) p.1 sent)

-- what was gathered has gone out, and the bytes after it
pub Grows-past : (a b c : Option (List ℕ)) (g h xs : List ℕ) → Appends a b g → h ≡ [] → Appends b c xs → Grows a g c h xs
Grows-past a b c g h xs sent none past =
    (g ++ xs, Appends-trans a b c g xs sent past, ap (λ l. g ++ xs ++ l) none ∙ append-nil (g ++ xs))

-- what was gathered has gone out, and of the bytes after it a beginning
pub Breaks-past : (a b c : Option (List ℕ)) (g xs : List ℕ) → Appends a b g → BreaksOff b c xs → Breaks a g c xs
Breaks-past a b c g xs sent p = (
  g ++ take p.0 xs,
  drop p.0 xs,
  Appends-trans a b c g (take p.0 xs) sent p.2,
  append_assoc g (take p.0 xs) (drop p.0 xs) ∙ ap (λ l. g ++ l) (take-append-drop p.0 xs),
  let part = p.1 in omega (arith, length-drop p.0 xs),
)

-- a break before some bytes
pub Breaks-before : (a c : Option (List ℕ)) (g xs ys : List ℕ) → Breaks a g c xs → Breaks a g c (xs ++ ys)
Breaks-before a c g xs ys p = (
  p.0,
  p.1 ++ ys,
  p.2,
  sym (append_assoc p.0 p.1 ys) ∙ ap (λ l. l ++ ys) p.3 ∙ append_assoc g xs ys,
  let some = p.4 in omega (arith, length-append p.1 ys),
)

-- a break while the gathered text goes out
pub Breaks-part : (a c : Option (List ℕ)) (g : List ℕ) → BreaksOff a c g → Breaks a g c []
Breaks-part a c g p = (
  take p.0 g,
  drop p.0 g,
  p.2,
  take-append-drop p.0 g ∙ sym (append-nil g),
  let part = p.1 in omega (arith, length-drop p.0 g),
)

-- a break where nothing was gathered at first: a beginning of the bytes is out
pub Breaks-prefix : (a c : Option (List ℕ)) (bytes : List ℕ) → Breaks a [] c bytes → BreaksOff a c bytes
Breaks-prefix a c bytes p = (
  length p.0,
  let all = ap length p.3 in let some = p.4 in omega (arith, length-append p.0 p.1),
  subst (Appends a c) (sym (ap (take (length p.0)) (sym p.3) ∙ take_at p.0 p.1 (length p.0) refl)) p.2,
)

module _ {X : Type 0} (f : X → List ℕ) (head : List ℕ) (xs : List X) (i : ℕ) (x : X) (here : i < length xs) (is : x ≡ get_or xs i x) where
  flat_map_split : flat_map f xs ≡ flat_map f (take i xs) ++ (f x ++ flat_map f (drop (suc i) xs))
  flat_map_split =
      ap (flat_map f) (sym (take-append-drop i xs)) ∙ flat_map-append f (take i xs) (drop i xs)
      ∙ ap (λ l. flat_map f (take i xs) ++ flat_map f l) (drop-cons xs i x here)
      ∙ ap (λ y. flat_map f (take i xs) ++ (f y ++ flat_map f (drop (suc i) xs))) (sym is)

  one-more : (head ++ flat_map f (take i xs)) ++ f x ≡ head ++ flat_map f (take (i + 1) xs)
  one-more =
      flat_map_more f head (take i xs) x
      ∙ ap (λ l. head ++ flat_map f l) (ap (λ y. take i xs ++ y ∷ []) is ∙ sym (take_at_read xs i x here).1)

  -- one more element of a list, behind a first part
  pub Grows-more : (a b c : Option (List ℕ)) (g h j : List ℕ) → Grows a g b h (head ++ flat_map f (take i xs)) → Grows b h c j (f x)
      → Grows a g c j (head ++ flat_map f (take (i + 1) xs))
  Grows-more a b c g h j before more =
      subst (Grows a g c j) one-more
      (Grows-trans a b c g h j (head ++ flat_map f (take i xs)) (f x) before more)

  -- the same where nothing goes out
  pub text-more : (start text text' : List ℕ) → text ≡ start ++ (head ++ flat_map f (take i xs)) → text' ≡ text ++ f x
      → text' ≡ start ++ (head ++ flat_map f (take (i + 1) xs))
  text-more start text text' before more =
      more ∙ ap (λ l. l ++ f x) before ∙ append_assoc start (head ++ flat_map f (take i xs)) (f x)
      ∙ ap (λ l. start ++ l) one-more

  -- a break inside a list, behind a first part
  pub Breaks-inside : (a b c : Option (List ℕ)) (g h : List ℕ) → Grows a g b h (head ++ flat_map f (take i xs)) → Breaks b h c (f x)
      → Breaks a g c (head ++ flat_map f xs)
  Breaks-inside a b c g h before break =
      subst (Breaks a g c)
      (append_assoc head (flat_map f (take i xs)) (f x ++ flat_map f (drop (suc i) xs)) ∙ ap (λ l. head ++ l) (sym flat_map_split))
      (Breaks-after a b c g h (head ++ flat_map f (take i xs)) (f x ++ flat_map f (drop (suc i) xs)) before
      (Breaks-before b c h (f x) (flat_map f (drop (suc i) xs)) break))

-- the same, where the elements before it and after it are known
module _ {X : Type 0} (f : X → List ℕ) (head : List ℕ) (before rest : List X) (x : X) where
  one-onward : (head ++ flat_map f before) ++ f x ≡ head ++ flat_map f (before ++ x ∷ [])
  one-onward = flat_map_more f head before x

  pub Grows-onward : (a b c : Option (List ℕ)) (g h j : List ℕ) → Grows a g b h (head ++ flat_map f before)
      → Grows b h c j (f x) → Grows a g c j (head ++ flat_map f (before ++ x ∷ []))
  Grows-onward a b c g h j was more =
      subst (Grows a g c j) one-onward (Grows-trans a b c g h j (head ++ flat_map f before) (f x) was more)

  pub text-onward : (start text text' : List ℕ) → text ≡ start ++ (head ++ flat_map f before) → text' ≡ text ++ f x
      → text' ≡ start ++ (head ++ flat_map f (before ++ x ∷ []))
  text-onward start text text' was more =
      more ∙ ap (λ l. l ++ f x) was ∙ append_assoc start (head ++ flat_map f before) (f x)
      ∙ ap (λ l. start ++ l) one-onward

  pub Breaks-onward : (a b c : Option (List ℕ)) (g h : List ℕ) → Grows a g b h (head ++ flat_map f before)
      → Breaks b h c (f x) → Breaks a g c (head ++ flat_map f (before ++ x ∷ rest))
  Breaks-onward a b c g h was break =
      subst (Breaks a g c)
      (append_assoc head (flat_map f before) (f x ++ flat_map f rest)
      ∙ ap (λ l. head ++ l) (sym (flat_map-append f before (x ∷ rest))))
      (Breaks-after a b c g h (head ++ flat_map f before) (f x ++ flat_map f rest) was
      (Breaks-before b c h (f x) (flat_map f rest) break))

  -- it is behind those before it
  pub all-onward : (xs left : List X) → xs ≡ before ++ left → left ≡ x ∷ rest → xs ≡ (before ++ x ∷ []) ++ rest
  all-onward xs left all next = all ∙ ap (λ l. before ++ l) next ∙ sym (append_assoc before (x ∷ []) rest)

pub all-behind : {X : Type 0} (xs before left : List X) → xs ≡ before ++ left → left ≡ [] → before ≡ xs
all-behind xs before left all none =
    sym (append-nil before) ∙ ap (λ l. before ++ l) (sym none) ∙ sym all

pub OnErr-any : {T E P : Type 0} (r : Result T E) → P → OnErr r P
OnErr-any (Ok x) h = tt
OnErr-any (Err e) h = h
