-- Names that are added to a list where they are new.
use Rattle.std.proofs.Common.{◌≡◌, ◌∙◌, ℕ, ◌+◌, ◌<◌, ◌++◌, ◌||◌, Bool, true, false, cond, List, [], ◌∷◌, Option, Some, is_some, if◌then◌else◌, refl, ap, sym, flat_map, fold, get_or, length, map, take}
use Rattle.std.specs.List.{list_any}
use Rattle.std.specs.Str.{bytes_eq}
use Rattle.std.proofs.lemmas.List.{flat_map_more, map-append, map_more}
use Rattle.std.proofs.lemmas.List.Sums.{fold-append}
use Rattle.sdl_lex.specs.declared.place.Place.{Place}
use Rattle.sdl_tree.specs.Words.{Spot}
use Rattle.build_names.specs.States.{entry_word, is_same_text, with_new, words_listed}
use Rattle.build_names.specs.Names.{first_of}

any-found : {X : Type 0} (b : Bool) (x : X) (rest : Option X) (any : Bool) → any ≡ is_some rest →
    (b || any) ≡ is_some (cond b (Some x) rest)
any-found true x rest any h = refl
any-found false x rest any h = h

any-named : (names : List (List ℕ × Place)) (word : Spot) →
    list_any (is_same_text word) (words_listed names) ≡ is_some (first_of names word.text)
any-named [] word = refl
any-named (name ∷ names) word =
    any-found (bytes_eq word.text name.0) name.1 (first_of names word.text)
    (list_any (is_same_text word) (words_listed names)) (any-named names word)

pub with_new-known : (names : List (List ℕ × Place)) (word : Spot) → is_some (first_of names word.text) ≡ true →
    with_new (words_listed names) word ≡ words_listed names
with_new-known names word known =
    ap (λ b. if b then words_listed names else words_listed names ++ word ∷ []) (any-named names word ∙ known)

pub with_new-unknown : (names : List (List ℕ × Place)) (word : Spot) → is_some (first_of names word.text) ≡ false →
    with_new (words_listed names) word ≡ words_listed (names ++ (word.text, word.place) ∷ [])
with_new-unknown names word unknown =
    ap (λ b. if b then words_listed names else words_listed names ++ word ∷ []) (any-named names word ∙ unknown)
    ∙ sym (map-append entry_word names ((word.text, word.place) ∷ []))

-- one more element of a list whose elements are added in turn
module _ {A C D : Type 0} (h : D → C → D) (start before after : D) (xs : List A) (i : ℕ) (x : A)
    (below : i < length xs) (is : x ≡ get_or xs i x) where
  taken-next : {B : Type 0} (g : A → B) → map g (take i xs) ++ g x ∷ [] ≡ map g (take (i + 1) xs)
  taken-next g = ap (λ y. map g (take i xs) ++ g y ∷ []) is ∙ sym (map_more g xs i x below)

  pub one-more : (g : A → C) → before ≡ fold h start (map g (take i xs)) → after ≡ h before (g x) →
      after ≡ fold h start (map g (take (i + 1) xs))
  one-more g was here =
      here
      ∙ ap (λ y. h y (g x)) was
      ∙ sym (fold-append h start (map g (take i xs)) (g x ∷ []))
      ∙ ap (fold h start) (taken-next g)

  pub list-more : {B : Type 0} (f : B → List C) (g : A → B) (list : List C) → list ≡ f (g x) →
      before ≡ fold h start (flat_map f (map g (take i xs))) → after ≡ fold h before list →
      after ≡ fold h start (flat_map f (map g (take (i + 1) xs)))
  list-more f g list made was here =
      here
      ∙ ap (fold h before) made
      ∙ ap (λ y. fold h y (f (g x))) was
      ∙ sym (fold-append h start (flat_map f (map g (take i xs))) (f (g x)))
      ∙ ap (fold h start) (flat_map_more f [] (map g (take i xs)) (g x) ∙ ap (flat_map f) (taken-next g))
