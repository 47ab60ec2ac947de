-- The states of a process by their names.
use Rattle.std.proofs.Common.{◌≡◌, ◌∙◌, ◌||◌, ◌+◌, ◌++◌, ℕ, Bool, true, false, List, [], ◌∷◌, Option, Some, ap, bytes_eq, cond, fold, is_some, refl, sym, true≢false}
use Rattle.std.specs.List.{list_any}
use Rattle.std.proofs.lemmas.Slice.Eq.{bytes_eq-Decides}
use Rattle.sdl_build.specs.ProcessScope.{numbered_states}
use Rattle.build_names.specs.States.{different, is_same_text, with_new}
use Rattle.build_names.specs.Names.{first_of}
use Rattle.build_states.specs.States.{is_named}
use Rattle.sdl_system.specs.declared.id.StateId.{StateId}
use Rattle.sdl_tree.specs.Words.{Spot}

or-true : (b : Bool) → (b || true) ≡ true
or-true true = refl
or-true false = refl

or-false : (b : Bool) → (b || false) ≡ b
or-false true = refl
or-false false = refl

or-either : (a b c : Bool) → ((a || b) || c) ≡ (a || (b || c))
or-either true b c = refl
or-either false b c = refl

-- ---- names that are numbered

found : (same : Bool) (state : StateId) (rest : Option StateId) (any : Bool) → is_some rest ≡ any →
    is_some (cond same (Some state) rest) ≡ (same || any)
found true state rest any is = refl
found false state rest any is = is

pub numbered-named : (number : ℕ) (names : List Spot) (text : List ℕ) →
    is_some (first_of (numbered_states number names) text) ≡ is_named names text
numbered-named number [] text = refl
numbered-named number (name ∷ names) text =
    found (bytes_eq text name.text) (record { 0 = number }) (first_of (numbered_states (number + 1) names) text)
    (is_named names text) (numbered-named (number + 1) names text)

-- ---- names that are told once

any-same : (names : List Spot) (word : Spot) (text : List ℕ) → list_any (is_same_text word) names ≡ true →
    bytes_eq text word.text ≡ true → is_named names text ≡ true
any-same [] word text any same = absurd (true≢false (sym any))
any-same (x ∷ xs) word text any same =
    here (is_same_text word x) refl (λ there. any-same xs word text there same)
  where
    here : (is : Bool) → is_same_text word x ≡ is →
        (list_any (is_same_text word) xs ≡ true → is_named xs text ≡ true) → is_named (x ∷ xs) text ≡ true
    here true is later =
        ap (λ b. b || is_named xs text)
        (ap (λ t. bytes_eq t x.text) ((bytes_eq-Decides text word.text).0 same) ∙ is)
    here false is later =
        ap (λ b. bytes_eq text x.text || b)
        (later (ap (λ b. b || list_any (is_same_text word) xs) (sym is) ∙ any))
        ∙ or-true (bytes_eq text x.text)

any-push : (names : List Spot) (word : Spot) (text : List ℕ) →
    is_named (names ++ word ∷ []) text ≡ (is_named names text || bytes_eq text word.text)
any-push [] word text = or-false (bytes_eq text word.text)
any-push (x ∷ xs) word text =
    ap (λ b. bytes_eq text x.text || b) (any-push xs word text)
    ∙ sym (or-either (bytes_eq text x.text) (is_named xs text) (bytes_eq text word.text))

any-new : (names : List Spot) (word : Spot) (text : List ℕ) →
    is_named (with_new names word) text ≡ (is_named names text || bytes_eq text word.text)
any-new names word text = known (list_any (is_same_text word) names) refl
  where
    again : (is : Bool) → bytes_eq text word.text ≡ is → list_any (is_same_text word) names ≡ true →
        is_named names text ≡ (is_named names text || is)
    again true is any = any-same names word text any is ∙ sym (or-true (is_named names text))
    again false is any = sym (or-false (is_named names text))

    known : (any : Bool) → list_any (is_same_text word) names ≡ any →
        is_named (cond any names (names ++ word ∷ [])) text ≡ (is_named names text || bytes_eq text word.text)
    known true any = again (bytes_eq text word.text) refl any
    known false any = any-push names word text

any-fold : (before names : List Spot) (text : List ℕ) →
    is_named (fold with_new before names) text ≡ (is_named before text || is_named names text)
any-fold before [] text = sym (or-false (is_named before text))
any-fold before (name ∷ names) text =
    any-fold (with_new before name) names text
    ∙ ap (λ b. b || is_named names text) (any-new before name text)
    ∙ or-either (is_named before text) (bytes_eq text name.text) (is_named names text)

pub different-named : (names : List Spot) (text : List ℕ) → is_named (different names) text ≡ is_named names text
different-named names text = any-fold [] names text
