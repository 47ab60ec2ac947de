-- Keywords and words that are left out have two letters at least, and marks of other characters two bytes at most.
use Rattle.std.proofs.Common.{◌≡◌, ◌≢◌, ◌<◌, refl, ap, ◌∙◌, arith, Bool, true, false, cond, ◌&&◌, ◌||◌, List, [], ◌∷◌, ◌++◌, length, map, ℕ, None, Some, option_map, nat_eq}
use Rattle.std.proofs.Math.Bool.{and-false}
use Rattle.std.proofs.lemmas.Bool.{and_parts, false≢true}
use Rattle.std.specs.List.{find, list_all}
use Rattle.std.specs.Str.{bytes_eq}
use Rattle.sdl_tree.specs.declared.keyword.Keyword.{Keyword}
use Rattle.sdl_tree.specs.declared.mark.Mark.{Mark}
use Rattle.sdl_tree.specs.Keyword.{keyword_found, keyword_spellings, left_out_found, left_out_words, literal_spellings, sign_found}
use Rattle.sdl_tree.specs.Mark.{in_upper_case, keywords, literals, signs, text}

-- nothing is found where each of the list passes a test that tells it apart
none_found : {A : Type 0} (p q : A → Bool) → ((x : A) → q x ≡ true → p x ≡ false) → (xs : List A) → list_all q xs ≡ true
    → find p xs ≡ None
none_found p q apart [] all = refl
none_found p q apart (x ∷ xs) all =
    let parts = and_parts (q x) (list_all q xs) all in
    ap (λ b. cond b (Some x) (find p xs)) (apart x parts.0) ∙ none_found p q apart xs parts.1

-- ---- two letters at least

abbrev is_long : List ℕ → Bool
is_long [] = false
is_long (b ∷ []) = false
is_long (b ∷ c ∷ bytes) = true

long_differs : (t word : List ℕ) → is_long t ≡ true → length word < 2 → bytes_eq t word ≡ false
long_differs [] word long short = absurd (false≢true long)
long_differs (b ∷ []) word long short = absurd (false≢true long)
long_differs (b ∷ c ∷ t) [] long short = refl
long_differs (b ∷ c ∷ t) (d ∷ []) long short = and-false (nat_eq b d)
long_differs (b ∷ c ∷ t) (d ∷ e ∷ word) long short = absurd (omega (arith, short))

pub no_short_keyword : (word : List ℕ) → length word < 2 → keyword_found word ≡ None
unfolding keyword_found
no_short_keyword word short =
    let keyword : Keyword × List ℕ → Keyword = λ e. e.0 in
    ap (option_map keyword)
    (none_found {A = Keyword × List ℕ} (λ e. bytes_eq e.1 word) (λ e. is_long e.1) (λ e long. long_differs e.1 word long short)
    (keyword_spellings keywords ++ literal_spellings literals) refl)

abbrev left_out_cases : List (List ℕ × List ℕ)
left_out_cases = map (λ lower. (lower, in_upper_case lower)) left_out_words

pub no_short_left_out : (word : List ℕ) → length word < 2 → left_out_found word ≡ None
unfolding left_out_found
no_short_left_out word short =
    let lower : List ℕ × List ℕ → List ℕ = λ e. e.0 in
    ap (option_map lower)
    (none_found {A = List ℕ × List ℕ} (λ e. bytes_eq e.0 word || bytes_eq e.1 word) (λ e. is_long e.0 && is_long e.1)
    (λ e long.
    let parts = and_parts (is_long e.0) (is_long e.1) long in
    let first = long_differs e.0 word parts.0 short in
    let second = long_differs e.1 word parts.1 short in
    (λ i. first i || second i))
    left_out_cases refl)

-- ---- two bytes at most

abbrev is_short : List ℕ → Bool
is_short [] = true
is_short (b ∷ []) = true
is_short (b ∷ c ∷ []) = true
is_short (b ∷ c ∷ d ∷ bytes) = false

short_differs : (t : List ℕ) (b c d : ℕ) (bytes : List ℕ) → is_short t ≡ true → bytes_eq t (b ∷ c ∷ d ∷ bytes) ≡ false
short_differs [] b c d bytes short = refl
short_differs (x ∷ []) b c d bytes short = and-false (nat_eq x b)
short_differs (x ∷ y ∷ []) b c d bytes short = ap (λ t. nat_eq x b && t) (and-false (nat_eq y c)) ∙ and-false (nat_eq x b)
short_differs (x ∷ y ∷ z ∷ t) b c d bytes short = absurd (false≢true short)

pub no_long_sign : (bytes : List ℕ) → length bytes ≢ 1 → length bytes ≢ 2 → sign_found bytes ≡ None
unfolding sign_found
no_long_sign [] single double = refl
no_long_sign (b ∷ []) single double = absurd (single refl)
no_long_sign (b ∷ c ∷ []) single double = absurd (double refl)
no_long_sign (b ∷ c ∷ d ∷ bytes) single double =
    none_found {A = Mark} (λ m. bytes_eq (text m) (b ∷ c ∷ d ∷ bytes)) (λ m. is_short (text m))
    (λ m short. short_differs (text m) b c d bytes short) signs refl
