-- A word is spelled as its token is, and stands where it does.
use Rattle.std.proofs.Common.{◌≡◌, refl, sym, ◌∙◌, ℕ, Bool, true, false, cond, Option, Some, None, option_map, IfSome, List, [], ◌∷◌, ◌++◌}
use Rattle.std.proofs.lemmas.Slice.Eq.{bytes_eq-Decides}
use Rattle.std.specs.List.{find}
use Rattle.std.specs.Str.{bytes_eq}
use Rattle.sdl_lex.specs.declared.token.Kind.TheVariants as kind
use Rattle.sdl_tree.specs.declared.keyword.Keyword.{Keyword}
use Rattle.sdl_tree.specs.declared.mark.Mark.{Mark}
use Rattle.sdl_tree.specs.Keyword.{keyword_spellings, literal_spellings, keyword_in, keyword_found, sign_found, left_out_found}
use Rattle.sdl_tree.specs.Laws.{WordsAreSpelled}
use Rattle.sdl_tree.specs.Mark.{keywords, literals, signs, text, spelled}
use Rattle.sdl_tree.specs.Words.{Spot, fixed_or, in_lower_case, left_out_or, word_of, word_text, word_place}
use Rattle.sdl_tree.specs.Words as word

abbrev Each : {A : Type 0} → (A → Type 0) → List A → Type 0
Each P [] = Unit {0}
Each P (x ∷ xs) = P x × Each P xs

each_of_both : {A : Type 0} (P : A → Type 0) (xs ys : List A) → Each P xs → Each P ys → Each P (xs ++ ys)
each_of_both P [] ys each more = more
each_of_both P (x ∷ xs) ys each more = (each.0, each_of_both P xs ys each.1 more)

abbrev IsSpelled : Keyword × List ℕ → Type 0
IsSpelled e = e.1 ≡ spelled e.0.mark e.0.case

each_keyword : (ms : List Mark) → Each IsSpelled (keyword_spellings ms)
each_keyword [] = tt
each_keyword (m ∷ ms) = (refl, (refl, each_keyword ms))

each_literal : (ms : List Mark) → Each IsSpelled (literal_spellings ms)
each_literal [] = tt
each_literal (m ∷ ms) = (refl, (refl, (refl, each_literal ms)))

-- what is found is spelled as these bytes
abbrev IsOf : List ℕ → Option Keyword → Type 0
IsOf bytes o = IfSome o (λ k. spelled k.mark k.case ≡ bytes)

keyword_at : (bytes : List ℕ) (e : Keyword × List ℕ) (table : List (Keyword × List ℕ)) (b : Bool) → bytes_eq e.1 bytes ≡ b → IsSpelled e →
    IsOf bytes (keyword_in table bytes) → IsOf bytes (option_map {T = Keyword × List ℕ} (λ f. f.0) (cond b (Some e) (find (λ f. bytes_eq f.1 bytes) table)))
keyword_at bytes e table true same is rest = sym is ∙ (bytes_eq-Decides e.1 bytes).0 same
keyword_at bytes e table false same is rest = rest

spelled_in : (bytes : List ℕ) (table : List (Keyword × List ℕ)) → Each IsSpelled table → IsOf bytes (keyword_in table bytes)
spelled_in bytes [] each = tt
spelled_in bytes (e ∷ table) each = keyword_at bytes e table (bytes_eq e.1 bytes) refl each.0 (spelled_in bytes table each.1)

keyword_is_spelled : (bytes : List ℕ) → IsOf bytes (keyword_found bytes)
unfolding keyword_found
keyword_is_spelled bytes = spelled_in bytes (keyword_spellings keywords ++ literal_spellings literals)
    (each_of_both IsSpelled (keyword_spellings keywords) (literal_spellings literals) (each_keyword keywords) (each_literal literals))

abbrev sign_among : List Mark → List ℕ → Option Mark
sign_among ms bytes = find (λ m. bytes_eq (text m) bytes) ms

sign_at : (bytes : List ℕ) (m : Mark) (ms : List Mark) (b : Bool) → bytes_eq (text m) bytes ≡ b → IsOf bytes (option_map in_lower_case (sign_among ms bytes)) →
    IsOf bytes (option_map in_lower_case (cond b (Some m) (sign_among ms bytes)))
sign_at bytes m ms true same rest = (bytes_eq-Decides (text m) bytes).0 same
sign_at bytes m ms false same rest = rest

sign_in : (bytes : List ℕ) (ms : List Mark) → IsOf bytes (option_map in_lower_case (sign_among ms bytes))
sign_in bytes [] = tt
sign_in bytes (m ∷ ms) = sign_at bytes m ms (bytes_eq (text m) bytes) refl (sign_in bytes ms)

sign_is_spelled : (bytes : List ℕ) → IsOf bytes (option_map in_lower_case (sign_found bytes))
unfolding sign_found
sign_is_spelled bytes = sign_in bytes signs

-- what is spelled and placed as this
abbrev IsAt : Spot → word.Word → Type 0
IsAt x w = (word_text w ≡ x.text) × (word_place w ≡ x.place)

left_out_at : (x : Spot) (o : Option (List ℕ)) → IsAt x (left_out_or (word.Name x) x o)
left_out_at x None = (refl, refl)
left_out_at x (Some lower) = (refl, refl)

fixed_at_spot : (x : Spot) (other : word.Word) → IsAt x other → (o : Option Keyword) → IsOf x.text o →
    IsAt x (fixed_or other x.place o)
fixed_at_spot x other at None is = at
fixed_at_spot x other at (Some k) is = (is, refl)

pub words_are_spelled : WordsAreSpelled
unfolding word_of
words_are_spelled kind.Word x =
    fixed_at_spot x (left_out_or (word.Name x) x (left_out_found x.text)) (left_out_at x (left_out_found x.text)) (keyword_found x.text) (keyword_is_spelled x.text)
words_are_spelled (kind.Number n) x = (refl, refl)
words_are_spelled kind.Text x = (refl, refl)
words_are_spelled kind.Mark x =
    fixed_at_spot x (word.Name x) (refl, refl) (option_map in_lower_case (sign_found x.text)) (sign_is_spelled x.text)
