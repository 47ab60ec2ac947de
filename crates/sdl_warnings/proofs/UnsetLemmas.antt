-- Whether a variable has an initial value, past another one of its group.
use Rattle.std.proofs.Common.{◌≡◌, ◌==◌, ◌<◌, ◌≤◌, ◌-◌, ◌||◌, ℕ, Bool, true, false, if◌then◌else◌, List, [], ◌∷◌, ap, arith, drop, get_or, length, length-drop, sym, take, ◌∙◌}
use Rattle.std.proofs.lemmas.Bool.Decides.{nat_tests}
use Rattle.std.proofs.lemmas.List.{take_all}
use Rattle.parse_expressions.specs.declared.word.PlacedWord.{PlacedWord}
use Rattle.sdl_tree.specs.declared.mark.Mark.TheVariants as mark
use Rattle.sdl_warnings.specs.Unset.{has_initial}
use Rattle.sdl_warnings.specs.Words.{is_mark}

not_zero : (n : ℕ) → 0 < n → (n == 0) ≡ false
not_zero n some = grind (arith, nat_tests)

whole : (words : List PlacedWord) → take (length words - 2) (drop 2 words) ≡ drop 2 words
whole words = take_all (length words - 2) (drop 2 words) (omega (arith, length-drop 2 words))

past_two : (most : ℕ) (words : List PlacedWord) (d : PlacedWord) (result : Bool) → 2 ≤ length words
    → is_mark mark.Comma (get_or words 0 d) ≡ true → 0 < most → result ≡ has_initial (most - 1) (drop 2 words)
    → result ≡ has_initial most words
past_two most [] d result long is some rest = absurd (omega (arith, long))
past_two most (one ∷ []) d result long is some rest = absurd (omega (arith, long))
past_two most (one ∷ two ∷ more) d result long is some rest =
    rest
    ∙ sym (ap (λ b. if b then (most == 0) || has_initial (most - 1) more else is_mark mark.Assign two) is
    ∙ ap (λ b. b || has_initial (most - 1) more) (not_zero most some))

pub initial_more : (most : ℕ) (words : List PlacedWord) (d : PlacedWord) (result : Bool) → 2 ≤ length words
    → is_mark mark.Comma (get_or words 0 d) ≡ true → 0 < most
    → result ≡ has_initial (most - 1) (take (length words - 2) (drop 2 words)) → result ≡ has_initial most words
initial_more most words d result long is some rest =
    past_two most words d result long is some (rest ∙ ap (has_initial (most - 1)) (whole words))
