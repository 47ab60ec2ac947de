-- Words and numbers: the longest front of bytes that may go on.
use Rattle.std.proofs.Common.{◌≡◌, ◌≢◌, ℕ, ◌<◌, ◌≤◌, true, List, [], ◌∷◌, ◌++◌, length, get_or, sym, refl, ap, ◌∙◌, subst, arith}
use Rattle.std.specs.Char.{is_ascii_alphabetic, is_ascii_digit}
use Rattle.std.specs.List.{list_all, prefix_len}
use Rattle.std.specs.Prelude.{pos, Some, Ok, Err}
use Rattle.std.proofs.lemmas.Bool.{and_parts, both_ways, false≢true}
use Rattle.std.proofs.lemmas.Bool.Decides.{nat_tests}
use Rattle.sdl_lex.specs.declared.token.Kind.{Kind}
use Rattle.sdl_lex.specs.declared.token.Kind.TheVariants.{Word, Number, Text, Mark}
use Rattle.sdl_lex.specs.declared.piece.Fault.TheVariants.{NumberTooBig, NameTooLong}
use Rattle.sdl_lex.specs.Byte.{is_word_byte}
use Rattle.sdl_lex.specs.Kind.{Is, IsLongest, decimal}
use Rattle.sdl_lex.specs.Part.{Lexeme, BeginsComment}
use Rattle.sdl_lex.specs.Piece.{Found}
use Rattle.sdl_lex.proofs.ByteLemmas.{class, class-digit}
use Rattle.sdl_lex.proofs.KindLemmas.{Is-class}
use Rattle.sdl_lex.proofs.ListLemmas.{Stops, stops_at, list_all-split, none_passes}

letter-word_byte : (b : ℕ) → is_ascii_alphabetic b ≡ true → is_word_byte b ≡ true
letter-word_byte b h = grind (arith, nat_tests)

class-letter : (b : ℕ) → is_ascii_alphabetic b ≡ true → class b ≡ 1
class-letter b h = rw h refl

-- a comment begins as a mark does
pub no_comment : (b : ℕ) (bytes : List ℕ) → class b ≢ 4 → BeginsComment (b ∷ bytes) → ⊥
no_comment b bytes other h = other (let slash : b ≡ 47 = cc (h.1) in ap class slash)

-- the longest token of its kind, where no comment begins
abbrev pub IsWhole : Kind → List ℕ → List ℕ → Type 0
IsWhole kind front after = Is kind front after × ¬ BeginsComment (front ++ after) × IsLongest front after

word_longest : (b : ℕ) (front after : List ℕ) → is_ascii_alphabetic b ≡ true → Stops is_word_byte after → (k : Kind) (more others : List ℕ) → more ≢ [] → after ≡ more ++ others → Is k (b ∷ (front ++ more)) others → ⊥
word_longest b front after letter stops Word more others some e is = none_passes is_word_byte after more others stops e some (list_all-split is_word_byte front more is.1)
word_longest b front after letter stops (Number n) more others some e is = let other = Is-class (Number n) b (front ++ more) others is in let here = class-letter b letter in cc
word_longest b front after letter stops Text more others some e is = let other = Is-class Text b (front ++ more) others is in let here = class-letter b letter in cc
word_longest b front after letter stops Mark more others some e is = let other = Is-class Mark b (front ++ more) others is in let here = class-letter b letter in cc

no_letter : (after : List ℕ) → is_ascii_alphabetic (get_or after 0 0) ≡ true → Stops is_word_byte after → ⊥
no_letter [] letter stops = false≢true letter
no_letter (b ∷ after) letter stops = both_ways (is_word_byte b) stops (letter-word_byte b letter)

pub whole_word : (front after : List ℕ) → is_ascii_alphabetic (get_or (front ++ after) 0 0) ≡ true → length front ≡ prefix_len is_word_byte (front ++ after) → IsWhole Word front after
whole_word [] after letter len = absurd (no_letter after letter (stops_at is_word_byte [] after len).1)
whole_word (b ∷ front) after letter len =
    let run = stops_at is_word_byte (b ∷ front) after len in
    let here = class-letter b letter in (
      (letter, (and_parts (is_word_byte b) (list_all is_word_byte front) run.0).1),
      no_comment b (front ++ after) (λ e. let one : 1 ≡ 4 = sym here ∙ e in omega arith),
      word_longest b front after letter run.1,
    )

number_longest : (b : ℕ) (front after : List ℕ) → is_ascii_digit b ≡ true → Stops is_ascii_digit after → (k : Kind) (more others : List ℕ) → more ≢ [] → after ≡ more ++ others → Is k (b ∷ (front ++ more)) others → ⊥
number_longest b front after digit stops (Number n) more others some e is =
    none_passes is_ascii_digit after more others stops e some (list_all-split is_ascii_digit (b ∷ front) more is.0)
number_longest b front after digit stops Word more others some e is = let other = Is-class Word b (front ++ more) others is in let here = class-digit b digit in cc
number_longest b front after digit stops Text more others some e is = let other = Is-class Text b (front ++ more) others is in let here = class-digit b digit in cc
number_longest b front after digit stops Mark more others some e is = let other = Is-class Mark b (front ++ more) others is in let here = class-digit b digit in cc

no_digit : (after : List ℕ) → is_ascii_digit (get_or after 0 0) ≡ true → Stops is_ascii_digit after → ⊥
no_digit [] digit stops = false≢true digit
no_digit (b ∷ after) digit stops = both_ways (is_ascii_digit b) stops digit

pub whole_number : (front after : List ℕ) → is_ascii_digit (get_or (front ++ after) 0 0) ≡ true → length front ≡ prefix_len is_ascii_digit (front ++ after) → IsWhole (Number (pos (decimal front))) front after
whole_number [] after digit len = absurd (no_digit after digit (stops_at is_ascii_digit [] after len).1)
whole_number (b ∷ front) after digit len =
    let run = stops_at is_ascii_digit (b ∷ front) after len in
    let here = class-digit b digit in (
      (run.0, refl),
      no_comment b (front ++ after) (λ e. let two : 2 ≡ 4 = sym here ∙ e in omega arith),
      number_longest b front after digit run.1,
    )

module _ (bytes front after : List ℕ) (cut : bytes ≡ front ++ after) (n : ℕ) (len : n ≡ length front) where
  pub found_word : is_ascii_alphabetic (get_or bytes 0 0) ≡ true → n ≡ prefix_len is_word_byte bytes → n ≤ 255 → Found (Ok (record { kind = Some Word; len = n })) bytes
  found_word letter is few =
      let whole = whole_word front after (subst (λ l. is_ascii_alphabetic (get_or l 0 0) ≡ true) cut letter) (sym len ∙ is ∙ ap (prefix_len is_word_byte) cut) in
      (Lexeme Word front, after, cut, (whole.0, whole.1, whole.2, omega arith), refl, len)

  pub long_name : is_ascii_alphabetic (get_or bytes 0 0) ≡ true → n ≡ prefix_len is_word_byte bytes → 255 < n → Found (Err NameTooLong) bytes
  long_name letter is many =
      let whole = whole_word front after (subst (λ l. is_ascii_alphabetic (get_or l 0 0) ≡ true) cut letter) (sym len ∙ is ∙ ap (prefix_len is_word_byte) cut) in
      (front, after, cut, whole.0, whole.2, omega arith)

  pub found_number : is_ascii_digit (get_or bytes 0 0) ≡ true → n ≡ prefix_len is_ascii_digit bytes → decimal front ≤ 9223372036854775807 → Found (Ok (record { kind = Some (Number (pos (decimal front))); len = n })) bytes
  found_number digit is small =
      let whole = whole_number front after (subst (λ l. is_ascii_digit (get_or l 0 0) ≡ true) cut digit) (sym len ∙ is ∙ ap (prefix_len is_ascii_digit) cut) in
      (Lexeme (Number (pos (decimal front))) front, after, cut, (whole.0, whole.1, whole.2, small), refl, len)

  pub big_number : is_ascii_digit (get_or bytes 0 0) ≡ true → n ≡ prefix_len is_ascii_digit bytes → 9223372036854775807 < decimal front → Found (Err NumberTooBig) bytes
  big_number digit is big =
      let whole = whole_number front after (subst (λ l. is_ascii_digit (get_or l 0 0) ≡ true) cut digit) (sym len ∙ is ∙ ap (prefix_len is_ascii_digit) cut) in
      (front, after, cut, whole.0, whole.2, big)
