-- Words with a blank behind each are read as words alike to these, and the words of any text can be written so.
use Rattle.std.proofs.Common.{◌≡◌, refl, sym, ap, ◌∙◌, subst, ℕ, ℤ, ◌+◌, ◌-◌, ◌≤◌, Bool, true, false, if◌then◌else◌, Option, Some, None, inl, inr, List, [], ◌∷◌, ◌++◌, length, take, drop, codes, arith, append_assoc, length-append}
use Rattle.std.specs.Prelude.{pos, slice_range}
use Rattle.std.specs.Fmt.{decimal, signed_decimal}
use Rattle.std.specs.Str.{bytes_eq}
use Rattle.std.proofs.lemmas.List.{append-nil, drop_at, take_at}
use Rattle.sdl_lex.specs.declared.place.Place.{Place}
use Rattle.sdl_lex.specs.declared.token.Kind.{Kind}
use Rattle.sdl_lex.specs.declared.token.Kind.TheVariants as kind
use Rattle.sdl_lex.specs.declared.token.Token.{Token}
use Rattle.sdl_lex.specs.Byte.{is_blank}
use Rattle.sdl_lex.specs.Kind as lex
use Rattle.sdl_lex.specs.Part.{Part, Gap, Lexeme, IsPart, joined, AreParts, tokens_of, Lexes}
use Rattle.sdl_lex.specs.Place.{place_after}
use Rattle.sdl_tree.specs.declared.keyword.Keyword.{Keyword}
use Rattle.sdl_tree.specs.declared.mark.Mark.{Mark}
use Rattle.sdl_tree.specs.Canonical.{fixed, gap_after, text_of}
use Rattle.sdl_tree.specs.Erased.{plain}
use Rattle.sdl_tree.specs.Keyword.{keyword_found, left_out_found}
use Rattle.sdl_tree.specs.Mark.{text}
use Rattle.sdl_tree.specs.Words.{Spot, Word, Words, Fixed, word_of, fixed_or, left_out_or, words_of, word_text}
use Rattle.sdl_tree.specs.Words as word
use Rattle.sdl_tree.proofs.WordLemmas.{signs_are_fixed, texts_are_fixed}
use Rattle.sdl_tree.specs.Alike.{IsAlike, AreAlike}
use Rattle.sdl_print.specs.RoundTrip.{HasWords}
use Rattle.sdl_print.proofs.DecimalLemmas.{decimal_digits}
use Rattle.sdl_print.proofs.Known.{IsName, IsNumber, IsKnown, AreKnown, IsWritable, AreWritable}
use Rattle.sdl_print.proofs.MarkLemmas.{word_parts, is_word_of, is_mark_of, alike_anywhere}
use Rattle.sdl_print.proofs.TokenLemmas.{word_part, sign_part, number_part}

-- ---- one word

-- what is spelled so, at any place
abbrev spelled_at : List ℕ → Place → Spot
spelled_at bytes place = record { text = bytes; place = place }

-- before a blank, the word's bytes are a token that means a word alike to it, wherever it stands
record IsRead (w : Word) : Type 0 where
  kind : Kind
  means : (place : Place) → IsAlike w (word_of kind (spelled_at (word_text w) place))
  is_part : (gap : ℕ) (after : List ℕ) → is_blank gap ≡ true → IsPart (Lexeme kind (word_text w)) (gap ∷ after)

-- what a mark's text means where a text begins, it means anywhere
mark_means : (k : Kind) (m : Mark) → word_of k (spelled_at (text m) plain.place) ≡ fixed m → (place : Place) → IsAlike (fixed m) (word_of k (spelled_at (text m) place))
mark_means k m e place = subst (λ w. IsAlike w (word_of k (spelled_at (text m) place))) e (alike_anywhere (text m) plain.place place k)

mark_read : (m : Mark) → IsRead (fixed m)
mark_read m = elim (texts_are_fixed m) [
  | inl e ↦ let parts = word_parts (text m) (is_word_of (spelled_at (text m) plain.place) m plain e) in
      record { kind = kind.Word; means = mark_means kind.Word m e; is_part = word_part (text m) parts.0 parts.1 }
  | inr e ↦ record { kind = kind.Mark; means = mark_means kind.Mark m e; is_part = sign_part (text m) (is_mark_of (spelled_at (text m) plain.place) m plain e) }
]

name_means : (x : Spot) → keyword_found x.text ≡ None → left_out_found x.text ≡ None → (place : Place) →
    IsAlike (word.Name x) (word_of kind.Word (spelled_at x.text place))
unfolding word_of
name_means x none_kept none_left place =
    let y = spelled_at x.text place in
    let means : word_of kind.Word y ≡ word.Name y =
    ap (fixed_or (left_out_or (word.Name y) y (left_out_found x.text)) place) none_kept ∙ ap (left_out_or (word.Name y) y) none_left in
    subst (IsAlike (word.Name x)) (sym means) refl

name_read : (x : Spot) → IsName x.text → IsRead (word.Name x)
name_read x h = record { kind = kind.Word; means = name_means x h.2 h.3; is_part = word_part x.text h.0 h.1 }

number_means : (n : ℤ) (x : Spot) (place : Place) → IsAlike (word.Number n x) (word_of (kind.Number n) (spelled_at x.text place))
unfolding word_of
number_means n x place = refl

-- digits are a number before a blank
digits_part : (k : ℕ) → k ≤ 9223372036854775807 → (gap : ℕ) (after : List ℕ) → is_blank gap ≡ true → IsPart (Lexeme (kind.Number (pos k)) (decimal k)) (gap ∷ after)
digits_part k small =
    let digits = decimal_digits k small in
    number_part (decimal k) (pos k) digits.0 (ap pos (sym digits.1)) (subst (λ m. m ≤ 9223372036854775807) (sym digits.1) small)

number_read : (n : ℤ) (x : Spot) → IsNumber n → x.text ≡ signed_decimal n → IsRead (word.Number n x)
number_read n x h spelled = record {
  kind = kind.Number n;
  means = number_means n x;
  is_part = λ gap after blank.
      let part : IsPart (Lexeme (kind.Number n) (signed_decimal n)) (gap ∷ after) =
      subst (λ m. IsPart (Lexeme (kind.Number m) (signed_decimal m)) (gap ∷ after)) (sym h.1) (digits_part h.0 h.2 gap after blank) in
      subst (λ bytes. IsPart (Lexeme (kind.Number n) bytes) (gap ∷ after)) (sym spelled) part;
}

word_read : (w : Word) → IsWritable w → IsRead w
word_read (Fixed m s) h = subst (λ t. IsRead (Fixed m t)) (sym h) (mark_read m)
word_read (word.Name x) h = name_read x h
word_read (word.Number n x) h = number_read n x h.0 h.1
word_read (word.Text x) h = absurd h
word_read (word.LeftOut lower x) h = absurd h

-- one blank stands after each word
gap_is_blank : (w : Word) → (b : ℕ) × (gap_after w ≡ b ∷ []) × (is_blank b ≡ true)
gap_is_blank w = of_test (bytes_eq (word_text w) (codes ";"))
  where
    of_test : (t : Bool) → (b : ℕ) × ((if t then 10 ∷ [] else 32 ∷ []) ≡ b ∷ []) × (is_blank b ≡ true)
    of_test true = (10, refl, refl)
    of_test false = (32, refl, refl)

-- ---- all words

slice_is : (whole before front after : List ℕ) → whole ≡ before ++ (front ++ after) → slice_range whole (length before) (length before + length front) ≡ front
slice_is whole before front after cut =
    let len : length before + length front - length before ≡ length front = omega arith in
    ap (λ n. take n (drop (length before) whole)) len
    ∙ ap (λ l. take (length front) l) (ap (λ l. drop (length before) l) cut ∙ drop_at before (front ++ after) (length before) refl)
    ∙ take_at front after (length front) refl

record AreRead (words : Words) : Type 0 where
  parts : List Part
  joins : text_of words ≡ joined parts
  are_parts : AreParts parts []
  means : (whole before : List ℕ) → whole ≡ before ++ text_of words → AreAlike words (words_of whole (tokens_of (length before) parts))

are_read : (words : Words) → AreWritable words → AreRead words
are_read [] h = record { parts = []; joins = refl; are_parts = tt; means = λ whole before cut. tt }
are_read (w ∷ words) h =
    let read = word_read w h.0 in
    let blank = gap_is_blank w in
    let rest = are_read words h.1 in
    let bytes = word_text w in
    let gap = gap_after w in
    record {
      parts = Lexeme read.kind bytes ∷ Gap gap ∷ rest.parts;
      joins = ap (λ l. bytes ++ (gap ++ l)) rest.joins;
      are_parts = (
        subst (λ l. IsPart (Lexeme read.kind bytes) ((l ++ joined rest.parts) ++ [])) (sym blank.1) (read.is_part blank.0 (joined rest.parts ++ []) blank.2),
        (inl (blank.0, blank.1, blank.2), rest.are_parts),
      );
      means = λ whole before cut.
          let place = place_after (take (length before) whole) in
          let first : IsAlike w (word_of read.kind (spelled_at (slice_range whole (length before) (length before + length bytes)) place)) =
          subst (λ l. IsAlike w (word_of read.kind (spelled_at l place))) (sym (slice_is whole before bytes (gap ++ text_of words) cut)) (read.means place) in
          let at : length ((before ++ bytes) ++ gap) ≡ length before + length bytes + length gap =
          length-append (before ++ bytes) gap ∙ ap (λ n. n + length gap) (length-append before bytes) in
          let on : whole ≡ ((before ++ bytes) ++ gap) ++ text_of words =
          cut ∙ sym (append_assoc before bytes (gap ++ text_of words)) ∙ sym (append_assoc (before ++ bytes) gap (text_of words)) in
          let later : AreAlike words (words_of whole (tokens_of (length before + length bytes + length gap) rest.parts)) =
          subst (λ n. AreAlike words (words_of whole (tokens_of n rest.parts))) at (rest.means whole ((before ++ bytes) ++ gap) on) in
          (first, later);
    }

pub words_read : (words : Words) → AreWritable words → HasWords (AreAlike words) (text_of words)
words_read words h =
    let read = are_read words h in
    (tokens_of 0 read.parts, (read.parts, read.joins, read.are_parts, refl), read.means (text_of words) [] refl)

-- ---- the words of a text are known

word_known : (x : Spot) (after : List ℕ) → IsPart (Lexeme kind.Word x.text) after → IsKnown (word_of kind.Word x)
unfolding word_of
word_known x after part = of_tables (keyword_found x.text) (left_out_found x.text) refl refl
  where
    of_tables : (kept : Option Keyword) (left : Option (List ℕ)) → keyword_found x.text ≡ kept → left_out_found x.text ≡ left →
        IsKnown (fixed_or (left_out_or (word.Name x) x left) x.place kept)
    of_tables (Some k) left e f = tt
    of_tables None (Some lower) e f = tt
    of_tables None None e f = (part.0, part.3, e, f)

number_known : (n : ℤ) (x : Spot) (after : List ℕ) → IsPart (Lexeme (kind.Number n) x.text) after → IsKnown (word_of (kind.Number n) x)
unfolding word_of
number_known n x after part = (lex.decimal x.text, part.0.1, part.3)

text_known : (x : Spot) → IsKnown (word_of kind.Text x)
unfolding word_of
text_known x = tt

part_known : (k : Kind) (x : Spot) (after : List ℕ) → IsPart (Lexeme k x.text) after → IsKnown (word_of k x)
part_known kind.Word x after part = word_known x after part
part_known (kind.Number n) x after part = number_known n x after part
part_known kind.Text x after part = text_known x
part_known kind.Mark x after part = let sign = signs_are_fixed x part.0 in subst IsKnown (sym sign.1) tt

parts_known : (whole before : List ℕ) (parts : List Part) (rest : List ℕ) → whole ≡ before ++ (joined parts ++ rest) → AreParts parts rest →
    AreKnown (words_of whole (tokens_of (length before) parts))
parts_known whole before [] rest cut x = tt
parts_known whole before (Gap f ∷ parts) rest cut x =
    let on : whole ≡ (before ++ f) ++ (joined parts ++ rest) = cut ∙ ap (λ l. before ++ l) (append_assoc f (joined parts) rest) ∙ sym (append_assoc before f (joined parts ++ rest)) in
    subst (λ n. AreKnown (words_of whole (tokens_of n parts))) (length-append before f) (parts_known whole (before ++ f) parts rest on x.1)
parts_known whole before (Lexeme k f ∷ parts) rest cut x =
    let here : whole ≡ before ++ (f ++ (joined parts ++ rest)) = cut ∙ ap (λ l. before ++ l) (append_assoc f (joined parts) rest) in
    let on : whole ≡ (before ++ f) ++ (joined parts ++ rest) = here ∙ sym (append_assoc before f (joined parts ++ rest)) in
    let place = place_after (take (length before) whole) in (
      subst (λ l. IsKnown (word_of k (spelled_at l place))) (sym (slice_is whole before f (joined parts ++ rest) here))
          (part_known k (spelled_at f place) (joined parts ++ rest) x.0),
      subst (λ n. AreKnown (words_of whole (tokens_of n parts))) (length-append before f) (parts_known whole (before ++ f) parts rest on x.1),
    )

pub words_known : (whole : List ℕ) (tokens : List Token) → Lexes whole tokens → AreKnown (words_of whole tokens)
words_known whole tokens x =
    subst (λ ts. AreKnown (words_of whole ts)) (sym x.3) (parts_known whole [] x.0 [] (x.1 ∙ sym (append-nil (joined x.0))) x.2)
