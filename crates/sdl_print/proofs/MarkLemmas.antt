-- What the text of a mark is: a word that is not too long, or a mark of other characters. The tables of spellings say so.
use Rattle.std.proofs.Common.{◌≡◌, refl, subst, cond, ℕ, ◌≤◌, Bool, true, false, ◌&&◌, Option, Some, None, option_map, IfSome, List, [], ◌∷◌, ◌++◌, length, arith}
use Rattle.std.specs.Char.{is_ascii_alphabetic}
use Rattle.std.specs.List.{find, list_all}
use Rattle.std.specs.Str.{bytes_eq}
use Rattle.std.proofs.Math.Dec.{ltb}
use Rattle.std.proofs.lemmas.Bool.{and_parts, false≢true, ltb-true}
use Rattle.std.proofs.lemmas.Slice.Eq.{bytes_eq-Decides}
use Rattle.sdl_lex.specs.declared.place.Place.{Place}
use Rattle.sdl_lex.specs.declared.token.Kind.{Kind}
use Rattle.sdl_lex.specs.declared.token.Kind.TheVariants as kind
use Rattle.sdl_lex.specs.Byte.{is_word_byte}
use Rattle.sdl_lex.specs.Kind.{IsWord, is_mark}
use Rattle.sdl_tree.specs.declared.keyword.Keyword.{Keyword}
use Rattle.sdl_tree.specs.declared.mark.Mark.{Mark}
use Rattle.sdl_tree.specs.declared.name.Spelling.{Spelling}
use Rattle.sdl_tree.specs.Keyword.{keyword_spellings, literal_spellings, keyword_found, sign_found, left_out_found}
use Rattle.sdl_tree.specs.Mark.{keywords, literals, signs, text}
use Rattle.sdl_tree.specs.Words.{Spot, Fixed, fixed_or, in_lower_case, left_out_or, word_of}
use Rattle.sdl_tree.specs.Words as word
use Rattle.sdl_tree.specs.Alike.{IsAlike}

-- ---- tables

-- what holds of each text of a table holds of what is found in it
module _ {A : Type 0} (key : A → List ℕ) (test : List ℕ → Bool) (x : List ℕ) where
  found_at : (e : A) (later : Option A) (b : Bool) → bytes_eq (key e) x ≡ b → test (key e) ≡ true →
      IfSome later (λ f. test x ≡ true) → IfSome (cond b (Some e) later) (λ f. test x ≡ true)
  found_at e later true same is found = subst (λ y. test y ≡ true) ((bytes_eq-Decides (key e) x).0 same) is
  found_at e later false same is found = found

  found_in : (table : List A) → list_all (λ e. test (key e)) table ≡ true → IfSome (find (λ e. bytes_eq (key e) x) table) (λ f. test x ≡ true)
  found_in [] all = tt
  found_in (e ∷ table) all =
      let both = and_parts (test (key e)) (list_all (λ f. test (key f)) table) all in
      found_at e (find (λ f. bytes_eq (key f) x) table) (bytes_eq (key e) x) refl both.0 (found_in table both.1)

if_mapped : {A B : Type 0} (P : Type 0) (f : A → B) (o : Option A) → IfSome o (λ x. P) → IfSome (option_map f o) (λ y. P)
if_mapped P f None found = tt
if_mapped P f (Some x) found = found

pub is_word : List ℕ → Bool
is_word [] = false
is_word (b ∷ bytes) = is_ascii_alphabetic b && (list_all is_word_byte bytes && ltb (length bytes) 255)

pub word_parts : (x : List ℕ) → is_word x ≡ true → IsWord x × (length x ≤ 255)
unfolding is_word
word_parts [] is = absurd (false≢true is)
word_parts (b ∷ bytes) is =
    let first = and_parts (is_ascii_alphabetic b) (list_all is_word_byte bytes && ltb (length bytes) 255) is in
    let rest = and_parts (list_all is_word_byte bytes) (ltb (length bytes) 255) first.1 in
    let short = ltb-true (length bytes) 255 rest.1 in
    ((first.0, rest.0), omega (arith, short))

keyword_is_word : (x : List ℕ) → IfSome (keyword_found x) (λ k. is_word x ≡ true)
unfolding keyword_found is_word
keyword_is_word x =
    let table = keyword_spellings keywords ++ literal_spellings literals in
    let text_in : Keyword × List ℕ → List ℕ = λ e. e.1 in
    let mark_in : Keyword × List ℕ → Keyword = λ e. e.0 in
    if_mapped (is_word x ≡ true) mark_in (find (λ e. bytes_eq (text_in e) x) table) (found_in text_in is_word x table refl)

sign_is_mark : (x : List ℕ) → IfSome (sign_found x) (λ m. is_mark x ≡ true)
unfolding sign_found
sign_is_mark x = found_in text is_mark x signs refl

-- ---- words that mean a mark

module _ (x : Spot) (m : Mark) (s : Spelling) where
  not_fixed : (o : Option (List ℕ)) → left_out_or (word.Name x) x o ≡ Fixed m s → ⊥
  not_fixed None e = cc
  not_fixed (Some lower) e = cc

  of_keyword : (o : Option Keyword) → IfSome o (λ k. is_word x.text ≡ true) →
      fixed_or (left_out_or (word.Name x) x (left_out_found x.text)) x.place o ≡ Fixed m s → is_word x.text ≡ true
  of_keyword None found e = absurd (not_fixed (left_out_found x.text) e)
  of_keyword (Some k) found e = found

  pub is_word_of : word_of kind.Word x ≡ Fixed m s → is_word x.text ≡ true
  unfolding word_of
  is_word_of e = of_keyword (keyword_found x.text) (keyword_is_word x.text) e

  of_sign : (o : Option Mark) → IfSome o (λ n. is_mark x.text ≡ true) → fixed_or (word.Name x) x.place (option_map in_lower_case o) ≡ Fixed m s →
      is_mark x.text ≡ true
  of_sign None found e = absurd (not_fixed None e)
  of_sign (Some n) found e = found

  pub is_mark_of : word_of kind.Mark x ≡ Fixed m s → is_mark x.text ≡ true
  unfolding word_of
  is_mark_of e = of_sign (sign_found x.text) (sign_is_mark x.text) e

-- What a token means doesn't depend on its place.
module _ (x : List ℕ) (p q : Place) where
  abbrev here : Spot
  here = record { text = x; place = p }

  abbrev there : Spot
  there = record { text = x; place = q }

  word_anywhere : (o : Option Keyword) (left : Option (List ℕ)) →
      IsAlike (fixed_or (left_out_or (word.Name here) here left) p o) (fixed_or (left_out_or (word.Name there) there left) q o)
  word_anywhere (Some k) left = refl
  word_anywhere None (Some lower) = refl
  word_anywhere None None = refl

  mark_anywhere : (o : Option Mark) → IsAlike (fixed_or (word.Name here) p (option_map in_lower_case o)) (fixed_or (word.Name there) q (option_map in_lower_case o))
  mark_anywhere (Some m) = refl
  mark_anywhere None = refl

  pub alike_anywhere : (k : Kind) → IsAlike (word_of k here) (word_of k there)
  unfolding word_of
  alike_anywhere kind.Word = word_anywhere (keyword_found x) (left_out_found x)
  alike_anywhere (kind.Number n) = refl
  alike_anywhere kind.Text = tt
  alike_anywhere kind.Mark = mark_anywhere (sign_found x)
