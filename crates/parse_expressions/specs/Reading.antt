-- Parsers over the words that are left, and the ways in which readings are put together.
use Rattle.std.specs.Prelude.{ℕ, zero, suc, Bool, true, false, if◌then◌else◌, List, [], ◌∷◌, ◌++◌, length, Option, Some, None, Result, Ok, Err}
use denote.Enum.Bare.{sameb}
use Rattle.sdl_lex.specs.declared.place.Place.{Place}
use Rattle.sdl_tree.specs.contracts.mark.Mark.{the_type}
use Rattle.sdl_tree.specs.declared.mark.Mark.{Mark}
use Rattle.sdl_tree.specs.declared.mark.Mark.TheVariants as mark
use Rattle.sdl_tree.specs.declared.name.Spelling.{Spelling}
use Rattle.sdl_tree.specs.Tree as plain
use Rattle.sdl_tree.specs.Words.{Word, Words, Spot, Fixed, word_place}
use Rattle.sdl_tree.specs.Words as word

-- ---- the next word

unfoldable pub front : Words → Option Word
front [] = None
front (w ∷ i) = Some w

unfoldable pub rest : Words → Words
rest [] = []
rest (w ∷ i) = i

unfoldable pub same_mark : Mark → Mark → Bool
same_mark = sameb the_type

abbrev pub is_fixed : Mark → Option Word → Bool
is_fixed m None = false
is_fixed m (Some (Fixed n s)) = same_mark n m
is_fixed m (Some (word.Name x)) = false
is_fixed m (Some (word.Number n x)) = false
is_fixed m (Some (word.Text x)) = false
is_fixed m (Some (word.LeftOut lower x)) = false

abbrev pub mark_by : Option Word → Option Mark
mark_by None = None
mark_by (Some (Fixed m s)) = Some m
mark_by (Some (word.Name x)) = None
mark_by (Some (word.Number n x)) = None
mark_by (Some (word.Text x)) = None
mark_by (Some (word.LeftOut lower x)) = None

-- the mark that stands next
unfoldable pub mark_at : Words → Option Mark
mark_at i = mark_by (front i)

abbrev pub place_by : Option Word → Option Place
place_by None = None
place_by (Some w) = Some (word_place w)

-- the place of the word that stands next
unfoldable pub place_at : Words → Option Place
place_at i = place_by (front i)

unfoldable pub sees : Mark → Words → Bool
sees m i = is_fixed m (front i)

-- ---- parsers

-- Why nothing is read: another word must stand at the front of what is left; or the word there opens one too many inside
-- each other; or it is a `provided` behind a priority input.
pub data Refusal : Type 0 where
  Refused : (left : Words) → Refusal
  Deep : (left : Words) → Refusal
  Barred : (left : Words) → Refusal

abbrev pub left_of : Refusal → Words
left_of (Refused left) = left
left_of (Deep left) = left
left_of (Barred left) = left

abbrev pub Outcome : Type 0 → Type 0
Outcome A = Result (A × Words) Refusal

abbrev pub Parser : Type 0 → Type 0
Parser A = Words → Outcome A

abbrev pub and_then : {A B : Type 0} → Outcome A → (A → Parser B) → Outcome B
and_then (Ok p) f = f p.0 p.1
and_then (Err e) f = Err e

infixl 10 ◌>>=◌
abbrev pub ◌>>=◌ : {A B : Type 0} → Parser A → (A → Parser B) → Parser B
p >>= f = λ i. and_then (p i) f

abbrev pub pure : {A : Type 0} → A → Parser A
pure a = λ i. Ok (a, i)

abbrev pub refuse : {A : Type 0} → Parser A
refuse = λ i. Err (Refused i)

-- what stands next opens one too many inside each other
abbrev pub too_deep : {A : Type 0} → Parser A
too_deep = λ i. Err (Deep i)

-- the one or the other, as there is a value or none
abbrev pub on : {A B : Type 0} → Option A → B → (A → B) → B
on None none some = none
on (Some x) none some = some x

-- ---- single words

abbrev pub expect_by : Mark → Option Word → Parser Spelling
expect_by m None i = Err (Refused i)
expect_by m (Some (Fixed n s)) i = if same_mark n m then Ok (s, rest i) else Err (Refused i)
expect_by m (Some (word.Name x)) i = Err (Refused i)
expect_by m (Some (word.Number n x)) i = Err (Refused i)
expect_by m (Some (word.Text x)) i = Err (Refused i)
expect_by m (Some (word.LeftOut lower x)) i = Err (Refused i)

unfoldable pub expect : Mark → Parser Spelling
expect m = λ i. expect_by m (front i) i

abbrev pub name_by : Option Word → Parser Spot
name_by None i = Err (Refused i)
name_by (Some (Fixed m s)) i = Err (Refused i)
name_by (Some (word.Name x)) i = Ok (x, rest i)
name_by (Some (word.Number n x)) i = Err (Refused i)
name_by (Some (word.Text x)) i = Err (Refused i)
name_by (Some (word.LeftOut lower x)) i = Err (Refused i)

unfoldable pub name : Parser Spot
name = λ i. name_by (front i) i

abbrev pub number_by : Option Word → Parser plain.Number
number_by None i = Err (Refused i)
number_by (Some (Fixed m s)) i = Err (Refused i)
number_by (Some (word.Name x)) i = Err (Refused i)
number_by (Some (word.Number n x)) i = Ok (record { value = n; digits = x }, rest i)
number_by (Some (word.Text x)) i = Err (Refused i)
number_by (Some (word.LeftOut lower x)) i = Err (Refused i)

unfoldable pub number : Parser plain.Number
number = λ i. number_by (front i) i

abbrev pub text_by : Option Word → Parser (Unit {0})
text_by None i = Err (Refused i)
text_by (Some (Fixed m s)) i = Err (Refused i)
text_by (Some (word.Name x)) i = Err (Refused i)
text_by (Some (word.Number n x)) i = Err (Refused i)
text_by (Some (word.Text x)) i = Ok (tt, rest i)
text_by (Some (word.LeftOut lower x)) i = Err (Refused i)

unfoldable pub text : Parser (Unit {0})
text = λ i. text_by (front i) i

abbrev pub is_name : Option Word → Bool
is_name None = false
is_name (Some (Fixed m s)) = false
is_name (Some (word.Name x)) = true
is_name (Some (word.Number n x)) = false
is_name (Some (word.Text x)) = false
is_name (Some (word.LeftOut lower x)) = false

unfoldable pub sees_name : Words → Bool
sees_name i = is_name (front i)

abbrev pub is_number : Option Word → Bool
is_number None = false
is_number (Some (Fixed m s)) = false
is_number (Some (word.Name x)) = false
is_number (Some (word.Number n x)) = true
is_number (Some (word.Text x)) = false
is_number (Some (word.LeftOut lower x)) = false

unfoldable pub sees_number : Words → Bool
sees_number i = is_number (front i)

-- ---- one behind the other, a mark that is dropped, a node that is made, a choice

infixr 20 ◌⊗◌
abbrev pub ◌⊗◌ : {A B : Type 0} → Parser A → Parser B → Parser (A × B)
(p ⊗ q) = λ i. and_then (p i) (λ x m. and_then (q m) (λ y j. Ok ((x, y), j)))

abbrev pub behind : {A : Type 0} → Mark → Parser A → Parser A
behind m p = λ i. and_then (expect m i) (λ _ k. p k)

abbrev pub before : {A : Type 0} → Parser A → Mark → Parser A
before p m = λ i. and_then (p i) (λ x k. and_then (expect m k) (λ _ j. Ok (x, j)))

abbrev pub made : {A B : Type 0} → (A → B) → Parser A → Parser B
made f p = λ i. and_then (p i) (λ x j. Ok (f x, j))

-- the first, where such words stand, and else the second
abbrev pub either : {A : Type 0} → (Words → Bool) → Parser A → Parser A → Parser A
either begins p q = λ i. if begins i then p i else q i

-- [x], where such words begin one
abbrev pub maybe : {A : Type 0} → (Words → Bool) → Parser A → Parser (Option A)
maybe begins p = λ i. if begins i then and_then (p i) (λ x j. Ok (Some x, j)) else Ok (None, i)

-- ---- lists. The number bounds the turns: each turn takes a word.

abbrev pub repeated_by : {A : Type 0} → List A → (List A → Parser (List A)) → Option A → Parser (List A)
repeated_by found more None i = Ok (found, i)
repeated_by found more (Some x) i = more (found ++ x ∷ []) i

unfoldable pub repeated_from : {A : Type 0} → Parser (Option A) → ℕ → List A → Parser (List A)
repeated_from item zero found = pure found
repeated_from item (suc n) found = do
  next ← item
  repeated_by found (repeated_from item n) next

-- {x}
abbrev pub repeated : {A : Type 0} → Parser (Option A) → Parser (List A)
repeated item = λ i. repeated_from item (length i) [] i

-- ["," x]
abbrev pub another : {A : Type 0} → Parser A → Parser (Option A)
another item = maybe (sees mark.Comma) (behind mark.Comma item)

-- x {"," x}
abbrev pub separated : {A : Type 0} → Parser A → Parser (List A)
separated item = λ i. and_then (item i) (λ x m. repeated_from (another item) (length m) (x ∷ []) m)

-- "(" x {"," x} ")"
abbrev pub enclosed : {A : Type 0} → Parser A → Parser (List A)
enclosed item = behind mark.Open (before (separated item) mark.Close)

-- ["(" x {"," x} ")"]
abbrev pub in_parentheses : {A : Type 0} → Parser A → Parser (List A)
in_parentheses item = λ i. if sees mark.Open i then enclosed item i else Ok ([], i)
