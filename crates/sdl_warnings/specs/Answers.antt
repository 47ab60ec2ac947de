-- What an answer of a decision takes, as far as it is a literal.
use Rattle.std.specs.Prelude.{ℕ, ℤ, pos, negsuc, neg_ℤ, ◌≡◌, ◌≢◌, ◌-ℤ◌, ◌+ℤ◌, ◌+◌, ◌-◌, ◌^◌, ◌≤ℤ◌, ◌&&◌, ◌⊎◌, Bool, true, false, not, int_le, int_lt, List, [], ◌∷◌, Option, None, Some, drop, if◌then◌else◌, length, nat_lt, take}
use Rattle.std.specs.Int.{saturate_signed, w64}
use Rattle.std.specs.List.{prefix_len}
use Rattle.parse_expressions.specs.declared.word.PlacedWord.{PlacedWord}
use Rattle.parse_expressions.specs.declared.word.Word.{Word}
use Rattle.parse_expressions.specs.declared.word.Word.TheVariants.{Fixed, Name, Number, Text, LeftOut}
use Rattle.sdl_tree.specs.declared.mark.Mark.{Mark}
use Rattle.sdl_tree.specs.declared.mark.Mark.TheVariants as mark
use Rattle.sdl_warnings.specs.Words.{is_mark, mark_in}
use Rattle.sdl_warnings.specs.declared.answers.Relation.{Relation}
use Rattle.sdl_warnings.specs.declared.answers.Relation.TheVariants as kind
use Rattle.sdl_warnings.specs.declared.answers.Taken.{Taken}
use Rattle.sdl_warnings.specs.declared.answers.Taken.TheVariants.{Numbers, Except, Boolean, Other}

-- ---- what is taken

-- the answer takes this number
abbrev pub TakesNumber : Taken → ℤ → Type 0
TakesNumber (Numbers first last) number = (first ≤ℤ number) × (number ≤ℤ last)
TakesNumber (Except one) number = number ≢ one
TakesNumber (Boolean truth) number = ⊥
TakesNumber Other number = ⊥

-- it takes this Boolean
abbrev pub TakesBoolean : Taken → Bool → Type 0
TakesBoolean (Numbers first last) truth = ⊥
TakesBoolean (Except one) truth = ⊥
TakesBoolean (Boolean own) truth = own ≡ truth
TakesBoolean Other truth = ⊥

-- two answers that take the same value
abbrev pub Share : Taken → Taken → Type 0
Share one other =
    ((number : ℤ) × (TakesNumber one number × TakesNumber other number))
    ⊎ ((truth : Bool) × (TakesBoolean one truth × TakesBoolean other truth))

-- whether a range has this number alone, or none
abbrev pub is_within : ℤ → ℤ → ℤ → Bool
is_within one first last = int_le one first && int_le last one

-- whether each of two ranges has a number
abbrev pub have_numbers : ℤ → ℤ → ℤ → ℤ → Bool
have_numbers first last from to = int_le first last && int_le from to

-- whether two ranges have the same number
abbrev pub meet : ℤ → ℤ → ℤ → ℤ → Bool
meet first last from to = have_numbers first last from to && have_numbers first to from last

-- whether two answers take the same value
abbrev pub overlap : Taken → Taken → Bool
overlap (Numbers first last) (Numbers from to) = meet first last from to
overlap (Numbers first last) (Except one) = int_le first last && not (is_within one first last)
overlap (Numbers first last) (Boolean truth) = false
overlap (Numbers first last) Other = false
overlap (Except one) (Numbers first last) = int_le first last && not (is_within one first last)
overlap (Except one) (Except other) = true
overlap (Except one) (Boolean truth) = false
overlap (Except one) Other = false
overlap (Boolean true) (Boolean other) = other
overlap (Boolean false) (Boolean other) = not other
overlap (Boolean truth) (Numbers first last) = false
overlap (Boolean truth) (Except one) = false
overlap (Boolean truth) Other = false
overlap Other two = false

-- whether it is a range that has no number
abbrev pub is_empty : Taken → Bool
is_empty (Numbers first last) = int_lt last first
is_empty (Except one) = false
is_empty (Boolean truth) = false
is_empty Other = false

-- ---- what words take

abbrev pub number_by : Word → Option ℤ
number_by (Fixed mark case) = None
number_by (Name text) = None
number_by (Number value digits) = Some value
number_by (Text text) = None
number_by (LeftOut lower text) = None

-- the number that a word is
abbrev pub number_in : PlacedWord → Option ℤ
number_in word = number_by word.word

abbrev pub negated : Option ℤ → Option ℤ
negated None = None
negated (Some value) = Some (saturate_signed w64 (neg_ℤ value))

-- the number that words are, with a sign or without one
abbrev pub literal : List PlacedWord → Option ℤ
literal [] = None
literal (word ∷ []) = number_in word
literal (sign ∷ word ∷ []) = if is_mark mark.Minus sign then negated (number_in word) else None
literal (one ∷ two ∷ three ∷ more) = None

-- the Boolean that words are
abbrev pub boolean : List PlacedWord → Option Bool
boolean [] = None
boolean (word ∷ []) =
    if is_mark mark.True word then Some true else if is_mark mark.False word then Some false else None
boolean (one ∷ two ∷ more) = None

abbrev pub range_by : Option ℤ → Option ℤ → Taken
range_by None last = Other
range_by (Some first) None = Other
range_by (Some first) (Some last) = Numbers first last

abbrev pub is_no_colon : PlacedWord → Bool
is_no_colon word = not (is_mark mark.Colon word)

-- what words with a colon take, after so many words
abbrev pub range_at : ℕ → List PlacedWord → Taken
range_at at words = range_by (literal (take at words)) (literal (drop (at + 1) words))

-- the range from the literal before the first colon to that after it
abbrev pub range : List PlacedWord → Taken
range words =
    if nat_lt (prefix_len is_no_colon words) (length words)
    then range_at (prefix_len is_no_colon words) words
    else Other

abbrev pub range_unless_boolean : Option Bool → List PlacedWord → Taken
range_unless_boolean (Some truth) words = Boolean truth
range_unless_boolean None words = range words

abbrev pub range_unless_literal : Option ℤ → List PlacedWord → Taken
range_unless_literal (Some value) words = Numbers value value
range_unless_literal None words = range_unless_boolean (boolean words) words

-- a literal, or a range
abbrev pub alone : List PlacedWord → Taken
alone words = range_unless_literal (literal words) words

-- the least number, and the greatest
abbrev pub lowest : ℤ
lowest = negsuc (2 ^ 63 - 1)

abbrev pub highest : ℤ
highest = pos (2 ^ 63 - 1)

-- the numbers that stand in this relation to a number, if there are any
abbrev pub in_relation : Relation → ℤ → Taken
in_relation kind.Equal value = Numbers value value
in_relation kind.NotEqual value = Except value
in_relation kind.Less value = if int_lt lowest value then Numbers lowest (value -ℤ pos 1) else Other
in_relation kind.LessOrEqual value = Numbers lowest value
in_relation kind.Greater value = if int_lt value highest then Numbers (value +ℤ pos 1) highest else Other
in_relation kind.GreaterOrEqual value = Numbers value highest

-- the Boolean that is the same, or is another one
abbrev pub related : Relation → Option Bool → Taken
related kind.Equal (Some truth) = Boolean truth
related kind.NotEqual (Some truth) = Boolean (not truth)
related kind.Less (Some truth) = Other
related kind.LessOrEqual (Some truth) = Other
related kind.Greater (Some truth) = Other
related kind.GreaterOrEqual (Some truth) = Other
related relation None = Other

abbrev pub related_unless_literal : Option ℤ → Relation → List PlacedWord → Taken
related_unless_literal (Some value) relation words = in_relation relation value
related_unless_literal None relation words = related relation (boolean words)

-- what stands in this relation to a literal
abbrev pub compared : Relation → List PlacedWord → Taken
compared relation words = related_unless_literal (literal words) relation words

abbrev pub relation_by : Option Mark → Option Relation
relation_by (Some mark.Equal) = Some kind.Equal
relation_by (Some mark.NotEqual) = Some kind.NotEqual
relation_by (Some mark.Less) = Some kind.Less
relation_by (Some mark.LessOrEqual) = Some kind.LessOrEqual
relation_by (Some mark.Greater) = Some kind.Greater
relation_by (Some mark.GreaterOrEqual) = Some kind.GreaterOrEqual
relation_by other = None

abbrev pub taken_by : Option Relation → List PlacedWord → List PlacedWord → Taken
taken_by (Some relation) words more = compared relation more
taken_by None words more = alone words

-- what an answer of these words takes
abbrev pub taken : List PlacedWord → Taken
taken [] = Other
taken (word ∷ more) = taken_by (relation_by (mark_in word)) (word ∷ more) more
