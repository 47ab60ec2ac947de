-- What a text's tree is, and what each refusal of a text says.
use Rattle.std.specs.Prelude.{◌≡◌, ◌≤◌, ℕ, Option, Some, None, List, [], ◌∷◌, ◌++◌, length, codes}
use Rattle.std.specs.String.{string_bytes}
use Rattle.sdl_lex.specs.declared.place.Place.{Place}
use Rattle.sdl_lex.specs.declared.token.Token.{Token}
use Rattle.sdl_lex.specs.LexError as lexer
use Rattle.sdl_lex.specs.Part.{Lexes}
use Rattle.parse_expressions.specs.declared.fault.Fault.{Fault}
use Rattle.parse_expressions.specs.declared.fault.Fault.TheVariants as fault
use Rattle.sdl_tree.specs.Alike.{AreAlike}
use Rattle.sdl_tree.specs.Depth.{OpensTooMany}
use Rattle.sdl_tree.specs.Erased.{erased}
use Rattle.sdl_tree.specs.LeftOut.{IsLeftOut}
use Rattle.sdl_tree.specs.Spells.{SpellsTree}
use Rattle.sdl_tree.specs.Spells.Expressions.{limit}
use Rattle.sdl_tree.specs.Tree.{Tree}
use Rattle.sdl_tree.specs.Words.{Word, Words, words_of, word_place}
use Rattle.sdl_tree.specs.Words as word
use Rattle.sdl_parse.specs.declared.error.ParseError.{ParseError}
use Rattle.sdl_parse.specs.declared.error.ParseError.TheVariants.{Lex, Expected, LeftOut, TooDeep, Memory}

-- the text is no longer than a text may be, has tokens, and this holds of their words
abbrev pub OfWords : (Words → Type 0) → List ℕ → Type 0
OfWords P text = (length text ≤ 1048576) × (tokens : List Token) × Lexes text tokens × P (words_of text tokens)

-- the words of the text, places and spellings included, spell the tree
abbrev pub SpellsText : Tree → List ℕ → Type 0
SpellsText t text = OfWords (SpellsTree limit t) text

-- the same tree, but for places and spellings
abbrev pub IsSame : Tree → Tree → Type 0
IsSame u t = erased u ≡ erased t

-- Words that differ in places and spellings alone from words that spell a tree spell one that differs in these alone.
abbrev pub AlikeSpell : Type 0
AlikeSpell = (t : Tree) (i k : Words) → SpellsTree limit t i → AreAlike i k → (u : Tree) × SpellsTree limit u k × IsSame u t

-- A text has one tree.
abbrev pub OneTree : Type 0
OneTree = (t other : Tree) (text : List ℕ) → SpellsText t text → SpellsText other text → t ≡ other

abbrev pub HasNoTree : Words → Type 0
HasNoTree i = (t : Tree) → ¬ SpellsTree limit t i

-- a word stands at this place, of which this holds by the words before it and those that begin with it
abbrev pub StandsAt : Place → (Words → Words → Type 0) → Words → Type 0
StandsAt place P i = (front : Words) × (w : Word) × (back : Words) × (i ≡ front ++ w ∷ back) × (place ≡ word_place w) × P front (w ∷ back)

abbrev pub TooMany : Words → Words → Type 0
TooMany front [] = ⊥
TooMany front (w ∷ back) = OpensTooMany limit front w

-- What a refusal says of a text. Nothing is said of the place and the word of `Expected`.
abbrev pub Refuses : ParseError → List ℕ → Type 0
Refuses (Lex error) text = lexer.Refuses error text
Refuses (Expected place wanted) text = OfWords HasNoTree text
Refuses (LeftOut place told) text = OfWords (λ i. HasNoTree i × StandsAt place (λ front rest. IsLeftOut i rest (string_bytes told)) i) text
Refuses (TooDeep place) text = OfWords (λ i. HasNoTree i × StandsAt place TooMany i) text
Refuses Memory text = Unit {0}

-- ---- how a fault of the reading is told, by the word that stands next

abbrev pub TellsWord : Place → List ℕ → Option Word → Type 0
TellsWord place told None = ⊥
TellsWord place told (Some (word.Fixed m s)) = ⊥
TellsWord place told (Some (word.Name x)) = ⊥
TellsWord place told (Some (word.Number n x)) = ⊥
TellsWord place told (Some (word.Text x)) = (place ≡ x.place) × (told ≡ codes "text")
TellsWord place told (Some (word.LeftOut lower x)) = (place ≡ x.place) × (told ≡ lower)

abbrev pub IsPlaceOf : Place → Option Word → Type 0
IsPlaceOf place None = Unit {0}
IsPlaceOf place (Some w) = place ≡ word_place w

abbrev pub Tells : ParseError → Fault → Option Word → Type 0
Tells (Lex error) f next = ⊥
Tells (Expected place wanted) (fault.Expected w) next = Unit {0}
Tells (Expected place wanted) fault.Condition next = ⊥
Tells (Expected place wanted) fault.TooDeep next = ⊥
Tells (Expected place wanted) fault.Memory next = ⊥
Tells (LeftOut place told) (fault.Expected w) next = TellsWord place (string_bytes told) next
Tells (LeftOut place told) fault.Condition next = IsPlaceOf place next × (string_bytes told ≡ codes "provided")
Tells (LeftOut place told) fault.TooDeep next = ⊥
Tells (LeftOut place told) fault.Memory next = ⊥
Tells (TooDeep place) (fault.Expected w) next = ⊥
Tells (TooDeep place) fault.Condition next = ⊥
Tells (TooDeep place) fault.TooDeep next = IsPlaceOf place next
Tells (TooDeep place) fault.Memory next = ⊥
Tells Memory f next = Unit {0}

abbrev pub TellsLeftOut : ParseError → Place → List ℕ → Type 0
TellsLeftOut (Lex error) place told = ⊥
TellsLeftOut (Expected at wanted) place told = ⊥
TellsLeftOut (LeftOut at s) place told = (at ≡ place) × (string_bytes s ≡ told)
TellsLeftOut (TooDeep at) place told = ⊥
TellsLeftOut Memory place told = Unit {0}
