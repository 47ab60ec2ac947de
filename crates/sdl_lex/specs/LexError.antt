-- Why a text has no list of tokens.
use Rattle.std.specs.Prelude.{◌≡◌, ℕ, ◌<◌, pos, Option, Some, None, IsFalse, List, [], ◌∷◌, ◌++◌, length, codes}
use Rattle.sdl_lex.specs.declared.place.Place.{Place}
use Rattle.sdl_lex.specs.declared.token.Kind.{Kind}
use Rattle.sdl_lex.specs.declared.token.Kind.TheVariants as kind
use Rattle.sdl_lex.specs.declared.error.LexError.{LexError}
use Rattle.sdl_lex.specs.declared.error.LexError.TheVariants.{TooLong, BadByte, OpenComment, OpenString, NumberTooBig, NameTooLong, Memory}
use Rattle.sdl_lex.specs.Byte.{is_blank}
use Rattle.sdl_lex.specs.Kind.{Is, IsLongest, decimal}
use Rattle.sdl_lex.specs.Part.{Part, joined, AreParts}
use Rattle.sdl_lex.specs.Place.{place_after}

-- where the fault stands
abbrev pub place : LexError → Option Place
place TooLong = Some (record { line = 1; column = 1 })
place (BadByte p) = Some p
place (OpenComment p) = Some p
place (OpenString p) = Some p
place (NumberTooBig p) = Some p
place (NameTooLong p) = Some p
place Memory = None

-- the first byte is no blank, and begins no token, whatever comes after it
abbrev pub HasBadByte : List ℕ → Type 0
HasBadByte [] = ⊥
HasBadByte (b ∷ bytes) = IsFalse (is_blank b) × ((k : Kind) (more after : List ℕ) → ¬ Is k (b ∷ more) after)

abbrev pub HasOpenComment : List ℕ → Type 0
HasOpenComment bytes = (body : List ℕ) × (bytes ≡ codes "/*" ++ body) × ((before after : List ℕ) → ¬ (body ≡ before ++ (codes "*/" ++ after)))

abbrev pub HasOpenString : List ℕ → Type 0
HasOpenString bytes = (body : List ℕ) × (bytes ≡ codes "'" ++ body) × ((text after : List ℕ) → bytes ≡ text ++ after → ¬ Is kind.Text text after)

abbrev pub HasBigNumber : List ℕ → Type 0
HasBigNumber bytes = (digits after : List ℕ) × (bytes ≡ digits ++ after) × Is (kind.Number (pos (decimal digits))) digits after × IsLongest digits after × (9223372036854775807 < decimal digits)

abbrev pub HasLongName : List ℕ → Type 0
HasLongName bytes = (word after : List ℕ) × (bytes ≡ word ++ after) × Is kind.Word word after × IsLongest word after × (255 < length word)

-- the text is parts up to this place, and then comes a fault
abbrev pub StandsAt : Place → (List ℕ → Type 0) → List ℕ → Type 0
StandsAt place Has text = (parts : List Part) × (rest : List ℕ) × (text ≡ joined parts ++ rest) × AreParts parts rest × Has rest × (place ≡ place_after (joined parts))

abbrev pub Refuses : LexError → List ℕ → Type 0
Refuses TooLong text = 1048576 < length text
Refuses (BadByte p) text = StandsAt p HasBadByte text
Refuses (OpenComment p) text = StandsAt p HasOpenComment text
Refuses (OpenString p) text = StandsAt p HasOpenString text
Refuses (NumberTooBig p) text = StandsAt p HasBigNumber text
Refuses (NameTooLong p) text = StandsAt p HasLongName text
Refuses Memory text = Unit {0}

-- the error names a byte of the text
abbrev pub IsInText : LexError → Type 0
IsInText TooLong = ⊥
IsInText (BadByte p) = Unit {0}
IsInText (OpenComment p) = Unit {0}
IsInText (OpenString p) = Unit {0}
IsInText (NumberTooBig p) = Unit {0}
IsInText (NameTooLong p) = Unit {0}
IsInText Memory = ⊥
