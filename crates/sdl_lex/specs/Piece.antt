-- What is found at the front of a text.
use Rattle.std.specs.Prelude.{◌≡◌, ℕ, Bool, not, ◌&&◌, ◌||◌, if◌then◌else◌, ◌==◌, Option, Some, None, Result, Ok, Err, List, [], ◌∷◌, ◌++◌, length}
use Rattle.std.specs.Char.{is_ascii_alphabetic, is_ascii_digit}
use Rattle.sdl_lex.specs.declared.token.Kind.{Kind}
use Rattle.sdl_lex.specs.declared.place.Place.{Place}
use Rattle.sdl_lex.specs.declared.piece.Piece.{Piece}
use Rattle.sdl_lex.specs.declared.piece.Fault.{Fault}
use Rattle.sdl_lex.specs.declared.piece.Fault.TheVariants.{BadByte, OpenComment, OpenString, NumberTooBig, NameTooLong}
use Rattle.sdl_lex.specs.declared.error.LexError.{LexError}
use Rattle.sdl_lex.specs.declared.error.LexError.TheVariants as error
use Rattle.sdl_lex.specs.Byte.{is_blank, is_quote, is_mark_byte}
use Rattle.sdl_lex.specs.Kind.{is_mark}
use Rattle.sdl_lex.specs.LexError.{HasBadByte, HasOpenComment, HasOpenString, HasBigNumber, HasLongName}
use Rattle.sdl_lex.specs.Part.{Part, Gap, Lexeme, bytes_of, IsPart}

abbrev pub kind_of : Part → Option Kind
kind_of (Gap bytes) = None
kind_of (Lexeme kind bytes) = Some kind

abbrev pub Stands : Fault → List ℕ → Type 0
Stands BadByte bytes = HasBadByte bytes
Stands OpenComment bytes = HasOpenComment bytes
Stands OpenString bytes = HasOpenString bytes
Stands NumberTooBig bytes = HasBigNumber bytes
Stands NameTooLong bytes = HasLongName bytes

-- a piece is the part at the front
abbrev pub Found : Result Piece Fault → List ℕ → Type 0
Found (Ok piece) bytes = (part : Part) × (after : List ℕ) × (bytes ≡ bytes_of part ++ after) × IsPart part after × (piece.kind ≡ kind_of part) × (piece.len ≡ length (bytes_of part))
Found (Err fault) bytes = Stands fault bytes

-- the refusal of a text with this fault at this place
abbrev pub refusal : Fault → Place → LexError
refusal BadByte p = error.BadByte p
refusal OpenComment p = error.OpenComment p
refusal OpenString p = error.OpenString p
refusal NumberTooBig p = error.NumberTooBig p
refusal NameTooLong p = error.NameTooLong p

-- what follows the first closing quote, where quotes in pairs close nothing
abbrev pub after_text : List ℕ → Option (List ℕ)
after_text [] = None
after_text (b ∷ []) = if is_quote b then Some [] else None
after_text (b ∷ c ∷ bytes) = if is_quote b then (if is_quote c then after_text bytes else Some (c ∷ bytes)) else after_text (c ∷ bytes)

-- what follows the first `*/`
abbrev pub after_comment : List ℕ → Option (List ℕ)
after_comment [] = None
after_comment (b ∷ []) = None
after_comment (b ∷ c ∷ bytes) = if b == 42 && c == 47 then Some bytes else after_comment (c ∷ bytes)

-- no blank, and begins neither a word nor a number nor a character string
abbrev pub is_other : ℕ → Bool
is_other b = not (is_blank b || is_ascii_alphabetic b || is_ascii_digit b || is_quote b)

-- how many bytes the longest mark at the front has, 0 where none is
abbrev pub mark_len : List ℕ → ℕ
mark_len [] = 0
mark_len (b ∷ []) = if is_mark_byte b then 1 else 0
mark_len (b ∷ c ∷ bytes) = if is_mark (b ∷ c ∷ []) then 2 else (if is_mark_byte b then 1 else 0)
