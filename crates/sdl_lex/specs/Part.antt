-- What a text is made of: blanks, comments and tokens.
use Rattle.std.specs.Prelude.{◌≡◌, ℕ, ◌+◌, IsTrue, ◌⊎◌, List, [], ◌∷◌, ◌++◌, length, codes}
use Rattle.sdl_lex.specs.declared.token.Kind.{Kind}
use Rattle.sdl_lex.specs.declared.token.Token.{Token}
use Rattle.sdl_lex.specs.Byte.{is_blank}
use Rattle.sdl_lex.specs.Kind.{Is, IsLongest, IsAllowed}

pub data Part : Type 0 where
  Gap : (bytes : List ℕ) → Part
  Lexeme : (kind : Kind) (bytes : List ℕ) → Part

abbrev pub bytes_of : Part → List ℕ
bytes_of (Gap bytes) = bytes
bytes_of (Lexeme kind bytes) = bytes

abbrev pub IsBlank : List ℕ → Type 0
IsBlank bytes = (b : ℕ) × (bytes ≡ b ∷ []) × IsTrue (is_blank b)

abbrev pub BeginsComment : List ℕ → Type 0
BeginsComment bytes = (body : List ℕ) × (bytes ≡ codes "/*" ++ body)

-- from `/*` to the next `*/`: none comes before the one at the end
abbrev pub IsComment : List ℕ → Type 0
IsComment bytes = (body : List ℕ) × (bytes ≡ codes "/*" ++ (body ++ codes "*/"))
    × ((before after : List ℕ) → body ++ codes "*/" ≡ before ++ (codes "*/" ++ after) → after ≡ [])

-- The part may stand before these bytes. A token begins no comment, and is as long as one can be there.
abbrev pub IsPart : Part → List ℕ → Type 0
IsPart (Gap bytes) after = IsBlank bytes ⊎ IsComment bytes
IsPart (Lexeme kind bytes) after = Is kind bytes after × ¬ BeginsComment (bytes ++ after) × IsLongest bytes after × IsAllowed kind bytes

-- the parts' bytes, one after the other
abbrev pub joined : List Part → List ℕ
joined [] = []
joined (p ∷ parts) = bytes_of p ++ joined parts

-- each of the parts may stand where it does, before the rest
abbrev pub AreParts : List Part → List ℕ → Type 0
AreParts [] rest = Unit {0}
AreParts (p ∷ parts) rest = IsPart p (joined parts ++ rest) × AreParts parts rest

-- the tokens among the parts, the first of which stands at this offset
abbrev pub tokens_of : ℕ → List Part → List Token
tokens_of at [] = []
tokens_of at (Gap bytes ∷ parts) = tokens_of (at + length bytes) parts
tokens_of at (Lexeme kind bytes ∷ parts) = record { kind = kind; start = at; end = at + length bytes } ∷ tokens_of (at + length bytes) parts

-- the text is parts, and these are the tokens among them
abbrev pub Lexes : List ℕ → List Token → Type 0
Lexes text tokens = (parts : List Part) × (text ≡ joined parts) × AreParts parts [] × (tokens ≡ tokens_of 0 parts)
