-- A text that is written from the tree of another.
use Rattle.std.specs.Prelude.{◌≡◌, ℕ, ◌⊎◌, List}
use Rattle.sdl_lex.specs.declared.error.LexError.TheVariants as lexer
use Rattle.sdl_lex.specs.declared.token.Token.{Token}
use Rattle.sdl_lex.specs.Part.{Lexes}
use Rattle.sdl_tree.specs.Canonical.{canonical_text}
use Rattle.sdl_tree.specs.Tree.{Tree}
use Rattle.sdl_tree.specs.Words.{Words, words_of}
use Rattle.sdl_parse.specs.declared.error.ParseError.{ParseError}
use Rattle.sdl_parse.specs.declared.error.ParseError.TheVariants as parser
use Rattle.sdl_parse.specs.Parser.{SpellsText}

-- It is the canonical text of the tree that the other text spells.
abbrev pub IsCanonicalOf : List ℕ → List ℕ → Type 0
IsCanonicalOf again text = (t : Tree) × SpellsText t text × (again ≡ canonical_text t)

-- The text has tokens, and this holds of their words. It may be longer than a text may be that is read.
abbrev pub HasWords : (Words → Type 0) → List ℕ → Type 0
HasWords P text = (tokens : List Token) × Lexes text tokens × P (words_of text tokens)

-- A refusal that tells of no fault but lack of room: memory is out, or the text is longer than a text may be.
abbrev pub IsWantOfRoom : ParseError → Type 0
IsWantOfRoom e = (e ≡ parser.Memory) ⊎ (e ≡ parser.Lex lexer.Memory) ⊎ (e ≡ parser.Lex lexer.TooLong)
