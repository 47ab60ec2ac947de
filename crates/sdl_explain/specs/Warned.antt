-- Warnings of a text, and what is said of them.
use Rattle.std.specs.Prelude.{◌≡◌, ◌⊎◌, ℕ, ◌-◌, List, [], ◌++◌, None, Some, true, length, map, take}
use Rattle.parse_expressions.specs.PlacedWord.{word_of_placed}
use Rattle.parse_expressions.specs.declared.word.PlacedWord.{PlacedWord}
use Rattle.explain_syntax.specs.More.{more_text}
use Rattle.sdl_explain.specs.Others.{IsNone}
use Rattle.sdl_explain.specs.Refused.{IsShown}
use Rattle.sdl_explain.specs.Told.{AreTold}
use Rattle.explain_syntax.specs.declared.lines.explanation.Explanation.{Explanation}
use Rattle.explain_syntax.specs.declared.lines.origin.Origin.{Origin}
use Rattle.sdl_lex.specs.Part.{Lexes}
use Rattle.sdl_lex.specs.declared.token.Token.{Token}
use Rattle.sdl_parse.specs.Parser.{SpellsText}
use Rattle.sdl_tree.specs.Tree.{Tree}
use Rattle.sdl_tree.specs.Words.{words_of}
use Rattle.sdl_warnings.specs.Found.{AreWarnings}
use Rattle.sdl_warnings.specs.declared.suspicion.Warning.{Warning}

-- the warnings of the tree and the words of a text
pub record AreSuspected (text : List ℕ) (found : List Warning) : Type 0 where
  pub tree : Tree
  pub spelled : SpellsText tree text
  pub tokens : List Token
  pub lexed : Lexes text tokens
  pub words : List PlacedWord
  pub meant : map word_of_placed words ≡ words_of text tokens
  pub are : AreWarnings tree words found

-- a text that is no specification has none
pub record HasNone (text : List ℕ) (found : List Warning) : Type 0 where
  pub is_none : IsNone text
  pub none : found ≡ []

abbrev pub AreWarningsOf : List ℕ → List Warning → Type 0
AreWarningsOf text found = AreSuspected text found ⊎ HasNone text found

-- the message of a warning shows the line of its place, and no other
pub record IsMessage (text : List ℕ) (warning : Warning) (message : Explanation) : Type 0 where
  pub shown : IsShown text (Some warning.place) message.shown
  pub alone : message.other ≡ None

-- messages for the first twenty warnings, and how many more there are
pub record IsWarningText (text : List ℕ) (origin : Origin) (warnings : List Warning) (all : List ℕ) : Type 0 where
  pub told : List ℕ
  pub first : AreTold Warning (IsMessage text) origin (take 20 warnings) told
  pub whole : all ≡ told ++ more_text origin (length warnings - 20) true
