-- What holds of the canonical text of a tree that some text spells.
use Rattle.std.specs.Prelude.{◌≡◌, ℕ, List}
use Rattle.sdl_tree.specs.Alike.{AreAlike}
use Rattle.sdl_tree.specs.Canonical.{canonical, canonical_text}
use Rattle.sdl_tree.specs.Erased.{erased}
use Rattle.sdl_tree.specs.Spells.{SpellsTree}
use Rattle.sdl_tree.specs.Spells.Expressions.{limit}
use Rattle.sdl_tree.specs.Tree.{Tree}
use Rattle.sdl_parse.specs.declared.error.ParseError.{ParseError}
use Rattle.sdl_parse.specs.Parser.{IsSame, SpellsText, Refuses}
use Rattle.sdl_print.specs.RoundTrip.{HasWords, IsWantOfRoom}

-- It has tokens, and their words are the canonical words of the tree but for places and spellings.
abbrev pub CanonicalLexes : Type 0
CanonicalLexes = (t : Tree) (text : List ℕ) → SpellsText t text → HasWords (AreAlike (canonical (erased t))) (canonical_text t)

-- Its words spell the tree again, but for places and spellings.
abbrev pub CanonicalSpellsAgain : Type 0
CanonicalSpellsAgain = (t : Tree) (text : List ℕ) → SpellsText t text → (u : Tree) × HasWords (SpellsTree limit u) (canonical_text t) × IsSame u t

-- It spells this tree alone, but for places and spellings, and is the canonical text of what it spells; and no refusal of it
-- names a fault.
abbrev pub ReadsAgain : Type 0
ReadsAgain = (t : Tree) (text : List ℕ) → SpellsText t text →
    ((u : Tree) → SpellsText u (canonical_text t) → IsSame u t × (canonical_text u ≡ canonical_text t))
    × ((e : ParseError) → Refuses e (canonical_text t) → IsWantOfRoom e)
