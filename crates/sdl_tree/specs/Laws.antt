-- What holds of the definitions.
use Rattle.std.specs.Prelude.{◌≡◌, ℕ, IsTrue, ◌⊎◌, Option, None, List, [], ◌∷◌}
use Rattle.sdl_lex.specs.declared.token.Kind.{Kind}
use Rattle.sdl_lex.specs.declared.token.Kind.TheVariants as kind
use Rattle.sdl_lex.specs.Kind.{is_mark}
use Rattle.sdl_tree.specs.declared.mark.Mark.{Mark}
use Rattle.sdl_tree.specs.declared.name.Spelling.{Spelling}
use Rattle.sdl_tree.specs.Canonical.{canonical}
use Rattle.sdl_tree.specs.Erased.{erased, plain}
use Rattle.sdl_tree.specs.Mark.{text}
use Rattle.sdl_tree.specs.Spells.{SpellsTree}
use Rattle.sdl_tree.specs.Spells.Behaviour.{SpellsStimulus}
use Rattle.sdl_tree.specs.Spells.Parts.{Repeated}
use Rattle.sdl_tree.specs.Tree.{Number, Expr, Input, Transition, Steps, NoAction, PriorityInput, ContinuousSignal, Tree}
use Rattle.sdl_tree.specs.Words.{Spot, Words, Fixed, fixed_at, in_lower_case, word_of, word_text, word_place}

-- The canonical words of a tree that some words spell spell it, but for places and spellings.
abbrev pub CanonicalSpells : Type 0
CanonicalSpells = (depth : ℕ) (t : Tree) (i : Words) → SpellsTree depth t i → SpellsTree depth (erased t) (canonical (erased t))

-- What is erased twice is erased.
abbrev pub ErasedOnce : Type 0
ErasedOnce = (t : Tree) → erased (erased t) ≡ erased t

-- A token of the kind `Mark` means a mark, in lower case.
abbrev pub SignsAreFixed : Type 0
SignsAreFixed = (x : Spot) → IsTrue (is_mark x.text) → (m : Mark) × (word_of kind.Mark x ≡ fixed_at x.place (in_lower_case m))

-- The text of a mark means the mark, in lower case.
abbrev pub TextsAreFixed : Type 0
TextsAreFixed = (m : Mark) → (word_of kind.Word (record { text = text m; place = plain.place }) ≡ Fixed m plain)
    ⊎ (word_of kind.Mark (record { text = text m; place = plain.place }) ≡ Fixed m plain)

-- A word is spelled as its token is, and stands where it does.
abbrev pub WordsAreSpelled : Type 0
WordsAreSpelled = (k : Kind) (x : Spot) → (word_text (word_of k x) ≡ x.text) × (word_place (word_of k x) ≡ x.place)

-- Right behind the end of a priority input no `provided` stands.
abbrev pub NoConditionOnPriority : Type 0
NoConditionOnPriority = (depth : ℕ) (v w : Spelling) (inputs : List Input) (e : Expr) (p : Option Number) (t : Transition) (i j : Words) →
    ¬ Repeated (SpellsStimulus depth) (PriorityInput v inputs (Steps NoAction None) ∷ ContinuousSignal w e p t ∷ []) i j
