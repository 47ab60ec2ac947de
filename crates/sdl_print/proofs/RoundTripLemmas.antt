-- The canonical text of a tree is read as this tree, but for places.
use Rattle.std.proofs.Common.{◌≡◌, refl, sym, ap, ◌∙◌, subst, inl, inr, ℕ, List}
use Rattle.sdl_lex.specs.declared.error.LexError.{LexError}
use Rattle.sdl_lex.specs.declared.error.LexError.TheVariants as lexer
use Rattle.sdl_lex.specs.declared.token.Token.{Token}
use Rattle.sdl_lex.specs.LexError as faults
use Rattle.sdl_lex.specs.Part.{Lexes}
use Rattle.sdl_tree.specs.Canonical.{canonical, canonical_text, text_of}
use Rattle.sdl_tree.specs.Erased.{erased}
use Rattle.sdl_tree.specs.Spells.Expressions.{limit}
use Rattle.sdl_tree.specs.Tree.{Tree}
use Rattle.sdl_tree.specs.Words.{words_of}
use Rattle.sdl_tree.proofs.ErasedLemmas.{erased_once}
use Rattle.sdl_tree.proofs.WrittenDefinitions.{canonical_spells}
use Rattle.sdl_parse.specs.declared.error.ParseError.{ParseError}
use Rattle.sdl_parse.specs.declared.error.ParseError.TheVariants as parser
use Rattle.sdl_parse.specs.Parser.{SpellsText, HasNoTree, IsSame, AlikeSpell, OneTree, Refuses}
use Rattle.sdl_print.specs.Laws.{CanonicalLexes, CanonicalSpellsAgain, ReadsAgain}
use Rattle.sdl_print.specs.RoundTrip.{IsCanonicalOf, IsWantOfRoom}
use Rattle.sdl_print.proofs.CarriedDefinitions.{canonical_writable}
use Rattle.sdl_print.proofs.ReadLemmas.{words_read, words_known}

pub canonical_lexes : CanonicalLexes
canonical_lexes t text s =
    words_read (canonical (erased t)) (canonical_writable limit t (words_of text s.1) s.3 (words_known text s.1 s.2))

pub canonical_spells_again : AlikeSpell → CanonicalSpellsAgain
canonical_spells_again alike t text s =
    let lexed = canonical_lexes t text s in
    let again = alike (erased t) (canonical (erased t)) (words_of (canonical_text t) lexed.0) (canonical_spells limit t (words_of text s.1) s.3) lexed.2 in
    (again.0, (lexed.0, lexed.1, again.1), again.2 ∙ erased_once t)

-- the laws of the lexer: a text has one list of tokens, and none where a fault stands in it
abbrev pub OneList : Type 0
OneList = (text : List ℕ) (tokens others : List Token) → Lexes text tokens → Lexes text others → tokens ≡ others

abbrev pub NoList : Type 0
NoList = (text : List ℕ) (error : LexError) (tokens : List Token) → faults.IsInText error → faults.Refuses error text → ¬ Lexes text tokens

module _ (one_list : OneList) (no_list : NoList) (one_tree : OneTree) (alike : AlikeSpell) (t : Tree) (text : List ℕ) (s : SpellsText t text) where
  spells_this : (u : Tree) → SpellsText u (canonical_text t) → IsSame u t × (canonical_text u ≡ canonical_text t)
  spells_this u spelled =
      let again = canonical_spells_again alike t text s in
      let tree : u ≡ again.0 = one_tree u again.0 (canonical_text t) spelled (spelled.0, again.1.0, again.1.1, again.1.2) in
      let erases : IsSame u t = ap erased tree ∙ again.2 in
      (erases, ap (λ e. text_of (canonical e)) erases)

  has_tree : (tokens : List Token) → Lexes (canonical_text t) tokens → HasNoTree (words_of (canonical_text t) tokens) → ⊥
  has_tree tokens lexes none =
      let again = canonical_spells_again alike t text s in
      let F : List Token → Type 0 = λ found. HasNoTree (words_of (canonical_text t) found) in
      subst F (one_list (canonical_text t) tokens again.1.0 lexes again.1.1) none again.0 again.1.2

  in_text : (error : LexError) → faults.IsInText error → faults.Refuses error (canonical_text t) → ⊥
  in_text error is refuses = let lexed = canonical_lexes t text s in no_list (canonical_text t) error lexed.0 is refuses lexed.1

  no_fault : (error : LexError) → faults.Refuses error (canonical_text t) → IsWantOfRoom (parser.Lex error)
  no_fault lexer.TooLong refuses = inr (inr refl)
  no_fault (lexer.BadByte p) refuses = absurd (in_text (lexer.BadByte p) tt refuses)
  no_fault (lexer.OpenComment p) refuses = absurd (in_text (lexer.OpenComment p) tt refuses)
  no_fault (lexer.OpenString p) refuses = absurd (in_text (lexer.OpenString p) tt refuses)
  no_fault (lexer.NumberTooBig p) refuses = absurd (in_text (lexer.NumberTooBig p) tt refuses)
  no_fault (lexer.NameTooLong p) refuses = absurd (in_text (lexer.NameTooLong p) tt refuses)
  no_fault lexer.Memory refuses = inr (inl refl)

  is_room : (e : ParseError) → Refuses e (canonical_text t) → IsWantOfRoom e
  is_room (parser.Lex error) r = no_fault error r
  is_room (parser.Expected place wanted) r = absurd (has_tree r.1 r.2 r.3)
  is_room (parser.LeftOut place told) r = let none = r.3 in absurd (has_tree r.1 r.2 none.0)
  is_room (parser.TooDeep place) r = let none = r.3 in absurd (has_tree r.1 r.2 none.0)
  is_room parser.Memory r = inl refl

pub reads_again : OneList → NoList → OneTree → AlikeSpell → ReadsAgain
reads_again one_list no_list one_tree alike t text s =
    (spells_this one_list no_list one_tree alike t text s, is_room one_list no_list one_tree alike t text s)

-- what is read from a canonical text is written as this text
pub settled : ReadsAgain → (t : Tree) (text source : List ℕ) → IsCanonicalOf text source → SpellsText t text → canonical_text t ≡ text
settled laws t text source is spelled =
    let F : List ℕ → Type 0 = λ again. SpellsText t again in
    ((laws is.0 source is.1).0 t (subst F is.2 spelled)).1 ∙ sym is.2

-- and refused for lack of room alone
pub readable : ReadsAgain → (e : ParseError) (text source : List ℕ) → IsCanonicalOf text source → Refuses e text → IsWantOfRoom e
readable laws e text source is refuses =
    let F : List ℕ → Type 0 = λ again. Refuses e again in (laws is.0 source is.1).1 e (subst F is.2 refuses)
