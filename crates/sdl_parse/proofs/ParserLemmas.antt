-- What a fault of the reading says of the text.
use Rattle.sdl_parse.proofs.Words.{Barred, Deep, Err, Fails, Fixed, IsBarred, IsLeftOut, IsRest, List, Refused, Some, Tree, Word, Words, ap, codes, front, length, limit, read_as, refl, word_place, words_of, ℕ, ◌++◌, ◌∙◌, ◌∷◌, ◌≡◌, ◌≤◌}
use Rattle.std.specs.String.{string_bytes}
use Rattle.sdl_lex.specs.declared.place.Place.{Place}
use Rattle.sdl_lex.specs.declared.token.Token.{Token}
use Rattle.sdl_lex.specs.Part.{Lexes}
use Rattle.sdl_tree.specs.declared.mark.Mark.TheVariants as mark
use Rattle.sdl_tree.specs.Words as word
use Rattle.parse_expressions.specs.declared.fault.Fault.{Fault}
use Rattle.parse_expressions.specs.declared.fault.Fault.TheVariants as fault
use Rattle.sdl_parse.specs.declared.error.ParseError.{ParseError}
use Rattle.sdl_parse.specs.declared.error.ParseError.TheVariants.{Expected, LeftOut, TooDeep, Memory}
use Rattle.sdl_parse.specs.Parser.{StandsAt, TooMany, SpellsText, Refuses, TellsWord, IsPlaceOf, Tells}
use Rattle.sdl_parse.specs.Systems.{specification}
use Rattle.sdl_parse.proofs.SystemLaws.{specification_sound, specification_one, specification_refused, specification_told}
use Rattle.sdl_parse.proofs.TooDeepLemmas.{one_too_many}

-- a text has one list of tokens
abbrev pub OneList : Type 0
OneList = (text : List ℕ) (ts us : List Token) → Lexes text ts → Lexes text us → ts ≡ us

front_of : (w : Word) (i : Words) → front (w ∷ i) ≡ Some w
unfolding front
front_of w i = refl

module _ (text : List ℕ) (tokens : List Token) where
  abbrev whole : Words
  whole = words_of text tokens

  at_place : (place : Place) (left : Words) (w : Word) (back : Words) → left ≡ w ∷ back → IsPlaceOf place (front left) → place ≡ word_place w
  at_place place left w back e placed = rw (ap front e ∙ front_of w back) at placed

  -- a string and a left-out word
  word_told : (place : Place) (told : List ℕ) (left : Words) → IsRest whole left → TellsWord place told (front left) → StandsAt place (λ before rest. IsLeftOut whole rest told) whole
  unfolding front
  word_told place told (word.Text x ∷ back) r t = (r.0, word.Text x, back, r.1, t.0, t.1)
  word_told place told (word.LeftOut lower x ∷ back) r t = (r.0, word.LeftOut lower x, back, r.1, t.0, t.1)
  word_told place told left r t = absurd t

  -- a condition behind a priority input
  barred_told : (place : Place) (told : List ℕ) (left : Words) → IsRest whole left → IsBarred whole left → IsPlaceOf place (front left) → told ≡ codes "provided"
      → StandsAt place (λ before rest. IsLeftOut whole rest told) whole
  barred_told place told left r n at is =
      let back : Words = n.5.1 in
      let w : Word = Fixed mark.Provided n.5.0 in (r.0, w, back, r.1 ∙ ap (λ k. r.0 ++ k) n.5.2, at_place place left w back n.5.2 at, (is, rw n.5.2 at n))

  deep_told : (place : Place) (left : Words) → specification limit whole ≡ Err (Deep left) → IsPlaceOf place (front left) → StandsAt place TooMany whole
  deep_told place left e at =
      let c = one_too_many limit whole left (specification_told limit whole (Deep left) e) in
      (c.0, c.2, c.1, c.3, at_place place left c.2 c.1 c.4 at, c.5)

  pub refuses : length text ≤ 1048576 → Lexes text tokens → (e : ParseError) (f : Fault) (left : Words) → Fails (specification limit whole) f left → Tells e f (front left) → Refuses e text
  refuses short lexes Memory f left o t = tt
  refuses short lexes (Expected place wanted) (fault.Expected w) left o t = (short, tokens, lexes, specification_refused limit whole (Refused left) o)
  refuses short lexes (LeftOut place s) (fault.Expected w) left o t =
      (short, tokens, lexes, (specification_refused limit whole (Refused left) o, word_told place (string_bytes s) left (specification_told limit whole (Refused left) o) t))
  refuses short lexes (LeftOut place s) fault.Condition left o t =
      let at = specification_told limit whole (Barred left) o in
      (short, tokens, lexes, (specification_refused limit whole (Barred left) o, barred_told place (string_bytes s) left at.0 at.1 t.0 t.1))
  refuses short lexes (TooDeep place) fault.TooDeep left o t = (short, tokens, lexes, (specification_refused limit whole (Deep left) o, deep_told place left o t))
  refuses short lexes e f left o t = absurd t

  pub found : length text ≤ 1048576 → Lexes text tokens → (t : Tree) (j : Words) → specification limit whole ≡ read_as t j → SpellsText t text
  found short lexes t j e = (short, tokens, lexes, specification_sound limit whole t j e)

-- a text has one tree
pub one : OneList → (t other : Tree) (text : List ℕ) → SpellsText t text → SpellsText other text → t ≡ other
one lists t other text s o = specification_one limit t other (words_of text s.1) s.3 (rw (lists text o.1 s.1 o.2 s.2) at o.3)
