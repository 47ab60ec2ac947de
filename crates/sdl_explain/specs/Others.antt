-- Faults of a text beside the one that is told of it.
use Rattle.std.specs.Prelude.{◌≡◌, ◌≢◌, ℕ, ◌+◌, ◌-◌, ◌/◌, max, min, Bool, true, false, List, [], ◌∷◌, ◌++◌, None, Some, length, take, if◌then◌else◌}
use Rattle.std.specs.String.{string_bytes}
use Rattle.build_names.specs.declared.faults.fault.Rule.{Rule}
use Rattle.explain_syntax.specs.Gap.{LeavesAll, LeavesOut, lacks}
use Rattle.explain_syntax.specs.Line.{IsWithoutLine}
use Rattle.explain_syntax.specs.Rest.{IsRestOf}
use Rattle.explain_syntax.specs.Words.{is_same_place}
use Rattle.explain_syntax.specs.declared.rests.rest.Rest.{Rest}
use Rattle.sdl_build.specs.Built.{IsBuilt}
use Rattle.sdl_build.specs.Outcome.{IsRefusedAs}
use Rattle.sdl_build.specs.declared.error.BuildError.{BuildError}
use Rattle.sdl_build.specs.declared.error.BuildError.TheVariants as error
use Rattle.sdl_explain.specs.Refused.{build_place, is_lack, script_line}
use Rattle.sdl_explain.specs.declared.others.Found.{Found}
use Rattle.sdl_explain.specs.declared.others.Found.TheVariants.{Right, Wrong, Nothing}
use Rattle.sdl_explain.specs.declared.others.Others.{Others}
use Rattle.sdl_lex.specs.declared.place.Place.{Place}
use Rattle.sdl_parse.specs.Parser.{Refuses, SpellsText}
use Rattle.sdl_parse.specs.declared.error.ParseError.{ParseError}
use Rattle.sdl_script.specs.ScriptText as script
use Rattle.sdl_script.specs.declared.script.ScriptError.{ScriptError}
use Rattle.sdl_script.specs.declared.script.ScriptError.TheVariants as refusal
use Rattle.sdl_script.specs.declared.script.ScriptLine.{ScriptLine}
use Rattle.sdl_system.specs.System.{SystemValue}
use Rattle.sdl_tree.specs.Tree.{Tree}
use Rattle.sdl_tree.specs.declared.name.Name.{Name}

-- ---- what is told of a text

-- the text is a specification, and this is told of it
pub record IsFaultOf (text : List ℕ) (fault : BuildError) : Type 0 where
  pub tree : Tree
  pub spelled : SpellsText tree text
  pub refused : IsRefusedAs tree fault

-- the text is a specification, and nothing is wrong with it
pub record IsRight (text : List ℕ) : Type 0 where
  pub tree : Tree
  pub spelled : SpellsText tree text
  pub system : SystemValue
  pub built : IsBuilt tree system

-- the text is no specification
pub record IsNone (text : List ℕ) : Type 0 where
  pub error : ParseError
  pub refused : Refuses error text
  pub known : is_lack error ≡ false

abbrev pub IsFound : List ℕ → Found → Type 0
IsFound text Right = IsRight text
IsFound text (Wrong rule word) = IsFaultOf text (error.Broken rule word)
IsFound text Nothing = IsNone text

-- ---- with a specification

-- Once what is around this place is left out, this is told of what is left. If nothing is left out, it is told that nothing
-- is found.
pub data IsFoundPast (place : Place) (old new : Rest) : Found → Type 0 where
  left_out : (found : Found) → LeavesOut place old new → IsFound new.text.items found → IsFoundPast place old new found
  kept : LeavesAll place old new → IsFoundPast place old new Nothing

-- a fault, if it isn't at a name that may be missed, and so may come of what was left out
abbrev pub unless_lacking : Rest → BuildError → List BuildError
unless_lacking rest (error.Broken rule word) =
    if lacks rest (string_bytes word.text) then [] else error.Broken rule word ∷ []
unless_lacking rest error.Memory = []

-- What is left of a specification after so many faults, of which this is the last, and which of them are others than the
-- first, and don't come of what was left out. Each is found once what is around the one before is left out, too.
pub data AreFound (text : List ℕ) (first : BuildError) : ℕ → Rest → BuildError → List BuildError → Type 0 where
  only_first : (rest : Rest) → rest.text.items ≡ text → rest.names.items ≡ [] → AreFound text first 0 rest first []
  one_more :
      (turns : ℕ) (rest next : Rest) (last : BuildError) (others : List BuildError) (place : Place) (rule : Rule)
      (word : Name) → AreFound text first turns rest last others → build_place last ≡ Some place
      → IsFoundPast place rest next (Wrong rule word) → is_same_place word.place place ≡ false
      → AreFound text first (turns + 1) next (error.Broken rule word)
      (others ++ unless_lacking next (error.Broken rule word))

-- how often a text is read again: up to 200 times, and of a long text up to 2^24 bytes in all
abbrev pub most_turns : List ℕ → ℕ
most_turns text = max 1 (min 200 (16777216 / max (length text) 1))

-- Why no other fault is found behind the last one, after so many: that has no place; nothing is left out around it, or what
-- is left is no specification; it stays where it was; nothing is wrong with what is left; or the text was read often enough.
pub data Ends (text : List ℕ) (turns : ℕ) (rest : Rest) (last : BuildError) : Bool → Type 0 where
  no_place : build_place last ≡ None → Ends text turns rest last false
  is_lost : (place : Place) (next : Rest) → build_place last ≡ Some place → IsFoundPast place rest next Nothing
      → Ends text turns rest last false
  is_still : (place : Place) (next : Rest) (rule : Rule) (word : Name) → build_place last ≡ Some place
      → IsFoundPast place rest next (Wrong rule word) → is_same_place word.place place ≡ true → Ends text turns rest last false
  is_right : (place : Place) (next : Rest) → build_place last ≡ Some place → IsFoundPast place rest next Right
      → Ends text turns rest last true
  is_often : turns ≡ most_turns text → Ends text turns rest last false

-- the first twenty of these are told, and how many more there are
pub record TellsFirst (X : Type 0) (all : List X) (others : Others X) : Type 0 where
  pub told : others.told.items ≡ take 20 all
  pub more : others.more ≡ length all - 20

-- the other faults of a specification that is told to have the first
pub record AreOthers (text : List ℕ) (first : BuildError) (others : Others BuildError) : Type 0 where
  pub turns : ℕ
  pub rest : Rest
  pub last : BuildError
  pub all : List BuildError
  pub found : AreFound text first turns rest last all
  pub ends : Ends text turns rest last others.is_all
  pub shown : TellsFirst BuildError all others

-- this is told of a specification if something is left out of it
pub record IsFaultBeside (text : List ℕ) (fault : BuildError) : Type 0 where
  pub rest : List ℕ
  pub is_rest : IsRestOf text rest
  pub found : IsFaultOf rest fault

-- nothing is wrong with a specification if something is left out of it
pub record IsRightBeside (text : List ℕ) : Type 0 where
  pub rest : List ℕ
  pub is_rest : IsRestOf text rest
  pub right : IsRight rest

-- ---- with a script

-- the script is refused with this
pub record IsRefusedWith (system : SystemValue) (text : List ℕ) (fault : ScriptError) : Type 0 where
  pub refused : script.Refuses fault system text
  pub read : fault ≢ refusal.Memory

-- What is left of a script after so many faults, of which this is the last, and the others than the first. Each is found
-- once the line of the one before is left out, too.
pub data AreLinesFound (system : SystemValue) (text : List ℕ) (first : ScriptError) : ℕ → List ℕ → ScriptError → List ScriptError → Type 0 where
  only_first_line : AreLinesFound system text first 0 text first []
  one_more_line :
      (turns : ℕ) (rest next : List ℕ) (last fault : ScriptError) (others : List ScriptError) (number : ℕ)
      → AreLinesFound system text first turns rest last others → script_line last ≡ Some number
      → IsWithoutLine number rest next → IsRefusedWith system next fault
      → AreLinesFound system text first (turns + 1) next fault (others ++ fault ∷ [])

-- why no other line is found behind the last one: what is left is a script, or the text was read often enough
pub data EndsLines (system : SystemValue) (text : List ℕ) (turns : ℕ) (rest : List ℕ) (last : ScriptError) : Bool → Type 0 where
  lines_are_right : (number : ℕ) (next : List ℕ) (lines : List ScriptLine) → script_line last ≡ Some number
      → IsWithoutLine number rest next → script.SaysScript system next lines → EndsLines system text turns rest last true
  lines_are_often : turns ≡ most_turns text → EndsLines system text turns rest last false

-- the other lines of a script that is told to have the first
pub record AreOtherLines (system : SystemValue) (text : List ℕ) (first : ScriptError) (others : Others ScriptError) : Type 0 where
  pub turns : ℕ
  pub rest : List ℕ
  pub last : ScriptError
  pub all : List ScriptError
  pub found : AreLinesFound system text first turns rest last all
  pub ends : EndsLines system text turns rest last others.is_all
  pub shown : TellsFirst ScriptError all others

-- the same for a specification; none, if that has no system
pub data AreLinesBeside (specification text : List ℕ) (first : ScriptError) (others : Others ScriptError) : Type 0 where
  beside_none : IsNone specification → others.told.items ≡ [] → others.more ≡ 0 → others.is_all ≡ false
      → AreLinesBeside specification text first others
  beside_fault : (rule : Rule) (word : Name) → IsFaultOf specification (error.Broken rule word) → others.told.items ≡ []
      → others.more ≡ 0 → others.is_all ≡ false → AreLinesBeside specification text first others
  beside_system :
      (tree : Tree) (system : SystemValue) → SpellsText tree specification → IsBuilt tree system
      → AreOtherLines system text first others → AreLinesBeside specification text first others

-- this is told of a script if something is left out of it
pub record IsLineOf (system : SystemValue) (text : List ℕ) (fault : ScriptError) : Type 0 where
  pub rest : List ℕ
  pub is_rest : IsRestOf text rest
  pub found : script.Refuses fault system rest

-- what is left of a script is one
pub record IsScriptOf (system : SystemValue) (text : List ℕ) : Type 0 where
  pub rest : List ℕ
  pub is_rest : IsRestOf text rest
  pub lines : List ScriptLine
  pub says : script.SaysScript system rest lines

-- the same for a specification
pub record IsLineBeside (specification text : List ℕ) (fault : ScriptError) : Type 0 where
  pub tree : Tree
  pub spelled : SpellsText tree specification
  pub system : SystemValue
  pub built : IsBuilt tree system
  pub line : IsLineOf system text fault

pub record IsScriptBeside (specification text : List ℕ) : Type 0 where
  pub tree : Tree
  pub spelled : SpellsText tree specification
  pub system : SystemValue
  pub built : IsBuilt tree system
  pub script : IsScriptOf system text
