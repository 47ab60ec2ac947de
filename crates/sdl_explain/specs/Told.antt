-- Messages one after the other.
use Rattle.std.specs.Prelude.{◌≡◌, ℕ, ◌≤◌, All, IfSome, List, [], ◌∷◌, ◌++◌, None, length}
use Rattle.sdl_build.specs.declared.error.BuildError.{BuildError}
use Rattle.explain_syntax.specs.Explanation.{explanation_text}
use Rattle.explain_syntax.specs.More.{more_text}
use Rattle.sdl_explain.specs.Others.{AreLinesBeside, AreOthers, IsFaultBeside, IsLineBeside}
use Rattle.sdl_explain.specs.Refused.{IsShown, IsShownLine, Repeats, build_place, repeated_by, script_line}
use Rattle.explain_syntax.specs.declared.lines.explanation.Explanation.{Explanation}
use Rattle.explain_syntax.specs.declared.lines.origin.Origin.{Origin}
use Rattle.sdl_explain.specs.declared.others.Others.{Others}
use Rattle.sdl_script.specs.declared.script.ScriptError.{ScriptError}

-- a message for each of these things, one after the other
pub data AreTold (X : Type 0) (Tells : X → Explanation → Type 0) (origin : Origin) : List X → List ℕ → Type 0 where
  nothing : AreTold X Tells origin [] []
  one_more : (things : List X) (told : List ℕ) (thing : X) (message : Explanation)
      → AreTold X Tells origin things told → Tells thing message
      → AreTold X Tells origin (things ++ thing ∷ []) (told ++ explanation_text origin message)

-- the message of a fault shows the line of its place, and the place where the same word is first, if it shows another
pub record TellsFault (text : List ℕ) (fault : BuildError) (message : Explanation) : Type 0 where
  pub shown : IsShown text (build_place fault) message.shown
  pub other : IfSome message.other (Repeats text (build_place fault) (repeated_by fault))

-- the message of a fault, those of others beside it, and how many more there are
pub record IsFaultsText (text : List ℕ) (origin : Origin) (fault : BuildError) (all : List ℕ) : Type 0 where
  pub first : Explanation
  pub tells : TellsFault text fault first
  pub others : Others BuildError
  pub found : AreOthers text fault others
  pub beside : All (IsFaultBeside text) others.told.items
  pub few : length others.told.items ≤ 20
  pub told : List ℕ
  pub messages : AreTold BuildError (TellsFault text) origin others.told.items told
  pub whole : all ≡ explanation_text origin first ++ (told ++ more_text origin others.more others.is_all)

-- the message of a line of a script shows it, and no other
pub record TellsLine (script : List ℕ) (fault : ScriptError) (message : Explanation) : Type 0 where
  pub shown : IsShownLine script (script_line fault) message.shown
  pub alone : message.other ≡ None

-- the message of a line of a script, those of others beside it, and how many more there are
pub record IsLinesText (text script : List ℕ) (origin : Origin) (fault : ScriptError) (all : List ℕ) : Type 0 where
  pub first : Explanation
  pub tells : TellsLine script fault first
  pub others : Others ScriptError
  pub found : AreLinesBeside text script fault others
  pub beside : All (IsLineBeside text script) others.told.items
  pub few : length others.told.items ≤ 20
  pub told : List ℕ
  pub messages : AreTold ScriptError (TellsLine script) origin others.told.items told
  pub whole : all ≡ explanation_text origin first ++ (told ++ more_text origin others.more others.is_all)
