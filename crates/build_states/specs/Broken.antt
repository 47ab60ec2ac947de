-- When a rule is broken in what the states of a process say, and at which word: said of the text, and not of what is
-- noted.
use Rattle.std.specs.Prelude.{◌≡◌, ◌++◌, true, false, List, ◌∷◌}
use Rattle.build_names.specs.FaultLaws.{Each, In}
use Rattle.build_names.specs.Faults.{Diagnostic, diagnostic_at}
use Rattle.build_names.specs.declared.faults.fault.Rule.TheVariants.{NoState, TwiceInState}
use Rattle.sdl_tree.specs.Tree.{BodyPart, StateAll, StatePart, Stimulus}
use Rattle.sdl_tree.specs.Words.{Spot}
use Rattle.sdl_tree.specs.declared.name.Spelling.{Spelling}
use Rattle.build_states.specs.Context.{Context}
use Rattle.build_states.specs.Mentions.{Mention}
use Rattle.build_states.specs.Reading.{body_read}
use Rattle.build_states.specs.declared.stimuli.subject.Subject.{Subject}
use Rattle.build_states.specs.FirstMention.{speaks_of}
use Rattle.build_states.specs.States.{is_named, mentions_in, names_in, parts_of, states_faults}

-- a mention with this word speaks of something of which an earlier one speaks
pub record IsTwice (mentions : List Mention) (word : Spot) : Type 0 where
  pub before : List Mention
  pub mention : Mention
  pub after : List Mention
  pub mentions_are : mentions ≡ before ++ mention ∷ after
  pub at_word : word ≡ mention.word
  pub subject : Subject
  pub again : speaks_of mention subject ≡ true
  pub earlier : Mention
  pub stands_before : In earlier before
  pub spoken : speaks_of earlier subject ≡ true

-- a rule is broken in the states of a process, beside those of its stimuli
pub data IsBroken (context : Context) (body : List BodyPart) : Diagnostic → Type 0 where
  -- something is mentioned twice in a state
  twice :
      (name : Spot) (word : Spot) → In name (names_in body)
      → IsTwice (mentions_in (parts_of name.text (body_read context body).parts)) word
      → IsBroken context body (diagnostic_at TwiceInState word)
  -- an asterisk leaves out a name that no state list has
  no_state :
      (asterisk : Spelling) (except : List Spot) (stimuli : List Stimulus) (name : Spot)
      → In (StatePart (StateAll asterisk except) stimuli) body → In name except
      → is_named (names_in body) name.text ≡ false → IsBroken context body (diagnostic_at NoState name)

-- Each fault of the list is broken.
abbrev pub ListedBroken : Type 0
ListedBroken = (context : Context) (body : List BodyPart) → Each (IsBroken context body) (states_faults context body)

-- Each rule that is broken is in the list.
abbrev pub BrokenListed : Type 0
BrokenListed = (context : Context) (body : List BodyPart) (fault : Diagnostic) → IsBroken context body fault →
    In fault (states_faults context body)
