-- What each state of a process says of each signal, and where it says it twice (Z.101: state, asterisk state list).
use Rattle.std.specs.Prelude.{◌+◌, ℕ, ℤ, ◌++◌, Bool, true, false, not, List, [], ◌∷◌, Option, None, Some, filter, flat_map, fold, int_lt, is_some, map, if◌then◌else◌}
use Rattle.std.specs.List.{list_any}
use Rattle.std.specs.Map.{lookup}
use Rattle.std.specs.Option.{option_or}
use Rattle.std.specs.Str.{bytes_eq}
use Rattle.port_model.specs.declared.values.item.SignalId.{SignalId}
use Rattle.build_names.specs.Faults.{Diagnostic, fault_if}
use Rattle.build_names.specs.States.{different, part_states}
use Rattle.build_names.specs.declared.faults.fault.Rule.TheVariants.{NoState, TwiceInState}
use Rattle.sdl_system.specs.State.{same_signal}
use Rattle.sdl_system.specs.declared.id.ConditionId.{ConditionId}
use Rattle.sdl_tree.specs.Tree.{BodyPart, FreeAction, ProcessDefinition, StateAll, StateList, StatePart, States}
use Rattle.sdl_tree.specs.Words.{Spot}
use Rattle.build_states.specs.Context.{Context}
use Rattle.build_states.specs.Mentions.{Mention, Response}
use Rattle.build_states.specs.Reading.{ContinuousSignal, Part, body_faults, body_read}
use Rattle.build_states.specs.declared.stimuli.subject.Subject.{Subject}
use Rattle.build_states.specs.declared.stimuli.subject.Subject.TheVariants.{Rest, Signal}

-- ---- the parts of a state

abbrev pub is_named : List Spot → List ℕ → Bool
is_named names text = list_any (λ name. bytes_eq text name.text) names

-- an asterisk stands for all states of the process but those in parentheses
abbrev pub is_part_of : List ℕ → States → Bool
is_part_of text (StateList names) = is_named names text
is_part_of text (StateAll asterisk except) = not (is_named except text)

-- the parts of the state of this name, in the order of the text
abbrev pub parts_of : List ℕ → List Part → List Part
parts_of text parts = filter (λ part. is_part_of text part.states) parts

abbrev pub mentions_in : List Part → List Mention
mentions_in parts = flat_map (λ part. part.mentions) parts

-- ---- what is said of each signal

pub record Answers : Type 0 where
  -- what is done with the signals that the state names, each where it is mentioned first
  pub named : List (SignalId × Response)
  -- what is done with the others of the valid input set, by the first asterisk
  pub rest : Option Response

abbrev pub no_answers : Answers
no_answers = record { named = []; rest = None }

-- what is done with a signal, if the state names it
abbrev pub named_in : List (SignalId × Response) → SignalId → Option Response
named_in named signal = lookup (same_signal signal) named

abbrev pub is_answered : Answers → Subject → Bool
is_answered answers (Signal number) = is_some (named_in answers.named number)
is_answered answers Rest = is_some answers.rest

-- these signals, and one more where it isn't among them
abbrev pub with_signal : List (SignalId × Response) → SignalId → Response → List (SignalId × Response)
with_signal named signal response =
    if is_some (named_in named signal) then named else named ++ (signal, response) ∷ []

-- these answers, and one more where nothing is said of its subject yet
abbrev pub with_answer : Answers → Response → Subject → Answers
with_answer answers response (Signal number) =
    record { named = with_signal answers.named number response; rest = answers.rest }
with_answer answers response Rest =
    record { named = answers.named; rest = option_or answers.rest (Some response) }

abbrev pub with_subjects : Answers → Response → List Subject → Answers
with_subjects answers response subjects = fold (λ before subject. with_answer before response subject) answers subjects

abbrev pub with_mention : Answers → Mention → Answers
with_mention answers mention = with_subjects answers mention.response mention.subjects

abbrev pub with_mentions : Answers → List Mention → Answers
with_mentions answers mentions = fold with_mention answers mentions

abbrev pub answers_in : List Mention → Answers
answers_in mentions = with_mentions no_answers mentions

-- ---- mentioned twice

-- whether something of which the mention speaks is mentioned before
abbrev pub is_again : Answers → Mention → Bool
is_again answers mention = list_any (is_answered answers) mention.subjects

-- the mentions that speak of something that is mentioned before, behind those that gave these answers
abbrev pub twice_faults : Answers → List Mention → List Diagnostic
twice_faults answers [] = []
twice_faults answers (mention ∷ mentions) =
    fault_if (is_again answers mention) TwiceInState mention.word
    ++ twice_faults (with_mention answers mention) mentions

-- of a state with these parts
abbrev pub state_faults : List Part → List Diagnostic
state_faults parts = twice_faults no_answers (mentions_in parts)

-- ---- continuous signals

-- a continuous signal with its number in the state, from 1 in the order of the text
pub record Numbered : Type 0 where
  pub number : ℕ
  pub signal : ContinuousSignal

abbrev pub numbered_from : ℕ → List ContinuousSignal → List Numbered
numbered_from number [] = []
numbered_from number (signal ∷ signals) =
    record { number = number; signal = signal } ∷ numbered_from (number + 1) signals

-- whether the first is tried before one with the other priority that stands behind it: the smaller number comes
-- first, and what has none comes last
abbrev pub comes_first : Option ℤ → Option ℤ → Bool
comes_first one None = true
comes_first None (Some other) = false
comes_first (Some one) (Some other) = not (int_lt other one)

-- behind all that come first
abbrev pub placed : List Numbered → Numbered → List Numbered
placed [] signal = signal ∷ []
placed (one ∷ rest) signal =
    if comes_first one.signal.priority signal.signal.priority then one ∷ placed rest signal else signal ∷ (one ∷ rest)

-- in the order in which they are tried
abbrev pub tried : List Numbered → List Numbered
tried signals = fold placed [] signals

-- ---- the meaning of a state

abbrev pub enabling_in : List Part → List ConditionId
enabling_in parts = flat_map (λ part. part.enabling) parts

abbrev pub continuous_in : List Part → List ContinuousSignal
continuous_in parts = flat_map (λ part. part.continuous) parts

-- what a state says, in the order of the text
pub record Table : Type 0 where
  pub answers : Answers
  -- the enabling conditions
  pub enabling : List ConditionId
  pub continuous : List ContinuousSignal

abbrev pub no_table : Table
no_table = record { answers = no_answers; enabling = []; continuous = [] }

-- and what these parts say
abbrev pub with_parts : Table → List Part → Table
with_parts table parts = record {
  answers = with_mentions table.answers (mentions_in parts);
  enabling = table.enabling ++ enabling_in parts;
  continuous = table.continuous ++ continuous_in parts;
}

-- what a state with these parts says
abbrev pub table_of : List Part → Table
table_of parts = with_parts no_table parts

-- what the state of this name says, by those of these parts that belong to it
abbrev pub table_named : List Part → Spot → Table
table_named parts name = table_of (parts_of name.text parts)

abbrev pub tables_of : List Part → List Spot → List Table
tables_of parts names = map (table_named parts) names

pub record StateMeaning : Type 0 where
  pub name : List ℕ
  -- what is done with the signals that the state names
  pub named : SignalId → Option Response
  -- what is done with the others of the valid input set
  pub rest : Option Response
  -- the enabling conditions in the order of the text
  pub enabling : List ConditionId
  -- the continuous signals in the order in which they are tried
  pub continuous : List Numbered

-- what a state of this name means that says this
abbrev pub meaning_of : List ℕ → Table → StateMeaning
meaning_of name table = record {
  name = name;
  named = named_in table.answers.named;
  rest = table.answers.rest;
  enabling = table.enabling;
  continuous = tried (numbered_from 1 table.continuous);
}

-- ---- the states of a process

-- the names in the state lists, in the order of the text
abbrev pub names_in : List BodyPart → List Spot
names_in body = flat_map part_states body

abbrev pub state_of : List Part → Spot → StateMeaning
state_of parts name = meaning_of name.text (table_named parts name)

-- the states, each where the text first names it
abbrev pub states_of : Context → List BodyPart → List StateMeaning
states_of context body = map (state_of (body_read context body).parts) (different (names_in body))

-- a name in parentheses behind an asterisk that is no state's, by what tells the names of the states
abbrev pub unnamed_faults : (List ℕ → Bool) → Spot → List Diagnostic
unnamed_faults is_state name = fault_if (not (is_state name.text)) NoState name

abbrev pub except_faults : (List ℕ → Bool) → States → List Diagnostic
except_faults is_state (StateList names) = []
except_faults is_state (StateAll asterisk except) = flat_map (unnamed_faults is_state) except

-- the names that the asterisk of a part leaves out, and that are no state's
abbrev pub left_out_faults : (List ℕ → Bool) → BodyPart → List Diagnostic
left_out_faults is_state (StatePart listed stimuli) = except_faults is_state listed
left_out_faults is_state (FreeAction word label transition) = []

abbrev pub named_faults : List Part → Spot → List Diagnostic
named_faults parts name = state_faults (parts_of name.text parts)

-- what is broken in the states of a process, beside the faults of its stimuli
abbrev pub states_faults : Context → List BodyPart → List Diagnostic
states_faults context body =
    flat_map (left_out_faults (is_named (names_in body))) body
    ++ flat_map (named_faults (body_read context body).parts) (different (names_in body))

-- all that is broken in what the states of a process say
abbrev pub process_faults : Context → ProcessDefinition → List Diagnostic
process_faults context process = body_faults context process.body ++ states_faults context process.body
