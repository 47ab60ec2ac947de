-- What the lists stand for that the code makes.
use Rattle.std.specs.Prelude.{List, Option, map, option_map}
use Rattle.std.specs.Borrow.{Bor}
use Rattle.port_model.specs.declared.values.item.SignalId.{SignalId}
use Rattle.build_names.specs.Faults.{token_word}
use Rattle.build_states.specs.Mentions as plain
use Rattle.build_states.specs.Reading as read
use Rattle.build_states.specs.declared.stimuli.mention.Mention.{Mention}
use Rattle.build_states.specs.declared.stimuli.mention.Response.{Response}
use Rattle.build_states.specs.declared.stimuli.mention.Response.TheVariants as response
use Rattle.build_states.specs.declared.stimuli.reading.ContinuousSignal.{ContinuousSignal}
use Rattle.build_states.specs.declared.stimuli.reading.Numbering.{Numbering}
use Rattle.build_states.specs.declared.stimuli.reading.Part.{Part}
use Rattle.build_states.specs.declared.stimuli.reading.Reading.{Reading}
use Rattle.sdl_system.specs.Term.{Term, term_of}
use Rattle.sdl_system.specs.declared.expression.Expression.{Expression}
use Rattle.sdl_tree.specs.Views.{states_value}

abbrev pub response_value : Response → plain.Response
response_value (response.Input variables condition begin) = plain.input variables.items condition begin
response_value (response.Priority variables begin) = plain.priority_input variables.items begin
response_value response.Save = plain.save

abbrev pub mention_value : Mention → plain.Mention
mention_value mention = record {
  word = token_word mention.token;
  subjects = mention.subjects.items;
  response = response_value mention.response;
}

abbrev pub mentions_listed : List Mention → List plain.Mention
mentions_listed mentions = map mention_value mentions

abbrev pub continuous_value : ContinuousSignal → read.ContinuousSignal
continuous_value signal =
    record { condition = signal.condition; priority = signal.priority; begin = signal.begin }

abbrev pub part_value : Part → read.Part
part_value part = record {
  states = states_value part.states.now;
  mentions = mentions_listed part.mentions.items;
  enabling = part.enabling.items;
  continuous = map continuous_value part.continuous.items;
}

abbrev pub conditions_listed : List (Option Expression) → List (Option Term)
conditions_listed conditions = map (option_map term_of) conditions

abbrev pub numbering_value : Numbering → read.Numbering
numbering_value numbering =
    record { next = numbering.next; conditions = conditions_listed numbering.conditions.items }

abbrev pub begun_value : Numbering → Part → read.Begun
begun_value numbering part = record { numbering = numbering_value numbering; part = part_value part }

abbrev pub reading_value : Reading → read.Reading
reading_value reading =
    record { numbering = numbering_value reading.numbering; parts = map part_value reading.parts.items }

-- ---- what is said of a signal

abbrev pub rest_value : Bor Response → plain.Response
rest_value response = response_value response.now

abbrev pub named_value : SignalId × Bor Response → SignalId × plain.Response
named_value entry = (entry.0, rest_value entry.1)
