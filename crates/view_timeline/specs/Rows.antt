-- What waits in the ports of instances.
use Rattle.std.specs.Prelude.{◌≡◌, ℕ, List, [], ◌∷◌, map, Option, None, Some, if◌then◌else◌}
use Rattle.std.specs.Option.{option_map_or}
use Rattle.indexmap.specs.IndexMap.{IndexMap, get}
use Rattle.port_model.specs.declared.values.value.Value.{Value}
use Rattle.view_timeline.specs.Did.{Did, Message, same_channel, sent}
use Rattle.view_timeline.specs.Linked.{gather}
use Rattle.view_timeline.specs.declared.channel.Channel.{Channel}
use Rattle.view_timeline.specs.declared.rows.Row.{Row}
use Rattle.view_timeline.specs.declared.rows.Sent.{Sent}
use Rattle.view_timeline.specs.declared.moves.Link.{Link}
use Rattle.view_timeline.specs.declared.moves.Link.TheVariants as is

-- a signal that waits: at which place of the timeline it was sent, and its values
pub record Waiting : Type 0 where
  pub place : ℕ
  pub values : List Value

-- what waits on each channel, in the order in which it was sent
abbrev pub RowsState : Type 0
RowsState = Channel → List Waiting

-- what waits first has these values
abbrev pub IsFirst : List Value → List Waiting → Type 0
IsFirst values [] = ⊥
IsFirst values (first ∷ rest) = first.values ≡ values

-- a message that was sent at this place, if it's on the channel
abbrev pub letter : Channel → ℕ → Option Message → List Waiting
letter channel place (Some message) =
    if same_channel message.channel channel then record { place = place; values = message.values } ∷ [] else []
letter channel place None = []

abbrev pub waits_at : Channel → ℕ → Did → Link → List Waiting
waits_at channel place d is.Waits = letter channel place (sent d)
waits_at channel place d _ = []

-- what waits on the channel, by the links
abbrev pub waiting_on : Channel → List Did → List Link → List Waiting
waiting_on channel done links = gather (waits_at channel) 0 done links

-- ---- the rows in their table

abbrev pub waiting_of : Sent → Waiting
waiting_of one = record { place = one.event.0; values = one.values.now }

abbrev pub all_waiting : Row → List Waiting
all_waiting row = map waiting_of row.signals.items

abbrev pub row_of : {S : Type 0} → IndexMap Channel Row S → RowsState
row_of rows channel = option_map_or all_waiting (get same_channel rows channel) []
