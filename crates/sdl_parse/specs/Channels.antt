-- How channels and their connections are read: a device of the proofs, which say that it reads what the grammar spells
-- and nothing else.
use Rattle.std.specs.Prelude.{Bool, true, false, List, Option}
use Rattle.sdl_tree.specs.declared.mark.Mark.TheVariants as mark
use Rattle.sdl_tree.specs.declared.name.Spelling.{Spelling}
use Rattle.sdl_tree.specs.Tree.{SignalListItem, ChannelEnd, Env, Agent, ChannelPath, ChannelDefinition, Connection}
use Rattle.sdl_tree.specs.Words.{Spot}
use Rattle.parse_expressions.specs.Parts.{followed, ended, closing, tied, sig}
use Rattle.parse_expressions.specs.Reading.{Parser, ◌⊗◌, behind, made, either, maybe, pure, sees, expect, name, separated}

-- point = "env" | NAME
unfoldable pub point : Parser ChannelEnd
point = either (sees mark.Env) (made Env (expect mark.Env)) (made Agent name)

abbrev pub path_with : ChannelEnd × (ChannelEnd × List SignalListItem) → ChannelPath
path_with p = record { from = p.0; to = p.1.0; signals = p.1.1 }

-- path = "from" point "to" point "with" sigs end
unfoldable pub path : Parser ChannelPath
path = made path_with (behind mark.From (point ⊗ behind mark.To (point ⊗ behind mark.With (ended (separated sig)))))

-- [path]
abbrev pub second_path : Parser (Option ChannelPath)
second_path = maybe (sees mark.From) path

-- ["nodelay"]
abbrev pub nodelay : Parser Bool
nodelay = either (sees mark.NoDelay) (made (λ _. true) (expect mark.NoDelay)) (pure false)

-- ["nodelay"] path [path] "endchannel" [NAME] end
abbrev pub paths : Spot → Parser (Bool × (ChannelPath × Option ChannelPath))
paths x = followed (nodelay ⊗ (path ⊗ second_path)) (closing mark.EndChannel x.text)

abbrev pub channel_with : Spelling × (Spot × (Bool × (ChannelPath × Option ChannelPath))) → ChannelDefinition
channel_with p = record { word = p.0; name = p.1.0; is_nodelay = p.1.1.0; first = p.1.1.1.0; second = p.1.1.1.1 }

-- channel = "channel" NAME ["nodelay"] path [path] "endchannel" [NAME] end
unfoldable pub channel : Parser ChannelDefinition
channel = made channel_with (expect mark.Channel ⊗ tied name paths)

abbrev pub connection_with : Spelling × (List Spot × List Spot) → Connection
connection_with p = record { word = p.0; outer = p.1.0; inner = p.1.1 }

-- connect = "connect" NAME {"," NAME} "and" NAME {"," NAME} end
unfoldable pub connect : Parser Connection
connect = made connection_with (expect mark.Connect ⊗ (separated name ⊗ behind mark.And (ended (separated name))))
