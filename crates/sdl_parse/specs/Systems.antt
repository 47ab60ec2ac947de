-- How blocks and the system are read: a device of the proofs, which say that it reads what the grammar spells and
-- nothing else.
use Rattle.std.specs.Prelude.{ℕ, List, [], ◌∷◌, Option, Ok, Err}
use Rattle.sdl_tree.specs.declared.mark.Mark.{Mark}
use Rattle.sdl_tree.specs.declared.mark.Mark.TheVariants as mark
use Rattle.sdl_tree.specs.declared.name.Spelling.{Spelling}
use Rattle.sdl_tree.specs.Tree.{Definition, Signals, SignalList, Synonyms, Channel, Process, BlockPart, InBlock, Connect, BlockDefinition, SystemDefinition, InSystem, Block, Tree}
use Rattle.sdl_tree.specs.Words.{Spot}
use Rattle.parse_expressions.specs.Parts.{followed, ended, closing, tied, sees_one, signal, signal_list}
use Rattle.parse_expressions.specs.Reading.{Parser, Refused, ◌⊗◌, behind, made, either, maybe, sees, expect, name, repeated}
use Rattle.sdl_parse.specs.Channels.{channel, connect}
use Rattle.sdl_parse.specs.Processes.{process}
use Rattle.sdl_parse.specs.Synonyms.{synonym}

abbrev pub definition_marks : List Mark
definition_marks = mark.Signal ∷ mark.SignalList ∷ mark.Synonym ∷ mark.Channel ∷ mark.Process ∷ []

-- def = signal | signallist | synonym | channel | process
unfoldable pub definition : ℕ → Parser Definition
definition depth =
    either (sees mark.Signal) (made Signals signal)
    (either (sees mark.SignalList) (made SignalList signal_list)
    (either (sees mark.Synonym) (made Synonyms (synonym depth))
    (either (sees mark.Channel) (made Channel channel) (made Process (process depth)))))

-- [def], where a connect stands in a block alone
unfoldable pub block_part : ℕ → Parser (Option BlockPart)
block_part depth =
    maybe (sees_one (mark.Connect ∷ definition_marks)) (either (sees mark.Connect) (made Connect connect) (made InBlock (definition depth)))

-- {def} "endblock" [NAME] end
abbrev pub block_parts : ℕ → Spot → Parser (List BlockPart)
block_parts depth x = followed (repeated (block_part depth)) (closing mark.EndBlock x.text)

abbrev pub block_with : Spelling × (Spot × List BlockPart) → BlockDefinition
block_with p = record { word = p.0; name = p.1.0; definitions = p.1.1 }

-- block = "block" NAME end {def} "endblock" [NAME] end
unfoldable pub block : ℕ → Parser BlockDefinition
block depth = made block_with (expect mark.Block ⊗ tied (ended name) (block_parts depth))

-- [def], where a block stands in a system alone
unfoldable pub system_definition : ℕ → Parser (Option SystemDefinition)
system_definition depth =
    maybe (sees_one (mark.Block ∷ definition_marks)) (either (sees mark.Block) (made Block (block depth)) (made InSystem (definition depth)))

-- {def} "endsystem" [NAME] end
abbrev pub system_definitions : ℕ → Spot → Parser (List SystemDefinition)
system_definitions depth x = followed (repeated (system_definition depth)) (closing mark.EndSystem x.text)

-- the end of the text
unfoldable pub at_end : Parser (Unit {0})
at_end [] = Ok (tt, [])
at_end (w ∷ i) = Err (Refused (w ∷ i))

abbrev pub tree_with : Spot × List SystemDefinition → Tree
tree_with p = record { name = p.0; definitions = p.1 }

-- spec = "system" NAME end {def} "endsystem" [NAME] end
abbrev pub system : ℕ → Parser Tree
system depth = made tree_with (behind mark.System (tied (ended name) (system_definitions depth)))

-- spec, and nothing behind it
unfoldable pub specification : ℕ → Parser Tree
specification depth = followed (system depth) at_end
