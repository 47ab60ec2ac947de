-- A node with what comes behind it: behind a join comes the first node that its label marks.
use Rattle.std.specs.Prelude.{◌==◌, List, [], ◌∷◌, Option, None, Some, cond, map, slice_get}
use Rattle.std.specs.Option.{unwrap_or}
use Rattle.build_statements.specs.Built.{Table}
use Rattle.build_statements.specs.declared.nodes.table.Mark.{Mark}
use Rattle.sdl_system.specs.declared.id.LabelId.{LabelId}
use Rattle.sdl_system.specs.declared.id.NodeId.{NodeId}
use Rattle.sdl_system.specs.declared.statement.Node.{Node}
use Rattle.sdl_system.specs.declared.statement.Statement.{Statement}
use Rattle.sdl_system.specs.declared.statement.Statement.TheVariants as kind

-- the node that the label marks first
abbrev pub first_mark : List Mark → LabelId → Option NodeId
first_mark [] label = None
first_mark (mark ∷ rest) label = cond (mark.label.0 == label.0) (Some mark.node) (first_mark rest label)

-- what comes behind a statement, where these nodes stand by the labels that mark them
abbrev pub next_of : (LabelId → Option NodeId) → Statement → Option NodeId → Option NodeId
next_of places (kind.Join label) next = places label
next_of places (kind.Task list) next = next
next_of places (kind.Output sends) next = next
next_of places (kind.Set list) next = next
next_of places (kind.Reset list) next = next
next_of places (kind.Create creation) next = next
next_of places (kind.Decision asked) next = next
next_of places (kind.NextState state) next = next
next_of places kind.SameState next = next
next_of places kind.Stop next = next

abbrev pub linked : (LabelId → Option NodeId) → Node → Node
linked places node = record { statement = node.statement; next = next_of places node.statement node.next }

abbrev pub linked_nodes : Table → List Node
linked_nodes table = map (linked (first_mark table.marks)) table.nodes

-- the place of a label in a list of places
abbrev pub place_at : List (Option NodeId) → LabelId → Option NodeId
place_at places label = unwrap_or (slice_get places label.0) None
