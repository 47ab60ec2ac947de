-- What it means that a body was added to a table of nodes. A table grows, and its joins are linked last: so a body
-- stands in a table where it does in each that the table can become.
use Rattle.std.specs.Prelude.{◌≡◌, ◌⊎◌, ◌+◌, ◌++◌, List, [], ◌∷◌, Option, None, Some, flat_map, length, map, slice_get}
use Rattle.build_statements.specs.Contexts.{Context, label_in}
use Rattle.build_statements.specs.Labels.{joins_of, labels_of, times}
use Rattle.build_statements.specs.declared.nodes.table.Mark.{Mark}
use Rattle.build_statements.specs.declared.nodes.table.NodeTable.{NodeTable}
use Rattle.build_names.specs.FaultLaws.{In}
use Rattle.sdl_system.specs.Body.{Body, FromLabel}
use Rattle.sdl_system.specs.BodyLaws.{Keeps}
use Rattle.sdl_system.specs.Table.{Has}
use Rattle.sdl_system.specs.declared.id.LabelId.{LabelId}
use Rattle.sdl_system.specs.declared.id.NodeId.{NodeId}
use Rattle.sdl_system.specs.declared.statement.Node.{Node}
use Rattle.sdl_system.specs.declared.statement.Statement.{Statement}
use Rattle.sdl_system.specs.declared.statement.Statement.TheVariants as kind
use Rattle.sdl_tree.specs.Words.{Spot}

-- nodes, and labels with the nodes that they mark
pub record Table : Type 0 where
  pub nodes : List Node
  pub marks : List Mark

abbrev pub table_of : NodeTable → Table
table_of table = record { nodes = table.nodes.items; marks = table.marks.items }

-- the labels that are marked, each as often as it is
abbrev pub label_of : Mark → LabelId
label_of mark = mark.label

abbrev pub marked_labels : Table → List LabelId
marked_labels table = map label_of table.marks

-- the labels to which the joins of the table lead
abbrev pub statement_joins : Statement → List LabelId
statement_joins (kind.Join label) = label ∷ []
statement_joins (kind.Task list) = []
statement_joins (kind.Output sends) = []
statement_joins (kind.Set list) = []
statement_joins (kind.Reset list) = []
statement_joins (kind.Create creation) = []
statement_joins (kind.Decision asked) = []
statement_joins (kind.NextState state) = []
statement_joins kind.SameState = []
statement_joins kind.Stop = []

abbrev pub node_joins : Node → List LabelId
node_joins node = statement_joins node.statement

abbrev pub joined_labels : Table → List LabelId
joined_labels table = flat_map node_joins table.nodes

-- the table can become these nodes with these marks: its nodes stand there but for what joins lead to, and each label
-- is marked where it is in the table
pub record Becomes (table : Table) (nodes : List Node) (marks : List (Option NodeId)) : Type 0 where
  pub kept : (n : NodeId) (node : Node) → slice_get table.nodes n.0 ≡ Some node → Keeps nodes n node
  pub marked : (mark : Mark) → In mark table.marks → slice_get marks mark.label.0 ≡ Some (Some mark.node)

-- from the place on stand these statements, which go on at `to`, whatever the table becomes
abbrev pub Lasts : Table → Option NodeId → Body → Option NodeId → Type 0
Lasts table from b to =
    (nodes : List Node) (marks : List (Option NodeId)) → Becomes table nodes marks → Has nodes marks from b to

-- the first table has grown to the second
abbrev pub GrownTo : Table → Table → Type 0
GrownTo old new =
    (nodes : List Node) (marks : List (Option NodeId)) → Becomes new nodes marks → Becomes old nodes marks

-- the mark is that of a label of the body
abbrev pub MarksIn : Table → Body → Option NodeId → Mark → Type 0
MarksIn table whole to mark = (on : Body) × FromLabel mark.label whole on × Lasts table (Some mark.node) on to

-- The table has grown by a body, which stands from one place on and goes on at the other. Its labels are marked as
-- often as they stand in it, and no join was added that isn't the body's.
pub record Built (old new : Table) (from : Option NodeId) (whole : Body) (to : Option NodeId) : Type 0 where
  pub grown : GrownTo old new
  pub stands : Lasts new from whole to
  pub marked : (mark : Mark) → In mark new.marks → In mark old.marks ⊎ MarksIn new whole to mark
  pub labels : (l : LabelId) → times l (marked_labels new) ≡ times l (labels_of whole) + times l (marked_labels old)
  pub joins : (l : LabelId) → times l (joined_labels new) ≡ times l (joins_of whole) + times l (joined_labels old)

-- the same, where the transition has a body
abbrev pub BuiltIf : Table → Table → Option NodeId → Option Body → Option NodeId → Type 0
BuiltIf old new from None to = Unit {0}
BuiltIf old new from (Some whole) to = Built old new from whole to

-- ---- one more statement

-- the marks of a name before the node
abbrev pub mark_if : Option LabelId → NodeId → List Mark
mark_if None node = []
mark_if (Some label) node = record { label = label; node = node } ∷ []

abbrev pub marks_for : Context → Option Spot → NodeId → List Mark
marks_for context None node = []
marks_for context (Some name) node = mark_if (label_in context name.text) node

abbrev pub end_of : Table → NodeId
end_of table = record { 0 = length table.nodes }

-- the statement behind all nodes of the table, with its label; nothing where there is none
abbrev pub placed : Context → Table → Option Spot → Option Statement → Option NodeId → Table
placed context table name None next = table
placed context table name (Some statement) next = record {
  nodes = table.nodes ++ record { statement = statement; next = next } ∷ [];
  marks = table.marks ++ marks_for context name (end_of table);
}

abbrev pub place_of : Table → Option Statement → Option NodeId → Option NodeId
place_of table None next = next
place_of table (Some statement) next = Some (end_of table)
