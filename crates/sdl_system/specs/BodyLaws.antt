-- Laws of bodies and of the tables that stand for them.
use Rattle.std.specs.Prelude.{◌≡◌, List, Option, Some, slice_get}
use Rattle.sdl_system.specs.Body.{Body, Parts, Ends, FromLabel, followed}
use Rattle.sdl_system.specs.Table.{Has, HasParts, MarkedAt}
use Rattle.sdl_system.specs.declared.id.LabelId.{LabelId}
use Rattle.sdl_system.specs.declared.id.NodeId.{NodeId}
use Rattle.sdl_system.specs.declared.statement.Branch.{Branch}
use Rattle.sdl_system.specs.declared.statement.Node.{Node}
use Rattle.sdl_system.specs.declared.statement.Statement.{Statement}
use Rattle.sdl_system.specs.declared.statement.Statement.TheVariants as kind
use Rattle.sdl_system.specs.declared.statement.Way.{Way}

-- what stands behind one another can be read from either end
abbrev pub FollowedByTurns : Type 0
FollowedByTurns = (a b c : Body) → followed (followed a b) c ≡ followed a (followed b c)

-- Where a body ends, it ends with whatever behind it; and what ends may stand behind anything.
abbrev pub EndsFirst : Type 0
EndsFirst = (a b : Body) → Ends a → Ends (followed a b)

abbrev pub EndsSecond : Type 0
EndsSecond = (a b : Body) → Ends b → Ends (followed a b)

-- with something behind the body, it also stands behind what follows a label
abbrev pub LabelFollowed : Type 0
LabelFollowed = (l : LabelId) (b a on : Body) → FromLabel l a on → FromLabel l (followed a b) (followed on b)

-- a segment, and behind it another, are one segment
abbrev pub HasFollowed : Type 0
HasFollowed =
    (nodes : List Node) (marks : List (Option NodeId)) (from mid to : Option NodeId) (a b : Body)
    → Has nodes marks from a mid
    → Has nodes marks mid b to → Has nodes marks from (followed a b) to

-- ---- tables that grow

-- the place behind a join is known last, every other stays
abbrev pub KeepsNext : Statement → Option NodeId → Option NodeId → Type 0
KeepsNext (kind.Join label) old new = Unit {0}
KeepsNext statement old new = old ≡ new

-- the node stands in the table, but for the place behind a join
pub record Keeps (nodes : List Node) (n : NodeId) (node : Node) : Type 0 where
  pub next : Option NodeId
  pub stands : slice_get nodes n.0 ≡ Some (record { statement = node.statement; next = next })
  pub same : KeepsNext node.statement node.next next

-- the nodes and the marks of a table that has grown are still there
pub record Grows (nodes : List Node) (marks : List (Option NodeId)) (nodes' : List Node)
    (marks' : List (Option NodeId)) : Type 0 where
  pub kept : (n : NodeId) (node : Node) → slice_get nodes n.0 ≡ Some node → Keeps nodes' n node
  pub marked : (l : LabelId) (place : Option NodeId) → MarkedAt marks l place → MarkedAt marks' l place

-- what stood in the table still stands there
abbrev pub HasGrows : Type 0
HasGrows =
    (nodes : List Node) (marks : List (Option NodeId)) (nodes' : List Node) (marks' : List (Option NodeId))
    → Grows nodes marks nodes' marks'
    → (from to : Option NodeId) (body : Body) → Has nodes marks from body to → Has nodes' marks' from body to

abbrev pub HasPartsGrows : Type 0
HasPartsGrows =
    (nodes : List Node) (marks : List (Option NodeId)) (nodes' : List Node) (marks' : List (Option NodeId))
    → Grows nodes marks nodes' marks'
    → (branches : List Branch) (otherwise : Option Way) (parts : Parts) (next : Option NodeId)
    → HasParts nodes marks branches otherwise parts next → HasParts nodes' marks' branches otherwise parts next

-- a table grows by turns
abbrev pub GrowsByTurns : Type 0
GrowsByTurns =
    (n0 : List Node) (m0 : List (Option NodeId)) (n1 : List Node) (m1 : List (Option NodeId)) (n2 : List Node)
    (m2 : List (Option NodeId))
    → Grows n0 m0 n1 m1 → Grows n1 m1 n2 m2 → Grows n0 m0 n2 m2
