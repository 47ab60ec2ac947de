-- How a table of nodes is walked: what a node says of the statements that stand at its place.
use Rattle.std.specs.Prelude.{◌≡◌, ◌⊎◌, List, Option, None, Some, slice_get}
use Rattle.port_model.specs.declared.values.value.Value.{Value}
use Rattle.sdl_system.specs.Body as body
use Rattle.sdl_system.specs.Body.{Body, Parts, Action, AllEnd, Ends, chosen, followed}
use Rattle.sdl_system.specs.Table.{Has, HasParts, Stands, action_of, terminator_of, way_among}
use Rattle.sdl_system.specs.Term.{Term, term_of}
use Rattle.sdl_system.specs.declared.id.NodeId.{NodeId}
use Rattle.sdl_system.specs.declared.statement.Branch.{Branch}
use Rattle.sdl_system.specs.declared.statement.Decision.{Decision}
use Rattle.sdl_system.specs.declared.statement.Node.{Node}
use Rattle.sdl_system.specs.declared.statement.Statement.TheVariants as kind
use Rattle.sdl_system.specs.declared.statement.Way.{Way}

-- the statements behind the labels with which a body begins
abbrev pub unlabelled : Body → Body
unlabelled body.nothing = body.nothing
unlabelled (body.action first rest) = body.action first rest
unlabelled (body.decision question parts rest) = body.decision question parts rest
unlabelled (body.label number rest) = unlabelled rest
unlabelled (body.ending terminator) = body.ending terminator

-- the node has this action, and behind it these statements
pub record Acts (nodes : List Node) (marks : List (Option NodeId)) (node : Node) (first : Action)
    (rest : Body) : Type 0 where
  pub acts : action_of node.statement ≡ Some first
  pub goes_on : Stands nodes marks node.next rest

-- the node has this decision, and behind it these statements
pub record Asks (nodes : List Node) (marks : List (Option NodeId)) (node : Node) (question : Term) (parts : Parts)
    (rest : Body) : Type 0 where
  pub asked : Decision
  pub statement : node.statement ≡ kind.Decision asked
  pub asks : term_of asked.question ≡ question
  pub branches : HasParts nodes marks asked.branches.items asked.otherwise parts node.next
  pub goes_on : Has nodes marks node.next rest None
  pub ends : AllEnd parts ⊎ Ends rest

-- the node is where the body begins
abbrev pub Heads : List Node → List (Option NodeId) → Node → Body → Type 0
Heads nodes marks node body.nothing = ⊥
Heads nodes marks node (body.action first rest) = Acts nodes marks node first rest
Heads nodes marks node (body.decision question parts rest) = Asks nodes marks node question parts rest
Heads nodes marks node (body.label number rest) = ⊥
Heads nodes marks node (body.ending terminator) = terminator_of node.statement ≡ Some terminator

-- Where statements stand to the end of a transition, the node there is where they begin.
abbrev pub OpensPlaces : Type 0
OpensPlaces =
    (nodes : List Node) (marks : List (Option NodeId)) (n : NodeId) (node : Node) → slice_get nodes n.0 ≡ Some node
    → (todo : Body) → Stands nodes marks (Some n) todo → Heads nodes marks node (unlabelled todo)

-- Such a place is one of a node, so that no path runs off the end.
abbrev pub StandsAtNodes : Type 0
StandsAtNodes =
    (nodes : List Node) (marks : List (Option NodeId)) (place : Option NodeId) (todo : Body)
    → Stands nodes marks place todo
    → (n : NodeId) × (place ≡ Some n) × (node : Node) × (slice_get nodes n.0 ≡ Some node)

-- The way that a value takes leads to the part that it chooses, and to what stands behind the decision.
abbrev pub GoesOn : List Node → List (Option NodeId) → Body → Option Way → Option Body → Type 0
GoesOn nodes marks rest None None = Unit {0}
GoesOn nodes marks rest (Some way) (Some part) = Stands nodes marks way.0 (followed part rest)
GoesOn nodes marks rest way part = ⊥

abbrev pub Decides : Type 0
Decides =
    (nodes : List Node) (marks : List (Option NodeId)) (branches : List Branch) (otherwise : Option Way)
    (parts : Parts) (next : Option NodeId) (rest : Body)
    → HasParts nodes marks branches otherwise parts next → Has nodes marks next rest None → AllEnd parts ⊎ Ends rest →
    (value : Value)
    → GoesOn nodes marks rest (way_among value branches otherwise) (chosen value parts)
