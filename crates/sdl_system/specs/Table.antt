-- What a table of nodes stands for: from a place on it has the statements of a body.
use Rattle.std.specs.Prelude.{◌≡◌, ℕ, List, [], ◌∷◌, Option, None, Some, map, slice_get, if◌then◌else◌}
use Rattle.std.specs.Option.{option_map}
use Rattle.port_model.specs.declared.values.value.Value.{Value}
use Rattle.sdl_system.specs.Answer.{meets_one}
use Rattle.sdl_system.specs.Body.{Body, Parts, Action, Terminator, Assigning, Whither, Timing, When, FromLabel, Ends}
use Rattle.sdl_system.specs.Body as body
use Rattle.sdl_system.specs.Term.{Term, term_of}
use Rattle.sdl_system.specs.declared.id.LabelId.{LabelId}
use Rattle.sdl_system.specs.declared.id.NodeId.{NodeId}
use Rattle.sdl_system.specs.declared.statement.Assignment.{Assignment}
use Rattle.sdl_system.specs.declared.statement.Branch.{Branch}
use Rattle.sdl_system.specs.declared.statement.Decision.{Decision}
use Rattle.sdl_system.specs.declared.statement.Destination as destination
use Rattle.sdl_system.specs.declared.statement.Destination.TheVariants as whither
use Rattle.sdl_system.specs.declared.statement.Due as due
use Rattle.sdl_system.specs.declared.statement.Due.TheVariants as when
use Rattle.sdl_system.specs.declared.statement.Node.{Node}
use Rattle.sdl_system.specs.declared.statement.Sending as sent
use Rattle.sdl_system.specs.declared.statement.Setting as set
use Rattle.sdl_system.specs.declared.statement.Statement.{Statement}
use Rattle.sdl_system.specs.declared.statement.Statement.TheVariants as kind
use Rattle.sdl_system.specs.declared.statement.TimerUse.{TimerUse}
use Rattle.sdl_system.specs.declared.statement.Way.{Way}

-- ---- statements as plain data

abbrev pub assigning : Assignment → Assigning
assigning a = record { variable = a.variable; value = term_of a.value }

abbrev pub sending : sent.Sending → body.Sending
sending s = record { signal = s.signal; values = map term_of s.values.items }

abbrev pub whither_of : destination.Destination → Whither
whither_of (whither.Process process) = body.to_process process
whither_of (whither.Pid value) = body.to_pid (term_of value)

abbrev pub timing : TimerUse → Timing
timing t = record { timer = t.timer; values = map term_of t.values.items }

abbrev pub when_due : due.Due → When
when_due (when.At time) = body.at (term_of time)
when_due (when.After ticks) = body.after ticks

abbrev pub setting : set.Setting → body.Setting
setting s = record { timer = timing s.timer; due = when_due s.due }

-- the action of a statement, where it is one
abbrev pub action_of : Statement → Option Action
action_of (kind.Task list) = Some (body.task (map assigning list.items))
action_of (kind.Output sends) = Some (body.output (map sending sends.signals.items) (option_map whither_of sends.to))
action_of (kind.Set list) = Some (body.set (map setting list.items))
action_of (kind.Reset list) = Some (body.reset (map timing list.items))
action_of (kind.Create creation) = Some (body.create creation.process (map term_of creation.values.items))
action_of other = None

-- the terminator of a statement, where it is one
abbrev pub terminator_of : Statement → Option Terminator
terminator_of (kind.Join label) = Some (body.join label)
terminator_of (kind.NextState state) = Some (body.to_state state)
terminator_of kind.SameState = Some body.to_same
terminator_of kind.Stop = Some body.stop
terminator_of other = None

-- the way that a value takes among these branches: that of the first with an answer which it meets
abbrev pub way_among : Value → List Branch → Option Way → Option Way
way_among value [] otherwise = otherwise
way_among value (branch ∷ rest) otherwise =
    if meets_one value branch.answers.items then Some branch.way else way_among value rest otherwise

abbrev pub way_of : Decision → Value → Option Way
way_of asked value = way_among value asked.branches.items asked.otherwise

-- ---- segments

-- at the place stands this statement, and the flow goes on at `next`
pub record At (nodes : List Node) (place : Option NodeId) (statement : Statement) (next : Option NodeId) : Type 0 where
  pub node : NodeId
  pub here : place ≡ Some node
  pub stands : slice_get nodes node.0 ≡ Some (record { statement = statement; next = next })

-- at the place stands a statement with this action
pub record ActsAt (nodes : List Node) (place : Option NodeId) (action : Action) (next : Option NodeId) : Type 0 where
  pub statement : Statement
  pub at : At nodes place statement next
  pub acts : action_of statement ≡ Some action

-- at the place stands a statement with this terminator
pub record EndsAt (nodes : List Node) (place : Option NodeId) (terminator : Terminator) : Type 0 where
  pub statement : Statement
  pub next : Option NodeId
  pub at : At nodes place statement next
  pub ends : terminator_of statement ≡ Some terminator

-- at the place stands a decision on this question
pub record AsksAt (nodes : List Node) (place : Option NodeId) (asked : Decision) (question : Term)
    (next : Option NodeId) : Type 0 where
  pub at : At nodes place (kind.Decision asked) next
  pub asks : term_of asked.question ≡ question

-- the label's statements begin at the place, which is a node
pub record MarkedAt (marks : List (Option NodeId)) (label : LabelId) (place : Option NodeId) : Type 0 where
  pub node : NodeId
  pub here : place ≡ Some node
  pub marked : slice_get marks label.0 ≡ Some (Some node)

-- From the place on the table has these statements, and then goes on at `to`. A label is a place and no node, and so is
-- the end of a decision.
abbrev mutual
  pub Has : List Node → List (Option NodeId) → Option NodeId → Body → Option NodeId → Type 0
  Has nodes marks from body.nothing to = from ≡ to
  Has nodes marks from (body.action first rest) to =
      (next : Option NodeId) × ActsAt nodes from first next × Has nodes marks next rest to
  Has nodes marks from (body.decision question parts rest) to =
      (asked : Decision) × (next : Option NodeId) × AsksAt nodes from asked question next
      × HasParts nodes marks asked.branches.items asked.otherwise parts next × Has nodes marks next rest to
  Has nodes marks from (body.label number rest) to = MarkedAt marks number from × Has nodes marks from rest to
  Has nodes marks from (body.ending terminator) to = EndsAt nodes from terminator

  -- the branches of a decision have its parts; a part without an end of its own goes on at `next`
  pub HasParts : List Node → List (Option NodeId) → List Branch → Option Way → Parts → Option NodeId → Type 0
  HasParts nodes marks branches otherwise body.no_part next = (branches ≡ []) × (otherwise ≡ None)
  HasParts nodes marks branches otherwise (body.otherwise b) next =
      (way : Way) × (branches ≡ []) × (otherwise ≡ Some way) × Has nodes marks way.0 b next
  HasParts nodes marks [] otherwise (body.part answers b rest) next = ⊥
  HasParts nodes marks (first ∷ others) otherwise (body.part answers b rest) next =
      (first.answers.items ≡ answers) × Has nodes marks first.way.0 b next
      × HasParts nodes marks others otherwise rest next

-- a place at which these statements stand to the end of a transition
pub record Stands (nodes : List Node) (marks : List (Option NodeId)) (place : Option NodeId)
    (todo : Body) : Type 0 where
  pub has : Has nodes marks place todo None
  pub ends : Ends todo

-- ---- a process

-- what stands from a label on in one of the bodies of a process
pub record LabelOf (bodies : List Body) (l : LabelId) (on : Body) : Type 0 where
  pub number : ℕ
  pub whole : Body
  pub body : slice_get bodies number ≡ Some whole
  pub from : FromLabel l whole on

-- what a join leads to: the statements from its label on stand at the place
pub record Joined (bodies : List Body) (nodes : List Node) (marks : List (Option NodeId)) (l : LabelId)
    (place : Option NodeId) : Type 0 where
  pub on : Body
  pub label : LabelOf bodies l on
  pub stands : Stands nodes marks place on

-- the body begins at this node
pub record BeginsAt (nodes : List Node) (marks : List (Option NodeId)) (entries : List NodeId) (number : ℕ)
    (whole : Body) : Type 0 where
  pub entry : NodeId
  pub listed : slice_get entries number ≡ Some entry
  pub stands : Stands nodes marks (Some entry) whole

-- The table is that of the bodies of a process: each body stands at its entry, and each join leads to what stands from
-- its label on.
pub record IsTableOf (bodies : List Body) (entries : List NodeId) (nodes : List Node) : Type 0 where
  pub marks : List (Option NodeId)
  pub begins : (number : ℕ) (whole : Body) → slice_get bodies number ≡ Some whole
      → BeginsAt nodes marks entries number whole
  pub joins : (place next : Option NodeId) (l : LabelId) → At nodes place (kind.Join l) next
      → Joined bodies nodes marks l next
