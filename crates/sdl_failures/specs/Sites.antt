-- Which site of a text a statement of the system can be.
use Rattle.std.specs.Prelude.{◌≡◌, Some, length, slice_get}
use Rattle.sdl_failures.specs.declared.located.site.Site.TheVariants as site
use Rattle.sdl_failures.specs.declared.located.site.Site.{Site}
use Rattle.sdl_system.specs.declared.id.NodeId.{NodeId}
use Rattle.sdl_system.specs.declared.process.Process.{Process}
use Rattle.sdl_system.specs.declared.statement.Node.{Node}
use Rattle.sdl_system.specs.declared.statement.Statement.TheVariants as kind
use Rattle.sdl_system.specs.declared.statement.Statement.{Statement}
use Rattle.sdl_tree.specs.declared.behaviour.Action as action
use Rattle.sdl_tree.specs.declared.behaviour.Action.{Decision'}
use Rattle.sdl_tree.specs.declared.behaviour.NextState.TheVariants as next
use Rattle.sdl_tree.specs.declared.behaviour.Terminator.TheVariants as ending
use Rattle.sdl_tree.specs.declared.behaviour.Terminator.{Terminator}

-- what ends a transition has the kind of the statement
abbrev pub EndHasKind : Terminator → Statement → Type 0
EndHasKind (ending.NextState word (next.Same dash)) kind.SameState = Unit {0}
EndHasKind (ending.NextState word (next.Named name)) (kind.NextState state) = Unit {0}
EndHasKind (ending.Stop word) kind.Stop = Unit {0}
EndHasKind (ending.Join word label) (kind.Join number) = Unit {0}
EndHasKind end statement = ⊥

-- so has an action
abbrev pub ActionHasKind : action.Action → Statement → Type 0
ActionHasKind (action.Task word assignments) (kind.Task list) = length assignments.items ≡ length list.items
ActionHasKind (action.Output word outputs to) (kind.Output output) = length outputs.items ≡ length output.signals.items
ActionHasKind (action.Set word clauses) (kind.Set list) = length clauses.items ≡ length list.items
ActionHasKind (action.Reset word groups) (kind.Reset list) = Unit {0}
ActionHasKind (action.Create word process) (kind.Create creation) = Unit {0}
ActionHasKind (Decision' word question shape parts otherwise) (kind.Decision asked) = Unit {0}
ActionHasKind found statement = ⊥

-- the site has the kind of the statement, and a task, an output and a set have so many parts
abbrev pub HasKind : Site → Statement → Type 0
HasKind (site.Action found) statement = ActionHasKind found.now statement
HasKind (site.End end) statement = EndHasKind end.now statement

-- the site is one that the statement of this node can be
pub record IsSiteOf (process : Process) (number : NodeId) (found : Site) : Type 0 where
  pub node : Node
  pub is : slice_get process.nodes.items number.0 ≡ Some node
  pub kind : HasKind found node.statement
