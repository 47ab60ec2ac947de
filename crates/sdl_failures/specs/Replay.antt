-- A replay of a record, and its steps.
use Rattle.std.specs.Prelude.{◌≡◌, ◌∷◌, ℕ, List, Option, Some}
use Rattle.run_record.specs.Variables.{VariableList}
use Rattle.run_record.specs.Event as event
use Rattle.run_record.specs.Event.{Event}
use Rattle.run_record.specs.declared.failure.Failure.{Failure}
use Rattle.sdl_system.specs.declared.id.NodeId.{NodeId}
use Rattle.sdl_system.specs.declared.id.ProcessId.{ProcessId}
use Rattle.sdl_system.specs.declared.statement.Creation.{Creation}
use Rattle.sdl_system.specs.declared.statement.Statement.TheVariants as kind
use Rattle.sdl_failures.specs.Came.{Came, IsNode}
use Rattle.sdl_failures.specs.Stands.{ComesAt}
use Rattle.sdl_failures.specs.declared.replayed.halt.Halt.{Halt}
use Rattle.sdl_failures.specs.declared.replayed.replay.Replay.{Replay}
use Rattle.sdl_failures.specs.declared.replayed.spot.Spot.TheVariants.{At}

-- it has come where it is, by all these events
abbrev pub HasCome : VariableList → List Event → Replay → Type 0
HasCome variables all r = Came r.system.now r.process.now r.who variables all r.spot r.known r.left.left

-- it is of the same instance
pub record IsSame (old new : Replay) : Type 0 where
  pub system : new.system.now ≡ old.system.now
  pub process : new.process.now ≡ old.process.now
  pub who : new.who ≡ old.who

-- it goes on from where it was
pub record Follows (old new : Replay) : Type 0 where
  pub same : IsSame old new
  pub comes : (variables : VariableList) (all : List Event) → HasCome variables all old → HasCome variables all new

-- whatever it began with, its failure comes here
abbrev pub StopsAt : Replay → Halt → Failure → Type 0
StopsAt r halt why =
    (variables : VariableList) (all : List Event) → HasCome variables all r
    → ComesAt r.system.now r.process.now r.who variables all halt r.known why

-- it comes there on its way from where it was
pub record StopsAsOf (old new : Replay) (halt : Halt) (why : Failure) : Type 0 where
  pub follows : Follows old new
  pub stops : StopsAt new halt why

-- it stands at a create, of which the next event is that it creates the instance of this number
pub record IsAtCreate (r : Replay) (creation : Creation) (created : ProcessId) (number : ℕ) : Type 0 where
  pub node : NodeId
  pub spot : r.spot ≡ At node 0
  pub next : Option NodeId
  pub is : IsNode r.process.now node (kind.Create creation) next
  pub same : creation.process ≡ created
  pub later : List Event
  pub told : r.left.left ≡ event.Create created (Some number) ∷ later
