-- The parts of a statement.
use Rattle.std.specs.Prelude.{◌≡◌, ℕ, List, Option, None, Some, length, slice_get}
use Rattle.run_record.specs.Event.{Event}
use Rattle.run_record.specs.Event as event
use Rattle.sdl_system.specs.declared.statement.Assignment.{Assignment}
use Rattle.sdl_system.specs.declared.statement.Creation.{Creation}
use Rattle.sdl_system.specs.declared.statement.Output.{Output}
use Rattle.sdl_system.specs.declared.statement.Sending.{Sending}
use Rattle.sdl_system.specs.declared.statement.Setting.{Setting}
use Rattle.sdl_system.specs.declared.statement.Statement.{Statement}
use Rattle.sdl_system.specs.declared.statement.Statement.TheVariants as kind
use Rattle.sdl_system.specs.declared.statement.TimerUse.{TimerUse}

-- So many parts has a statement, and each makes an event of its own. A decision and what ends a transition have none.
abbrev pub parts_of : Statement → Option ℕ
parts_of (kind.Task list) = Some (length list.items)
parts_of (kind.Output output) = Some (length output.signals.items)
parts_of (kind.Set list) = Some (length list.items)
parts_of (kind.Reset list) = Some (length list.items)
parts_of (kind.Create creation) = Some 1
parts_of (kind.Join label) = Some 0
parts_of other = None

-- the list has a part of this number, of which this holds
pub record HasPart {A : Type 0} (list : List A) (part : ℕ) (Holds : A → Type 0) : Type 0 where
  pub one : A
  pub is : slice_get list part ≡ Some one
  pub holds : Holds one

-- ---- the event of a part: it names the same variable, signal, timer or process

abbrev pub DoesTask : List Assignment → ℕ → Event → Type 0
DoesTask list part (event.Task variable value) =
    HasPart list part (λ (one : Assignment). one.variable.0 ≡ variable.0)
DoesTask list part happened = ⊥

abbrev pub DoesOutput : Output → ℕ → Event → Type 0
DoesOutput output part (event.Output signal to values target) =
    HasPart output.signals.items part (λ (one : Sending). one.signal.0 ≡ signal.0)
DoesOutput output part happened = ⊥

abbrev pub DoesSet : List Setting → ℕ → Event → Type 0
DoesSet list part (event.Set key due) = HasPart list part (λ (one : Setting). one.timer.timer.0 ≡ key.name.0)
DoesSet list part happened = ⊥

abbrev pub DoesReset : List TimerUse → ℕ → Event → Type 0
DoesReset list part (event.Reset key) = HasPart list part (λ (one : TimerUse). one.timer.0 ≡ key.name.0)
DoesReset list part happened = ⊥

abbrev pub DoesCreate : Creation → ℕ → Event → Type 0
DoesCreate creation part (event.Create process number) = (part ≡ 0) × (creation.process.0 ≡ process.0)
DoesCreate creation part happened = ⊥

abbrev pub DoesPart : Statement → ℕ → Event → Type 0
DoesPart (kind.Task list) part happened = DoesTask list.items part happened
DoesPart (kind.Output output) part happened = DoesOutput output part happened
DoesPart (kind.Set list) part happened = DoesSet list.items part happened
DoesPart (kind.Reset list) part happened = DoesReset list.items part happened
DoesPart (kind.Create creation) part happened = DoesCreate creation part happened
DoesPart other part happened = ⊥
