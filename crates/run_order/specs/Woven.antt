-- The events of a step and its effects, as two lists.
use Rattle.std.specs.Prelude.{◌≡◌, Bool, true, false, List, [], ◌∷◌, None, Option, Some, map}
use Rattle.run_record.specs.Event as event
use Rattle.run_record.specs.Event.{Event}
use Rattle.run_semantics.specs.Effect.{Effect, Arm, Create, Send}
use Rattle.run_order.specs.declared.act.Act.{Act}
use Rattle.run_order.specs.declared.act.Act.TheVariants as act
use Rattle.run_order.specs.declared.pending.Pending.{Pending}
use Rattle.run_order.specs.declared.pending.Pending.TheVariants as pending

-- what an event is to those outside of its instance
abbrev pub act_of : Event → Act
act_of (event.Output signal to values target) = act.Send to
act_of (event.Set key due) = act.Arm
act_of (event.Create process (Some number)) = act.Create
act_of (event.Create process None) = act.Full process
act_of event.Stop = act.End
act_of (event.Failed why) = act.End
act_of (event.FailedAt at why) = act.End
act_of happened = act.Inside

abbrev pub acts_of : List Event → List Act
acts_of events = map act_of events

-- Each act with its effect: an output, a set and a create that made an instance have one, in this order.
abbrev pub woven : List Act → List Effect → List Pending
woven [] effects = []
woven (act.Send to ∷ acts) (Send target item ∷ effects) = pending.Send to target item ∷ woven acts effects
woven (act.Arm ∷ acts) (Arm fuse ∷ effects) = pending.Arm fuse ∷ woven acts effects
woven (act.Create ∷ acts) (Create process number parent values ∷ effects) =
    pending.Create process number parent values ∷ woven acts effects
woven (act.Full process ∷ acts) effects = pending.Full process ∷ woven acts effects
woven (act.End ∷ acts) effects = pending.End ∷ woven acts effects
woven (other ∷ acts) effects = pending.Inside ∷ woven acts effects

-- Whether these are effects of the acts: an output, a set and a create that made an instance have their own, in this
-- order.
abbrev pub fits : List Act → List Effect → Bool
fits [] effects = true
fits (act.Send to ∷ acts) (Send target item ∷ effects) = fits acts effects
fits (act.Send to ∷ acts) effects = false
fits (act.Arm ∷ acts) (Arm fuse ∷ effects) = fits acts effects
fits (act.Arm ∷ acts) effects = false
fits (act.Create ∷ acts) (Create process number parent values ∷ effects) = fits acts effects
fits (act.Create ∷ acts) effects = false
fits (act.Full process ∷ acts) effects = fits acts effects
fits (act.End ∷ acts) effects = fits acts effects
fits (act.Inside ∷ acts) effects = fits acts effects

-- ---- one act more

-- the act has this effect, so this is what it has still to do; or another act has it
pub record IsOwnOf (one : Act) (effect : Effect) (next : Pending) : Type 0 where
  pub goes : (acts : List Act) (effects : List Effect)
      → woven (one ∷ acts) (effect ∷ effects) ≡ next ∷ woven acts effects
  pub fit : (acts : List Act) (effects : List Effect) → fits (one ∷ acts) (effect ∷ effects) ≡ fits acts effects

abbrev pub IsOwn : Act → Effect → Option Pending → Type 0
IsOwn one effect None = (acts : List Act) (effects : List Effect) → fits (one ∷ acts) (effect ∷ effects) ≡ false
IsOwn one effect (Some next) = IsOwnOf one effect next

-- of these effects the act has its own, if it has any, and leaves those; or the first one is not its own
pub record IsNextOf (one : Act) (old : List Effect) (next : Pending) (new : List Effect) : Type 0 where
  pub goes : (acts : List Act) → woven (one ∷ acts) old ≡ next ∷ woven acts new
  pub fit : (acts : List Act) → fits (one ∷ acts) old ≡ fits acts new

abbrev pub IsNextPending : Act → List Effect → Option Pending → List Effect → Type 0
IsNextPending one old None new = (acts : List Act) → fits (one ∷ acts) old ≡ false
IsNextPending one old (Some next) new = IsNextOf one old next new

-- whether nothing is done outside
abbrev pub is_inside : Pending → Bool
is_inside pending.Inside = true
is_inside other = false
