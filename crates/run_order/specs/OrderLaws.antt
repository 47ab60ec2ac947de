-- Laws of the order.
use Rattle.std.specs.Prelude.{◌≡◌, ◌==◌, ◌+◌, ◌<◌, ℕ, cond, List, [], ◌∷◌, Some, length, slice_get}
use Rattle.port_model.specs.History.{PortEvent}
use Rattle.port_model.specs.Port.{PortState}
use Rattle.run_record.specs.declared.evaluation.identity.Identity.{Identity}
use Rattle.run_record.specs.declared.evaluation.store.Store.{Store}
use Rattle.run_order.specs.Interleaving.{Happening, Interleaving, tellers_of}
use Rattle.run_order.specs.OrderState.{OrderState, beginning}
use Rattle.run_order.specs.Pending.{all_pending}
use Rattle.run_order.specs.declared.member.Member.{Member}
use Rattle.run_order.specs.declared.pending.Pending.{Pending}
use Rattle.run_order.specs.declared.pending.Pending.TheVariants as pending
use Rattle.run_semantics.specs.ControlPoint.{ControlPoint, Definition}
use Rattle.run_semantics.specs.Effect.{Deed, Effect, Arm, Create, Send, effects_of}
use Rattle.run_semantics.specs.Runs.{Runs}
use Rattle.sdl_script.specs.declared.script.ScriptLine.{ScriptLine}
use Rattle.sdl_system.specs.Behaviour.{Behaviour}
use Rattle.sdl_system.specs.System.{SystemValue}

-- ---- what a step does outside

-- the effects of what is still to be told, in their order
abbrev pub effects_in : List Pending → List Effect
effects_in [] = []
effects_in (pending.Send to target item ∷ rest) = Send target item ∷ effects_in rest
effects_in (pending.Arm fuse ∷ rest) = Arm fuse ∷ effects_in rest
effects_in (pending.Create process number parent values ∷ rest) =
    Create process number parent values ∷ effects_in rest
effects_in (pending.Full process ∷ rest) = effects_in rest
effects_in (pending.End ∷ rest) = effects_in rest
effects_in (pending.Inside ∷ rest) = effects_in rest

-- All that the deeds of a process do outside is still to be done, in their order, and nothing else is.
abbrev pub NothingIsLost : Type 0
NothingIsLost =
    (d : Definition) (who : Identity) (from to : ControlPoint) (s t : Store) (q r : PortState) (deeds : List Deed)
    (history : List PortEvent) → Runs d who from s q deeds history to t r
    → effects_in (all_pending deeds) ≡ effects_of deeds

-- ---- whose events are told

-- how many events are told of the instance of a number; of the number 0, how many lines of the script
abbrev pub told_of : List ℕ → ℕ → ℕ
told_of [] number = 0
told_of (teller ∷ rest) number = cond (teller == number) 1 0 + told_of rest number

-- Of each instance as many events are told as it has, but for those that are still to be told; of others none; and as
-- many lines as were heard.
pub record AreToldOnce (lines : List ScriptLine) (g : OrderState) (tellers : List ℕ) : Type 0 where
  pub instances : (place : ℕ) (m : Member) → slice_get g.members place ≡ Some m
      → told_of tellers (place + 1) + length m.pending ≡ length m.instance.events
  pub others : (number : ℕ) → length g.members < number → told_of tellers number ≡ 0
  pub heard : told_of tellers 0 + length g.script ≡ length lines

abbrev pub EachIsToldOnce : Type 0
EachIsToldOnce =
    (ps : List Behaviour) (system : SystemValue) (lines : List ScriptLine) (happenings : List Happening)
    (g : OrderState) → Interleaving ps (beginning system lines) happenings g
    → AreToldOnce lines g (tellers_of happenings)
