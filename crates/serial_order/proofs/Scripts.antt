-- The lines of the script are heard in their order.
use Rattle.std.proofs.Common.{◌≡◌, ◌∙◌, ◌++◌, ap, append-nil, append_assoc, if◌then◌else◌, refl, sym, ℕ, Bool, true, false, List, [], ◌∷◌, nat_le}
use Rattle.serial_order.specs.Execution.{Execution, Expired, Follows, Happening, Heard, Moved, Ticked, begins, goes}
use Rattle.serial_order.specs.RunState.{RunState, after_effect, after_effects, beginning, change_at, with_expiry, with_instance}
use Rattle.serial_order.specs.Laws.{LinesAreHeard}
use Rattle.serial_order.specs.Told.{lines_of, lines_of_one}
use Rattle.run_semantics.specs.Effect.{Effect, Arm, Create, Send, effects_of}
use Rattle.sdl_script.specs.declared.script.ScriptLine.{ScriptLine}
use Rattle.sdl_system.specs.Behaviour.{Behaviour}
use Rattle.sdl_system.specs.System.{SystemValue}
use Rattle.sdl_system.specs.declared.route.Target.TheVariants.{Env, Instance, Nobody, Null}
use Rattle.sdl_timers.specs.DueOrder.{with_fuse}

-- an act leaves the script as it is
effect_script : (g : RunState) (effect : Effect) → (after_effect g effect).script ≡ g.script
effect_script g (Send (Instance number) item) = refl
effect_script g (Send Env item) = refl
effect_script g (Send Null item) = refl
effect_script g (Send Nobody item) = refl
effect_script g (Arm fuse) =
    by_test (nat_le fuse.due g.clock)
    (record g { instances = change_at (with_expiry fuse g.clock) g.instances fuse.pid })
    (record g { fuses = with_fuse fuse g.fuses }) refl refl where
      by_test : (b : Bool) (now later : RunState) → now.script ≡ g.script → later.script ≡ g.script
          → (if b then now else later).script ≡ g.script
      by_test true now later first second = first
      by_test false now later first second = second
effect_script g (Create id number parent values) = refl

pub effects_script : (g : RunState) (done : List Effect) → (after_effects g done).script ≡ g.script
effects_script g [] = refl
effects_script g (effect ∷ rest) = effects_script (after_effect g effect) rest ∙ effect_script g effect

-- what is left is the rest
pub script_goes : (ps : List Behaviour) (last : ℕ) (g : RunState) (next : Happening) (h : RunState)
    → Follows ps last g next h → lines_of_one next ++ h.script ≡ g.script
script_goes ps last g (Moved who deeds) h step =
    ap (λ (g : RunState). g.script) step.now
    ∙ effects_script (record g {
      instances = with_instance g.instances who.pid step.new;
      turn = who.pid;
      bound = step.bound;
    }) (effects_of deeds)
script_goes ps last g (Expired fuse) h expires = ap (λ (g : RunState). g.script) expires.now
script_goes ps last g (Heard line done) h hear =
    ap (λ (g : RunState). line ∷ g.script) hear.now
    ∙ ap (λ (list : List ScriptLine). line ∷ list) (effects_script (record g { script = hear.later }) done)
    ∙ sym hear.next
script_goes ps last g (Ticked time) h tick = ap (λ (g : RunState). g.script) tick.now

lines_of-append : (happenings : List Happening) (next : Happening)
    → lines_of (happenings ++ next ∷ []) ≡ lines_of happenings ++ lines_of_one next
lines_of-append [] next = append-nil (lines_of_one next)
lines_of-append (first ∷ rest) next =
    ap (λ (lines : List ScriptLine). lines_of_one first ++ lines) (lines_of-append rest next)
    ∙ sym (append_assoc (lines_of_one first) (lines_of rest) (lines_of_one next))

module _ (ps : List Behaviour) (system : SystemValue) (lines : List ScriptLine) (time : ℕ) where
  are_heard : {happenings : List Happening} {last : RunState} → Execution ps time (beginning system lines) happenings last
      → lines_of happenings ++ last.script ≡ lines
  are_heard begins = refl
  are_heard (goes {happenings = happenings} {at = at} execution next to follows) =
      ap (λ (lines : List ScriptLine). lines ++ to.script) (lines_of-append happenings next)
      ∙ append_assoc (lines_of happenings) (lines_of_one next) to.script
      ∙ ap (λ (lines : List ScriptLine). lines_of happenings ++ lines) (script_goes ps time at next to follows)
      ∙ are_heard execution

-- the lines of the script are heard in their order
pub lines_are_heard : LinesAreHeard
lines_are_heard ps system lines time happenings last behaviours execution = are_heard ps system lines time execution
