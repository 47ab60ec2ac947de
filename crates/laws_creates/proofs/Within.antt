-- The clock is not past the last line of the script.
use Rattle.std.proofs.Common.{◌≡◌, ◌-◌, ◌≤◌, ap, arith, if◌then◌else◌, min, refl, subst, sym, ℕ, Bool, true, false, All, List, [], ◌∷◌, None, Option, Some, length, nat_le, slice_get, slice_index_or}
use Rattle.std.proofs.lemmas.List.Elements.{All-head, All-tail}
use Rattle.std.proofs.lemmas.Option.{slice_get-get_or}
use Rattle.std.specs.List.Sorted.{IsNonDecreasingBy}
use Rattle.std.specs.Option.{option_map_or}
use Rattle.port_model.specs.Timers.{earlier}
use Rattle.serial_order.specs.Execution.{Execution, Expired, Follows, Happening, Heard, Moved, Ticked, begins, goes, next_line}
use Rattle.serial_order.specs.RunState.{RunState, after_effect, after_effects, beginning, change_at, with_expiry, with_instance}
use Rattle.run_semantics.specs.Effect.{Effect, Arm, Create, Send, effects_of}
use Rattle.sdl_script.specs.Script.{end_of}
use Rattle.sdl_script.specs.declared.script.ScriptLine.{ScriptLine}
use Rattle.sdl_system.specs.Behaviour.{Behaviour}
use Rattle.sdl_system.specs.System.{SystemValue}
use Rattle.sdl_system.specs.declared.route.Target.TheVariants.{Env, Instance, Nobody, Null}
use Rattle.sdl_timers.specs.DueOrder.{with_fuse}

-- neither the clock nor what is left of the script is past this
pub record IsWithin (last : ℕ) (g : RunState) : Type 0 where
  pub clock : g.clock ≤ last
  pub lines : All (λ (line : ScriptLine). line.at ≤ last) g.script

effect_within : (last : ℕ) (g : RunState) (effect : Effect) → IsWithin last g → IsWithin last (after_effect g effect)
effect_within last g (Send (Instance number) item) within = record { clock = within.clock; lines = within.lines }
effect_within last g (Send Env item) within = within
effect_within last g (Send Null item) within = within
effect_within last g (Send Nobody item) within = within
effect_within last g (Arm fuse) within =
    by_test (nat_le fuse.due g.clock)
    (record g { instances = change_at (with_expiry fuse g.clock) g.instances fuse.pid })
    (record g { fuses = with_fuse fuse g.fuses }) (record { clock = within.clock; lines = within.lines })
    (record { clock = within.clock; lines = within.lines }) where
      by_test : (b : Bool) (now later : RunState) → IsWithin last now → IsWithin last later
          → IsWithin last (if b then now else later)
      by_test true now later first second = first
      by_test false now later first second = second
effect_within last g (Create id number parent values) within = record { clock = within.clock; lines = within.lines }

effects_within : (last : ℕ) (g : RunState) (done : List Effect) → IsWithin last g → IsWithin last (after_effects g done)
effects_within last g [] within = within
effects_within last g (effect ∷ rest) within = effects_within last (after_effect g effect) rest (effect_within last g effect within)

sooner : (due : Option ℕ) (at time : ℕ) → earlier due (Some at) ≡ Some time → time ≤ at
sooner None at time is = let same : at ≡ time = cc in omega (arith, same)
sooner (Some one) at time is = let same : min one at ≡ time = cc in omega (arith, same)

module _ (ps : List Behaviour) (last : ℕ) where
  tick_time : (script : List ScriptLine) (due : Option ℕ) (time : ℕ) → earlier due (next_line script) ≡ Some time
      → (script ≡ [] → time ≤ last) → All (λ (line : ScriptLine). line.at ≤ last) script → time ≤ last
  tick_time [] due time is within all = within refl
  tick_time (line ∷ later) due time is within all =
      let before : time ≤ line.at = sooner due line.at time is in
      let bound : line.at ≤ last = All-head (λ (l : ScriptLine). l.at ≤ last) line later all in
      omega (arith, before, bound)

  next_within : (g : RunState) (next : Happening) (h : RunState) → Follows ps last g next h → IsWithin last g
      → IsWithin last h
  next_within g (Moved who deeds) h step within =
      subst (λ (g : RunState). IsWithin last g) (sym step.now)
      (effects_within last
      (record g { instances = with_instance g.instances who.pid step.new; turn = who.pid; bound = step.bound })
      (effects_of deeds) (record { clock = within.clock; lines = within.lines }))
  next_within g (Expired fuse) h expires within =
      subst (λ (g : RunState). IsWithin last g) (sym expires.now) (record { clock = within.clock; lines = within.lines })
  next_within g (Heard line done) h hear within =
      subst (λ (g : RunState). IsWithin last g) (sym hear.now)
      (effects_within last (record g { script = hear.later }) done (record {
        clock = within.clock;
        lines = All-tail (λ (l : ScriptLine). l.at ≤ last) line hear.later
            (subst (λ (lines : List ScriptLine). All (λ (l : ScriptLine). l.at ≤ last) lines) hear.next within.lines);
      }))
  next_within g (Ticked time) h tick within =
      subst (λ (g : RunState). IsWithin last g) (sym tick.now)
      (record { clock = tick_time g.script tick.due time tick.is_next tick.within within.lines; lines = within.lines })

  pub all_within : {system : SystemValue} {lines : List ScriptLine} {happenings : List Happening} {end : RunState}
      → All (λ (line : ScriptLine). line.at ≤ last) lines → Execution ps last (beginning system lines) happenings end
      → IsWithin last end
  all_within lines begins = record { clock = omega arith; lines = lines }
  all_within lines (goes {at = at} execution next to follows) = next_within at next to follows (all_within lines execution)

-- lines in order are not past the last one
pub lines_within : (lines : List ScriptLine) → IsNonDecreasingBy (λ (line : ScriptLine). line.at) lines
    → All (λ (line : ScriptLine). line.at ≤ end_of lines) lines
lines_within lines in_order k d below =
    let before : (slice_index_or lines k d).at ≤ (slice_index_or lines (length lines - 1) d).at =
    in_order k (length lines - 1) d (omega (arith, below)) (omega (arith, below)) in
    let at_end : slice_get lines (length lines - 1) ≡ Some (slice_index_or lines (length lines - 1) d) =
    slice_get-get_or lines (length lines - 1) d (omega (arith, below)) in
    let is : end_of lines ≡ (slice_index_or lines (length lines - 1) d).at =
    ap (λ o. option_map_or (λ (line : ScriptLine). line.at) o 0) at_end in
    subst (λ n. (slice_index_or lines k d).at ≤ n) (sym is) before
