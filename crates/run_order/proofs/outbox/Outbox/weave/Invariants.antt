use Rattle.std.proofs.Common.{◌≡◌, ◌++◌, drop, map}
use Rattle.run_order.specs.Woven.{acts_of, fits, woven}
use Rattle.run_order.proofs.outbox.Outbox.weave.Given as goal
use Rattle.serial_run.specs.StepWorld.{effect_of}

-- what is there, with what the events and the effects that are left have to do, is all; and these fit where all do
abbrev pub invariant-loop-told : goal.invariant-loop-told
invariant-loop-told l = record {
  filled : l.self-inside.list.items ++ woven (acts_of l.told-iterator) (map effect_of l.effects.items)
      ≡ woven (acts_of (drop l.from l.trace.events)) (map effect_of l.fn.effects.items);
  fit : fits (acts_of l.told-iterator) (map effect_of l.effects.items)
      ≡ fits (acts_of (drop l.from l.trace.events)) (map effect_of l.fn.effects.items);
}
