use Rattle.std.proofs.Common.{◌∙◌, List, ap, drop, inl, inr, map, refl, sym}
use Rattle.run_order.proofs.member.Member.finish.Goals as goal
use Rattle.run_order.specs.Pending.{behind_first}
use Rattle.run_order.specs.Woven.{acts_of, fits, woven}
use Rattle.run_record.specs.Event.{Event}
use Rattle.serial_run.specs.StepWorld.{effect_of}

pub returns-then-fits-clause-made : goal.returns-then-fits-clause-made
returns-then-fits-clause-made c =
    inr (
      refl,
      record {
        pending = c.in_ok-fits.ensures.filled c.if-fits.true
            ∙ ap (λ (events : List Event). behind_first
            (woven (acts_of (drop c.args.from events)) (map effect_of c.args.effects.now.items)))
            c.trace.ensures.events;
        looked = refl;
      },
    )

pub returns-clause-made : goal.returns-clause-made
returns-clause-made c =
    inl (
      refl,
      ap (λ (events : List Event). fits (acts_of (drop c.args.from events)) (map effect_of c.args.effects.now.items))
          (sym c.trace.ensures.events)
          ∙ sym c.in_ok-fits.ensures.fit ∙ c.if-fits.false,
    )
