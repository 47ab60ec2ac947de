use Rattle.std.proofs.Common.{◌≡◌, ◌∙◌, ◌++◌, ◌∷◌, [], List, ap, append-nil, drop, map, rules, sym}
use Rattle.run_order.proofs.Weaving.{amiss_told, fit_told, weave_told}
use Rattle.run_order.proofs.outbox.Outbox.weave.Goals as goal
use Rattle.run_order.specs.Woven.{acts_of, fits, woven}
use Rattle.run_record.specs.Event.{Event}
use Rattle.serial_run.specs.StepWorld.{effect_of}

pub loop-told-init : goal.loop-told-init
loop-told-init c =
    let none : c.self.inside.list.items ≡ [] = c.self.view_is ∙ c.requires in
    let read : c.into_iter-told-iterator.result ≡ c.events_from-events.result = search rules in
    let left : c.into_iter-told-iterator.result ≡ drop c.args.from c.args.trace.now.events =
    read ∙ c.events_from-events.ensures in
    record {
      filled = λ k. none k ++ woven (acts_of (left k)) (map effect_of c.args.effects.now.items);
      fit = λ k. fits (acts_of (left k)) (map effect_of c.args.effects.now.items);
    }

pub loop-told-preserved : goal.loop-told-preserved
loop-told-preserved c =
    let pushed : c.push_back.new.self.items
    ≡ c.loop-told.self-inside.list.items ++ c.in-Some-next_pending.next ∷ [] = search rules in
    record {
      filled = rw pushed
          (weave_told _ _ _ _ _ _ _ _ _ c.in-Some.ensures.steps (c.of.ensures _) c.in-Some-next_pending.ensures.goes
          c.loop-told.invariant.filled);
      fit = fit_told _ _ _ _ _ _ _ c.in-Some.ensures.steps (c.of.ensures _) c.in-Some-next_pending.ensures.fit
          c.loop-told.invariant.fit;
    }

pub returns-in_default-clause-fit : goal.returns-in_default-clause-fit
returns-in_default-clause-fit c =
    amiss_told _ _ _ _ _ _ c.in-Some.ensures.steps (c.of.ensures _) c.in_default.ensures c.loop-told.invariant.fit

pub returns-clause-fit : goal.returns-clause-fit
returns-clause-fit c =
    sym (ap (λ (xs : List Event). fits (acts_of xs) (map effect_of c.loop-told.effects.items))
    c.in-None.ensures.steps.0)
    ∙ c.loop-told.invariant.fit

pub returns-clause-filled : goal.returns-clause-filled
returns-clause-filled c = λ yes.
    let list = c.loop-told.self-inside.list.items in
    sym (append-nil list)
    ∙ ap (λ (xs : List Event). list ++ woven (acts_of xs) (map effect_of c.loop-told.effects.items))
    (sym c.in-None.ensures.steps.0)
    ∙ c.loop-told.invariant.filled
