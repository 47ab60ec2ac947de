use Rattle.std.proofs.Common.{sym, arith}
use Rattle.std.proofs.lemmas.Map.Views.{All-remove_key}
use Rattle.port_model.specs.Places.{IsNamed}
use Rattle.port_model.proofs.PlaceLemmas.{named_gone, timer_gone}
use Rattle.port_model.proofs.places.Places.forget.Goals as goal

pub invariant_of-self : goal.invariant_of-self
invariant_of-self c = rw c.remove.ensures.keys (All-remove_key _ IsNamed _ c.self.invariant)

pub invariant_of-self-in_default : goal.invariant_of-self-in_default
invariant_of-self-in_default c = rw c.remove.ensures.keys (All-remove_key _ IsNamed _ c.self.invariant)

pub returns-in-Timer : goal.returns-in-Timer
returns-in-Timer c =
    rw (sym c.self.view_is) (record {
      names = λ q. named_gone c.name.result c.args.got.now c.args.place q _ c.name.ensures (c.remove.ensures.updates.0 q);
      timers = λ key. timer_gone c.in-Timer.key c.args.got.now key _ c.in-Timer.is (c.remove-in-Timer.ensures.updates.0 key);
    })

pub returns-in_default : goal.returns-in_default
returns-in_default c =
    rw (sym c.self.view_is) (record {
      names = λ q. named_gone c.name.result c.args.got.now c.args.place q _ c.name.ensures (c.remove.ensures.updates.0 q);
      timers = λ key. let is = c.in_default.is in grind arith;
    })
