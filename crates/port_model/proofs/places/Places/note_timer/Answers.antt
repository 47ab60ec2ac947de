use Rattle.std.proofs.Common.{sym, ap, ◌∙◌}
use Rattle.port_model.proofs.PlaceLemmas.{absent_timer, timer_more}
use Rattle.port_model.specs.declared.got.Got.TheVariants.{Timer}
use Rattle.port_model.proofs.places.Places.note_timer.Goals as goal

pub returns-clause-noted : goal.returns-clause-noted
returns-clause-noted c =
    λ _. rw (sym c.self.view_is) (record {
      timers = λ k. timer_more c.in-Ok.key c.args.got.now c.args.place k _ (c.in-Timer.is ∙ ap Timer (sym c.in-Ok.ensures.ok)) (c.in_default-insert.ensures.updates.0 k);
      absent = absent_timer c.in-Timer.key c.args.got.now c.self.inside.timers.entries c.in-Timer.is c.if-contains_key.ensures;
    })
