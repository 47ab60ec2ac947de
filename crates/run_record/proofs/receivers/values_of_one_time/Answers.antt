use Rattle.std.proofs.Common.{◌≡◌, ◌∙◌, ◌∷◌, ap, arith, refl, sym}
use Rattle.run_record.specs.Packed.{counted, time_in}
use Rattle.run_record.proofs.PackedLemmas.{time_after-event}
use Rattle.run_record.proofs.receivers.values_of_one_time.Goals as goal

pub on-preserved : goal.on-preserved
on-preserved c =
    let first = c.in-Some.first.now in
    let others = c.in-Some.others.now in
    let is = c.in-Some.ensures.cases.0 in
    let all = ap counted is in
    record {
      counts = omega (arith, c.on.invariant.counts, all, c.in_ok-count.ensures, c.count.ensures);
      time = λ time. c.on.invariant.time time ∙ ap (time_in time) is
          ∙ ap (λ t. time_in t others) (time_after-event time first (sym c.if-not-is_event.ensures));
    }
