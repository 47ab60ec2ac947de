use Rattle.std.proofs.Common.{◌≡◌, ◌⊎◌, ◌+◌, ap, inl, inr, subst, sym, ◌∙◌}
use Rattle.sdl_system.specs.declared.id.ProcessId.{ProcessId}
use Rattle.build_routes.specs.Arrivals.{ArrivesAt}
use Rattle.build_routes.specs.Entries.{IsListed, listed_at}
use Rattle.build_routes.specs.Mask.{Bit}
use Rattle.build_routes.specs.declared.network.joined.End.TheVariants as at
use Rattle.build_routes.specs.declared.receiver.Receiver.{Receiver}
use Rattle.build_routes.proofs.Bits.{no_bit, or_cases, or_left}
use Rattle.build_routes.proofs.KnownLemmas.{receiver_more}
use Rattle.build_routes.proofs.ReceiverLemmas.{listed_without}
use Rattle.build_routes.proofs.receiver.receivers_of.Goals as goal
use Rattle.build_routes.proofs.receiver.receivers_of.Goals.{then-signals-ne0+in_ok-push, else-signals-ne0}

pub loop-number-preserved : goal.loop-number-preserved
loop-number-preserved c = λ place.
    let id : ProcessId = record { 0 = c.in_ok-counted.field-0 } in
    let one : Receiver = record { process = id; signals = c.joined-signals.result } in
    let made : ArrivesAt c.args.arrivals.now place id → Bit c.joined-signals.result place = λ reaches.
    subst (λ mask. Bit mask place) (sym c.joined-signals.ensures.value)
    (or_left c.at_process.result c.shared-own.result place ((c.at_process.ensures place).1 reaches)) in
    let just : Bit c.joined-signals.result place → ArrivesAt c.args.arrivals.now place id ⊎ (c.args.source.end ≡ at.Process id) = λ bit.
    elim (or_cases c.at_process.result c.shared-own.result place (subst (λ mask. Bit mask place) c.joined-signals.ensures.value bit)) [
      | inl reaches ↦ inl ((c.at_process.ensures place).0 reaches)
      | inr own ↦ inr (c.shared-own.ensures place own)
    ] in
    elim c.if-signals-ne0.branch [
      | then-signals-ne0+in_ok-push w ↦
          receiver_more c.args.arrivals.now place c.args.source c.loop-number.number c.loop-number.receivers.items c.if-signals-ne0.receivers.items one
          (c.loop-number.invariant place) c.in_ok-counted.ensures.same just made (ap (λ x. x.items) w.receivers-is ∙ w.in_ok-push.ensures.items)
      | else-signals-ne0 w ↦
          subst (λ x. IsListed c.args.arrivals.now place c.args.source (c.loop-number.number + 1) (listed_at place x.items)) (sym w.receivers-is)
          (listed_without c.args.arrivals.now place c.args.source c.loop-number.number (listed_at place c.loop-number.receivers.items) id
          (c.loop-number.invariant place) c.in_ok-counted.ensures.same
          (λ reaches. no_bit place (subst (λ mask. Bit mask place) w.if-signals-ne0.false (made reaches))))
    ]
