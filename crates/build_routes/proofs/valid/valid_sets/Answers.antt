use Rattle.std.proofs.Common.{◌≡◌, ◌<◌, ◌↔◌, Some, ap, arith, get_or, length, slice_get, subst, true}
use Rattle.std.proofs.lemmas.Option.{slice_get-get_or}
use Rattle.port_model.specs.declared.values.item.SignalId.{SignalId}
use Rattle.sdl_system.specs.Signal.{is_member}
use Rattle.sdl_system.specs.declared.id.ProcessId.{ProcessId}
use Rattle.build_routes.specs.Valid.{IsValid}
use Rattle.build_routes.specs.declared.network.joined.Process.{Process}
use Rattle.build_routes.specs.declared.network.joined.Scope.TheVariants as its
use Rattle.build_routes.proofs.ValidLemmas.{valid_more}
use Rattle.build_routes.proofs.valid.valid_sets.Goals as goal

pub loop-number-preserved : goal.loop-number-preserved
loop-number-preserved c =
    let network = c.args.network.now in
    let n = c.loop-number.number in
    let id : ProcessId = record { 0 = c.in_ok-counted.field-0 } in
    let none : Process = record { scope = its.System; named = record { 0 = 0 }; timers = record { 0 = 0 } } in
    let here : slice_get network.processes.items n ≡ Some (get_or network.processes.items n none) =
    slice_get-get_or network.processes.items n none (omega (arith, c.loop-number-test.true, ap length c.deref-process-items.ensures.value)) in
    valid_more network c.loop-number.valid.items c.push.new.self.items n id (get_or network.processes.items n none) c.in_ok-set.set c.loop-number.invariant
    c.in_ok-counted.ensures.same here c.in_ok-set.ensures.places
    (subst (λ items. (signal : SignalId) → signal.0 < network.signals → (is_member c.in_ok-set.set signal ≡ true) ↔ IsValid network id (get_or items n none) signal)
    c.deref-process-items.ensures.value c.in_ok-set.ensures.members)
    c.in_ok-push.ensures.items (omega (arith, c.in_ok-push.ensures.len, c.loop-number.invariant.size))
