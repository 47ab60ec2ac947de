use Rattle.std.proofs.Common.{◌≡◌, ◌<◌, ◌↔◌, length, true}
use Rattle.port_model.specs.declared.values.item.SignalId.{SignalId}
use Rattle.sdl_system.specs.Signal.{is_member}
use Rattle.build_routes.specs.Valid.{IsValid}
use Rattle.build_routes.proofs.valid.valid_set.Given as goal

abbrev pub invariant-loop-number : goal.invariant-loop-number
invariant-loop-number l = record {
  size : length l.members.items ≡ l.number;
  each : (signal : SignalId) → signal.0 < l.number → (is_member l.members.items signal ≡ true) ↔ IsValid l.network l.fn.id l.fn.process signal;
}
