use Rattle.std.proofs.Common.{◌<◌, ◌↔◌, Contains}
use Rattle.port_model.specs.declared.values.item.SignalId.{SignalId}
use Rattle.build_routes.specs.SignalLists.{StandsFor}
use Rattle.sdl_build.proofs.context.lists.signals_of.Given as goal

abbrev pub invariant-loop-number : goal.invariant-loop-number
invariant-loop-number l = (signal : SignalId) →
    Contains l.signals.items signal ↔ ((signal.0 < l.number) × StandsFor l.network.lists.items signal l.list)
