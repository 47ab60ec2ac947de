use Rattle.std.proofs.Common.{take}
use Rattle.std.specs.List.{Contains}
use Rattle.port_model.specs.declared.values.item.SignalId.{SignalId}
use Rattle.sdl_interp.proofs.SelectionLemmas.{IsRest, Saves}
use Rattle.sdl_interp.proofs.selection.shut.Given as goal

abbrev pub invariant-loop-signal : goal.invariant-loop-signal
invariant-loop-signal l =
    Saves l.initial.classes.items l.classes.items
    (λ (signal : SignalId). Contains (take l.signal-index l.signal-items) signal)

abbrev pub invariant-loop-number : goal.invariant-loop-number
invariant-loop-number l =
    Saves l.initial.classes.items l.classes.items
    (IsRest l.process l.table l.number)
