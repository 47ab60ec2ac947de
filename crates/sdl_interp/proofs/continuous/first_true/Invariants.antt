use Rattle.std.proofs.Common.{◌≡◌, List, drop}
use Rattle.std.specs.List.{AllZip}
use Rattle.run_record.specs.Knowledge.{environment_of}
use Rattle.run_semantics.specs.Selection.{tried}
use Rattle.sdl_system.specs.Behaviour.{ContinuousSignal, MeansContinuous}
use Rattle.sdl_system.specs.declared.id.NodeId.{NodeId}
use Rattle.sdl_interp.proofs.continuous.first_true.Given as goal

abbrev pub invariant-loop-signal : goal.invariant-loop-signal
invariant-loop-signal g l =
    (entries : List NodeId) (meant : List ContinuousSignal)
    → AllZip (MeansContinuous l.process entries) l.signals meant
    → tried
    (environment_of l.knowledge)
    meant
    ≡ tried
    (environment_of l.knowledge)
    (drop l.signal-index meant)
