use Rattle.std.proofs.Common.{take}
use Rattle.sdl_build.specs.declared.error.BuildError.{BuildError}
use Rattle.sdl_explain.specs.Told.{AreTold, TellsFault}
use Rattle.sdl_explain.proofs.told.fault_messages.Given as goal

abbrev pub invariant-loop-fault : goal.invariant-loop-fault
invariant-loop-fault l = AreTold BuildError (TellsFault l.specification) l.origin (take l.fault-index l.faults) l.all.items
