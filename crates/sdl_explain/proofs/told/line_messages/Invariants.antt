use Rattle.std.proofs.Common.{take}
use Rattle.sdl_explain.specs.Told.{AreTold, TellsLine}
use Rattle.sdl_script.specs.declared.script.ScriptError.{ScriptError}
use Rattle.sdl_explain.proofs.told.line_messages.Given as goal

abbrev pub invariant-loop-fault : goal.invariant-loop-fault
invariant-loop-fault l = AreTold ScriptError (TellsLine l.script) l.origin (take l.fault-index l.faults) l.all.items
