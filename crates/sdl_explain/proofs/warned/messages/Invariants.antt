use Rattle.std.proofs.Common.{take}
use Rattle.sdl_explain.specs.Told.{AreTold}
use Rattle.sdl_explain.specs.Warned.{IsMessage}
use Rattle.sdl_warnings.specs.declared.suspicion.Warning.{Warning}
use Rattle.sdl_explain.proofs.warned.messages.Given as goal

abbrev pub invariant-loop-warning : goal.invariant-loop-warning
invariant-loop-warning l = AreTold Warning (IsMessage l.specification) l.origin (take l.warning-index l.warnings) l.all.items
