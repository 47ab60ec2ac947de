-- Faults of a later part of the text may be noted apart, and then behind those of the parts before it.
use Rattle.std.specs.Prelude.{◌≡◌, List, Option, None, Some}
use Rattle.build_names.specs.Faults.{Diagnostic, earlier, least_of}

-- of the faults of a part and those of a later one, the fault that is told
abbrev pub with_later : Option Diagnostic → Option Diagnostic → Option Diagnostic
with_later old None = old
with_later old (Some fault) = earlier old fault

-- The fault that is told of a later part stands for all of them.
abbrev pub LaterNoted : Type 0
LaterNoted = (old : Option Diagnostic) (faults : List Diagnostic) →
    with_later old (least_of None faults) ≡ least_of old faults
