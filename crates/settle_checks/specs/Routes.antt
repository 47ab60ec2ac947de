-- Where signals go, by their outputs.
use Rattle.run_record.specs.Record.{RecordValue}
use Rattle.sdl_system.specs.System.{SystemValue}
use Rattle.settle_checks.specs.declared.targets.Routed.{Routed}
use Rattle.settle_meaning.specs.Living.{GoesBy}
use Rattle.std.specs.Prelude.{List}

-- the signal goes where the routes lead it, by some instances that may have lived then
abbrev pub IsRight : SystemValue → List RecordValue → Routed → Type 0
IsRight system records routed = GoesBy system records routed.signal routed.from routed.to routed.target
