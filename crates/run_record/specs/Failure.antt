-- The names of failures, and which of them an operation has.
use Rattle.std.specs.Prelude.{ℕ, List, codes}
use Rattle.sdl_system.specs.declared.operation.Failure as operation
use Rattle.sdl_system.specs.declared.operation.Failure.TheVariants as cause
use Rattle.run_record.specs.declared.failure.Failure as own
use Rattle.run_record.specs.declared.failure.Failure.TheVariants as failure

abbrev pub failure_text : own.Failure → List ℕ
failure_text failure.Overflow = codes "Overflow"
failure_text failure.ZeroDivisor = codes "ZeroDivisor"
failure_text failure.Undefined = codes "Undefined"
failure_text failure.NotNatural = codes "NotNatural"
failure_text failure.NoAnswer = codes "NoAnswer"
failure_text failure.TooLong = codes "TooLong"
failure_text failure.Memory = codes "Memory"
failure_text failure.SetsSpent = codes "SetsSpent"

-- an operation without a value fails the instance for the same reason
abbrev pub failure_of : operation.Failure → own.Failure
failure_of cause.Overflow = failure.Overflow
failure_of cause.ZeroDivisor = failure.ZeroDivisor
