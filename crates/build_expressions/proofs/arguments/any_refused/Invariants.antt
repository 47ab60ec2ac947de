use Rattle.std.proofs.Common.{◌≡◌, map, take}
use Rattle.build_expressions.specs.Resolved.{argument_of}
use Rattle.build_expressions.specs.Typing.{any_refused}
use Rattle.build_expressions.proofs.arguments.any_refused.Given as goal

abbrev pub invariant-loop-argument : goal.invariant-loop-argument
invariant-loop-argument l = l.any ≡ any_refused (map argument_of (take l.argument-index l.arguments))
