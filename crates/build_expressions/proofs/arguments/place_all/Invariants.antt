use Rattle.std.proofs.Common.{◌≡◌, ◌&&◌, drop, map}
use Rattle.build_names.specs.Faults.{least_of}
use Rattle.build_expressions.specs.Misused.{misplaced}
use Rattle.build_expressions.specs.Resolved.{argument_of}
use Rattle.build_expressions.specs.Typing.{are_taken}
use Rattle.build_expressions.proofs.arguments.place_all.Given as goal

abbrev pub invariant-loop-index : goal.invariant-loop-index
invariant-loop-index l = record {
  taken : are_taken l.places (map argument_of l.arguments)
      ≡ (l.all && are_taken (drop l.index l.places) (map argument_of (drop l.index l.arguments)));
  noted : least_of l.faults (misplaced (drop l.index l.places) (map argument_of (drop l.index l.arguments)))
      ≡ least_of l.initial.faults (misplaced l.places (map argument_of l.arguments));
}
