use Rattle.std.proofs.Common.{◌≡◌, map, option_map}
use Rattle.build_expressions.specs.Resolved.{argument_of}
use Rattle.build_expressions.specs.Typing.{argument_terms}
use Rattle.sdl_system.specs.Term.{term_of}
use Rattle.build_expressions.proofs.arguments.expressions.Given as goal

abbrev pub invariant-loop-argument : goal.invariant-loop-argument
invariant-loop-argument l =
    option_map (λ list. map term_of list.items) l.found ≡ argument_terms (map argument_of l.yielded)
