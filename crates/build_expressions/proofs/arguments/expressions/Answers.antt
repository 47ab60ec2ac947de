use Rattle.std.proofs.Common.{◌∙◌, ◌∷◌, [], ap, map, option_map, sym}
use Rattle.std.proofs.lemmas.List.{map-append}
use Rattle.build_expressions.specs.Partial.{all_some, and_last}
use Rattle.build_expressions.specs.Resolved.{argument_of}
use Rattle.build_expressions.specs.Typing.{argument_term, argument_terms}
use Rattle.sdl_system.specs.Term.{term_of}
use Rattle.build_expressions.proofs.ArgumentLemmas.{all_some-last}
use Rattle.build_expressions.proofs.arguments.expressions.Goals as goal

pub loop-argument-preserved : goal.loop-argument-preserved
loop-argument-preserved c =
    let before = map argument_of c.loop-argument.yielded in
    let last = argument_of c.in-Some.argument in
    c.in_ok-found.ensures
    ∙ ap (λ found. and_last found (option_map term_of c.expression.result)) c.loop-argument.invariant
    ∙ ap (and_last (argument_terms before)) c.expression.ensures
    ∙ sym (ap argument_terms (map-append argument_of c.loop-argument.yielded (c.in-Some.argument ∷ []))
    ∙ ap all_some (map-append argument_term before (last ∷ []))
    ∙ all_some-last (map argument_term before) (argument_term last))
