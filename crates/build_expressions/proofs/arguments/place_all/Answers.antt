use Rattle.std.proofs.Common.{◌∙◌, ◌+◌, ◌<◌, ◌&&◌, ◌∷◌, None, ap, arith, drop, get_or, length, map, sym}
use Rattle.std.proofs.lemmas.List.{drop_more, length-map}
use Rattle.build_names.proofs.FaultLemmas.{both_noted}
use Rattle.build_names.specs.Faults.{least_of}
use Rattle.build_expressions.specs.Misused.{fault_of_place, misplaced}
use Rattle.build_expressions.specs.Resolved.{argument_of}
use Rattle.build_expressions.specs.Typing.{are_taken}
use Rattle.build_expressions.proofs.ArgumentLemmas.{are_taken-more, are_taken-other}
use Rattle.build_expressions.proofs.arguments.place_all.Goals as goal

pub returns-then-arguments-places-clause-taken : goal.returns-then-arguments-places-clause-taken
returns-then-arguments-places-clause-taken c =
    are_taken-other c.args.places.now (map argument_of c.args.arguments.now)
    (λ same. c.if-arguments-places.true (sym (length-map c.args.arguments.now argument_of) ∙ same))

pub loop-index-preserved : goal.loop-index-preserved
loop-index-preserved c =
    let i = c.loop-index.index in
    let places = c.args.places.now in
    let arguments = c.args.arguments.now in
    let argument = c.index-arguments-index.result in
    let below : i < length places = omega (arith, c.if-arguments-places.false, c.loop-index-test.true) in
    let place = get_or places i None in
    let places_left = drop (i + 1) places in
    let arguments_left = map argument_of (drop (i + 1) arguments) in
    let places_are = drop_more places i None below in
    let arguments_are = ap (map argument_of) (drop_more arguments i argument c.loop-index-test.true
    ∙ ap (λ x. x ∷ drop (i + 1) arguments) (sym c.index-arguments-index.is)) in
    let here = argument_of argument in
    let old = c.loop-index.faults in
    record {
      taken =
          are_taken-more _ c.loop-index.all c.place-is_taken.result place places_left here arguments_left
          (c.loop-index.invariant.taken
          ∙ ap (λ list. c.loop-index.all && are_taken list (map argument_of (drop i arguments))) places_are
          ∙ ap (λ list. c.loop-index.all && are_taken (place ∷ places_left) list) arguments_are)
          c.place-is_taken.ensures.taken
          ∙ ap (λ b. b && are_taken places_left arguments_left) (sym c.both-all.ensures);
      noted =
          ap (λ before. least_of before (misplaced places_left arguments_left)) c.place-is_taken.ensures.noted
          ∙ both_noted old (fault_of_place place here.word here.typed) (misplaced places_left arguments_left)
          ∙ sym (ap (λ list. least_of old (misplaced list (map argument_of (drop i arguments)))) places_are
          ∙ ap (λ list. least_of old (misplaced (place ∷ places_left) list)) arguments_are)
          ∙ c.loop-index.invariant.noted;
    }
