use Rattle.std.proofs.Common.{◌≡◌, ◌∙◌, refl, rules, sym, tests}
use Rattle.std.proofs.lemmas.Int.{to_z-of_z}
use Rattle.std.proofs.lemmas.Option.{IfSome_then}
use Rattle.port_model.specs.declared.values.value.Value.TheVariants.{Int}
use Rattle.run_record.proofs.ChainLemmas.{pair_value}
use Rattle.run_record.specs.Knowledge.{environment_of}
use Rattle.run_record.specs.Value.{given}
use Rattle.sdl_system.specs.Operation.{applied}
use Rattle.sdl_system.specs.declared.expression.Chain.{out-Chain}
use Rattle.sdl_system.specs.declared.expression.Link.{out-Link}
use Rattle.run_record.proofs.evaluation.expression.evaluate_integers.Goals as goal
use mir.Syntax.{w64}
use mir.Val.{SFits, of_z, to_z}

pub returns : goal.returns
returns g c =
    let one : c.len.result ≡ 1 = search (rules, tests) in
    let left = c.in_ok-left.left in
    let right = c.in_ok-right.right in
    let operation = (out-Link c.index-link.result.now).operation in
    let left_fits : SFits w64 left = search rules in
    let right_fits : SFits w64 right = search rules in
    let left_is : to_z w64 (of_z w64 left) ≡ left = to_z-of_z w64 left left_fits in
    let right_is : to_z w64 (of_z w64 right) ≡ right = to_z-of_z w64 right right_fits in
    let as_passed : given (applied operation (Int left) (Int right))
    ≡ given (applied operation (Int (to_z w64 (of_z w64 left))) (Int (to_z w64 (of_z w64 right)))) =
    λ i. given (applied operation (Int (sym left_is i)) (Int (sym right_is i))) in
    IfSome_then c.of_integers.result c.of_integers.ensures (λ value gives.
    pair_value (environment_of c.args.knowledge.now) c.args.chain.now (out-Chain c.args.chain.now).rest.items
    c.index-link.result.now (Int left) (Int right) refl
    (sym (c.len.ensures ∙ (out-Chain c.args.chain.now).rest.ok.0) ∙ one) c.index-link.ensures
    c.in_ok-left.ensures.value c.in_ok-right.ensures.value
    ∙ as_passed ∙ gives)
