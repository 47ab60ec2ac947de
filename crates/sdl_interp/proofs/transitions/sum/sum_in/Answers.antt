use Rattle.std.proofs.Common.{◌≡◌, ◌∙◌, Some, ap, refl, rules, sym, tests}
use Rattle.std.proofs.lemmas.Int.{to_z-of_z}
use Rattle.std.proofs.lemmas.Option.{IfSome_then}
use Rattle.port_model.specs.declared.values.value.Value.TheVariants.{Int}
use Rattle.run_record.specs.Environment.{environment}
use Rattle.run_record.specs.Value.{at_place, given}
use Rattle.sdl_interp.proofs.Sums.{pair_value}
use Rattle.sdl_interp.proofs.transitions.sum.sum_in.Goals as goal
use Rattle.sdl_system.specs.Operation.{applied}
use Rattle.sdl_system.specs.declared.expression.Chain.{out-Chain}
use Rattle.sdl_system.specs.declared.expression.Link.{out-Link}
use Rattle.sdl_system.specs.declared.sort.Sort.TheVariants.{Integer}
use mir.Syntax.{w64}
use mir.Val.{SFits, of_z, to_z}

pub returns : goal.returns
returns c = λ system who port.
    let here = environment system who c.args.store.now port in
    let chain = c.args.chain.now in
    let links = (out-Chain chain).rest in
    let one : c.len.result ≡ 1 = search (rules, tests) in
    let left = c.in_ok-left.left in
    let right = c.in_ok-right.right in
    let operation = (out-Link c.index-link.result.now).operation in
    let left_fits : SFits w64 left = search rules in
    let right_fits : SFits w64 right = search rules in
    let left_is : to_z w64 (of_z w64 left) ≡ left = to_z-of_z w64 left left_fits in
    let right_is : to_z w64 (of_z w64 right) ≡ right = to_z-of_z w64 right right_fits in
    let as_passed : given (applied operation (Int left) (Int right))
    ≡ given (applied operation (Int (to_z w64 (of_z w64 left))) (Int (to_z w64 (of_z w64 right)))) =
    λ i. given (applied operation (Int (sym left_is i)) (Int (sym right_is i))) in
    IfSome_then c.sum.result c.sum.ensures (λ value comes.
    ap (at_place (Some Integer)) (pair_value here chain links.items c.index-link.result.now (Int left) (Int right) refl
    (sym (c.len.ensures ∙ links.ok.0) ∙ one) c.index-link.ensures
    (c.in_ok-left.ensures.value system who port) (c.in_ok-right.ensures.value system who port)
    ∙ as_passed)
    ∙ comes)
