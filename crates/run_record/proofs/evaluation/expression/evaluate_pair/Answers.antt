use Rattle.std.proofs.Common.{◌≡◌, ◌∙◌, Err, ap, refl, rules, sym, tests}
use Rattle.run_record.proofs.ChainLemmas.{pair_value}
use Rattle.run_record.specs.Knowledge.{environment_of}
use Rattle.run_record.specs.Value.{given}
use Rattle.sdl_system.specs.declared.expression.Chain.{out-Chain}
use Rattle.run_record.proofs.evaluation.expression.evaluate_pair.Goals as goal

pub returns-in-Err : goal.returns-in-Err
returns-in-Err g c =
    let one : c.len.result ≡ 1 = search (rules, tests) in
    pair_value (environment_of c.args.knowledge.now) c.args.chain.now
    (out-Chain c.args.chain.now).rest.items c.index-link.result.now c.in_ok-left.left c.in_ok-right.right refl
    (sym (c.len.ensures ∙ (out-Chain c.args.chain.now).rest.ok.0) ∙ one) c.index-link.ensures
    c.in_ok-left.ensures.value c.in_ok-right.ensures.value
    ∙ ap given (sym c.apply.ensures ∙ c.in-Err.is) ∙ ap Err (sym c.from.ensures)
