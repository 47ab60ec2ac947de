use Rattle.std.proofs.lemmas.Result.{err_from_is_err_and}
use Rattle.sdl_system.specs.Term.{term_of, term_of_chain}
use Rattle.sdl_system.specs.declared.expression.Chain.{out-Chain}
use Rattle.run_record.specs.Knowledge.{environment_of}
use Rattle.run_record.specs.Memory.{wants_memory}
use Rattle.run_record.specs.Value.{value_of}
use Rattle.run_record.proofs.ChainLemmas.{answers_failure, answers_value, chain_fails_at, chain_fails_first, chain_value, value_up_to}
use Rattle.run_record.proofs.ListLemmas.{active_fails, active_value}
use Rattle.run_record.proofs.evaluation.expression.+evaluation.Goals as goal

pub evaluate_any-returns-in_err-key-in-Active-clause-err : goal.evaluate_any-returns-in_err-key-in-Active-clause-err
evaluate_any-returns-in_err-key-in-Active-clause-err g t c =
    let here = environment_of c.args.knowledge.now in
    let p = err_from_is_err_and c.from_residual.result c.from_residual.ensures.1 in
    rw (p.1, p.2) (active_fails here c.args.expression.now c.in-Active.timer c.in-Active.values
    c.deref.result.now _ c.in-Active.is c.deref.ensures.value c.in_err-key-in-Active.ensures.err)

pub evaluate_any-returns-in_ok-key-in-Active-clause-ok : goal.evaluate_any-returns-in_ok-key-in-Active-clause-ok
evaluate_any-returns-in_ok-key-in-Active-clause-ok g t c =
    let here = environment_of c.args.knowledge.now in
    active_value here c.args.expression.now c.in-Active.timer c.in-Active.values c.deref.result.now
    c.in_ok-key-in-Active.key c.active.result c.in-Active.is c.deref.ensures.value
    c.in_ok-key-in-Active.ensures.ok c.active.ensures

pub evaluate_chain-returns-in-Some-evaluate_pair-clause-ok : goal.evaluate_chain-returns-in-Some-evaluate_pair-clause-ok
evaluate_chain-returns-in-Some-evaluate_pair-clause-ok g t c =
    let here = environment_of c.args.knowledge.now in
    answers_value (value_of here (term_of_chain c.args.chain.now)) c.in-Some-evaluate_pair.answer
    c.in-Some-evaluate_pair.ensures

pub evaluate_chain-returns-in-Some-evaluate_pair-clause-err : goal.evaluate_chain-returns-in-Some-evaluate_pair-clause-err
evaluate_chain-returns-in-Some-evaluate_pair-clause-err g t c =
    let here = environment_of c.args.knowledge.now in
    answers_failure (wants_memory (term_of_chain c.args.chain.now)) (value_of here (term_of_chain c.args.chain.now))
    c.in-Some-evaluate_pair.answer c.in-Some-evaluate_pair.ensures

pub evaluate_links-returns-in_err-value-clause-err : goal.evaluate_links-returns-in_err-value-clause-err
evaluate_links-returns-in_err-value-clause-err g t c =
    let here = environment_of c.args.knowledge.now in
    let p = err_from_is_err_and c.from_residual.result c.from_residual.ensures.1 in
    rw (p.1, p.2) (chain_fails_first here c.args.chain.now _ c.in_err-value.ensures.err)

pub evaluate_links-returns-in_err-value-2-clause-err : goal.evaluate_links-returns-in_err-value-2-clause-err
evaluate_links-returns-in_err-value-2-clause-err g t c =
    let here = environment_of c.args.knowledge.now in
    let p = err_from_is_err_and c.from_residual-in_err-value-2.result c.from_residual-in_err-value-2.ensures.1 in
    rw (p.1, p.2) (chain_fails_at here c.args.chain.now c.deref-link-items.result.now c.loop-link.link-index
    c.link-item.result c.loop-link.value _ c.deref-link-items.ensures.value c.loop-link-test.true c.link-item.is
    c.loop-link.invariant c.in_err-value-2.ensures.err)

pub evaluate_links-loop-link-preserved : goal.evaluate_links-loop-link-preserved
evaluate_links-loop-link-preserved g t c =
    let here = environment_of c.args.knowledge.now in
    value_up_to here (term_of (out-Chain c.args.chain.now).first) c.deref-link-items.result.now c.loop-link.link-index
    c.link-item.result c.loop-link.value c.in_ok-value-2.value c.loop-link-test.true c.link-item.is
    c.loop-link.invariant c.in_ok-value-2.ensures.ok

pub evaluate_links-returns-clause-ok : goal.evaluate_links-returns-clause-ok
evaluate_links-returns-clause-ok g t c =
    let here = environment_of c.args.knowledge.now in
    chain_value here c.args.chain.now c.deref-link-items.result.now c.loop-link.link-index c.loop-link.value
    c.deref-link-items.ensures.value c.loop-link-test.false c.loop-link.invariant
