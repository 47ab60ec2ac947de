use Rattle.std.proofs.Common.{◌≡◌, Ok, map}
use Rattle.run_record.specs.Knowledge.{environment_of}
use Rattle.run_record.specs.Value.{value_of, values_at}
use Rattle.run_record.proofs.ChainLemmas.{up_to}
use Rattle.run_record.proofs.ListLemmas.{left_of, preceded}
use Rattle.sdl_system.specs.Term.{term_of}
use Rattle.sdl_system.specs.declared.expression.Chain.{out-Chain}
use Rattle.run_record.proofs.evaluation.expression.+evaluation.Given as goal

abbrev pub invariant-evaluate_links-loop-link : goal.invariant-evaluate_links-loop-link
invariant-evaluate_links-loop-link g l =
    value_of (environment_of l.knowledge)
    (up_to (term_of (out-Chain l.chain).first) l.link-index l.link-items) ≡ Ok l.value

abbrev pub invariant-evaluate_all-loop-index : goal.invariant-evaluate_all-loop-index
invariant-evaluate_all-loop-index g l =
    let here = environment_of l.knowledge in
    values_at here l.sorts (map term_of l.expressions)
    ≡ preceded l.values (left_of here l.sorts l.expressions l.index)
