use Rattle.std.proofs.Common.{◌≡◌, map, take}
use Rattle.build_expressions.specs.Constants.{value_of}
use Rattle.sdl_system.specs.Term.{chained, operand_of, term_of}
use Rattle.sdl_system.specs.declared.expression.Chain.{out-Chain}
use Rattle.build_expressions.proofs.constants.+value_of.Given as goal

abbrev pub invariant-chain_value-loop-link : goal.invariant-chain_value-loop-link
invariant-chain_value-loop-link l =
    l.value ≡ value_of (chained (term_of (out-Chain l.chain).first) (map operand_of (take l.link-index l.link-items)))
