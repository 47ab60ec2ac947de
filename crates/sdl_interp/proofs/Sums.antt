-- What a chain of two known operands comes to.
use Rattle.std.proofs.Common.{◌≡◌, ◌∙◌, ap, arith, sym, List, [], ◌∷◌, Ok, get_or, length, map}
use Rattle.port_model.specs.declared.values.value.Value.{Value}
use Rattle.run_record.specs.Environment.{Environment}
use Rattle.run_record.specs.Value.{given, operated, value_of}
use Rattle.sdl_system.specs.Operation.{applied}
use Rattle.sdl_system.specs.Term.{Operand, Term, chain_step, chained, expression_step, link_step, operand_of, term_of, term_of_chain}
use Rattle.sdl_system.specs.declared.expression.Chain.{Chain, out-Chain}
use Rattle.sdl_system.specs.declared.expression.Expression.TheFolds.{fold_out-Chain, fold_out-Link}
use Rattle.sdl_system.specs.declared.expression.Link.{Link, out-Link}

chain_is : (chain : Chain)
    → term_of_chain chain ≡ chained (term_of (out-Chain chain).first) (map operand_of (out-Chain chain).rest.items)
chain_is chain = fold_out-Chain Term Term Operand expression_step chain_step link_step chain

link_is : (link : Link)
    → operand_of link ≡ record { operation = (out-Link link).operation; term = term_of (out-Link link).operand }
link_is link = fold_out-Link Term Term Operand expression_step chain_step link_step link

-- the only one of a list
only : (links : List Link) (link : Link) → length links ≡ 1 → link ≡ get_or links 0 link → links ≡ link ∷ []
only [] link one is = let wrong : ⊥ = omega (arith, one) in absurd wrong
only (first ∷ []) link one is = ap (λ (x : Link). x ∷ []) (sym is)
only (first ∷ more ∷ rest) link one is = let wrong : ⊥ = omega (arith, one) in absurd wrong

-- a chain of two operands that have values
pub pair_value : (here : Environment) (chain : Chain) (links : List Link) (link : Link) (left right : Value)
    → links ≡ (out-Chain chain).rest.items → length links ≡ 1 → link ≡ get_or links 0 link
    → value_of here (term_of (out-Chain chain).first) ≡ Ok left
    → value_of here (term_of (out-Link link).operand) ≡ Ok right
    → value_of here (term_of_chain chain) ≡ given (applied (out-Link link).operation left right)
pair_value here chain links link left right are one is knows_left knows_right =
    let first = term_of (out-Chain chain).first in
    ap (value_of here) (chain_is chain)
    ∙ ap (λ (list : List Link). value_of here (chained first (map operand_of list))) (sym are ∙ only links link one is)
    ∙ ap (λ (right : Operand). operated right.operation (value_of here first) (value_of here right.term)) (link_is link)
    ∙ ap (λ answer. operated (out-Link link).operation answer (value_of here (term_of (out-Link link).operand)))
    knows_left
    ∙ ap (operated (out-Link link).operation (Ok left)) knows_right
