use Rattle.std.proofs.Common.{◌∙◌, ◌++◌, ◌∷◌, [], ap, arith, sym}
use Rattle.build_definitions.specs.Seen.{block_seen}
use Rattle.build_network.proofs.NumberLemmas.{numbered-map-step}
use Rattle.build_network.specs.Agents.{block_name}
use Rattle.build_network.proofs.agents.block_names.Goals as goal

pub loop-index-preserved : goal.loop-index-preserved
loop-index-preserved c =
    let blocks = c.args.blocks.now in
    let i = c.loop-index.index in
    let entry = c.index-blocks-index.result in
    c.in_ok-declare.ensures.declared
    ∙ ap (λ k. c.loop-index.names ++ block_name k (block_seen entry) ∷ []) c.in_ok-number.ensures.same
    ∙ ap (λ names. names ++ block_name i (block_seen entry) ∷ []) c.loop-index.invariant
    ∙ sym (numbered-map-step blocks i entry c.loop-index-test.true c.index-blocks-index.is block_seen block_name 0 i
    (omega arith))
