use Rattle.std.proofs.Common.{◌∙◌, ◌++◌, ◌∷◌, [], ap, arith, sym}
use Rattle.build_definitions.specs.Seen.{block_seen}
use Rattle.build_network.proofs.NumberLemmas.{numbered-map-step}
use Rattle.build_network.specs.Network.{block_at}
use Rattle.build_network.proofs.network.blocks_in.Goals as goal

pub loop-index-preserved : goal.loop-index-preserved
loop-index-preserved c =
    let symbols = c.args.symbols.now in
    let entries = c.args.entries.now in
    let i = c.loop-index.index in
    let entry = c.index-entries-index.result in
    c.in_ok-push.ensures.items
    ∙ ap (λ b. c.loop-index.blocks.items ++ record { is_implied = b } ∷ []) c.is_empty_at-is_implied.ensures
    ∙ ap (λ n. c.loop-index.blocks.items ++ block_at symbols n (block_seen entry) ∷ []) c.in_ok-number.ensures.same
    ∙ ap (λ blocks. blocks ++ block_at symbols i (block_seen entry) ∷ []) c.loop-index.invariant
    ∙ sym (numbered-map-step entries i entry c.loop-index-test.true c.index-entries-index.is block_seen
    (block_at symbols) 0 i
    (omega arith))
