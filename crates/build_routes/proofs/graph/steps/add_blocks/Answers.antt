use Rattle.std.proofs.Common.{◌<◌, false, get_or, length, subst, arith}
use Rattle.std.proofs.lemmas.Option.{slice_get-get_or}
use Rattle.build_routes.specs.Graph.{Adds}
use Rattle.build_routes.specs.Rows.{rows_of}
use Rattle.build_routes.specs.Steps.{BlockSteps}
use Rattle.build_routes.specs.declared.network.joined.Block.{Block}
use Rattle.build_routes.proofs.EachLemmas.{adds_all, adds_each}
use Rattle.build_routes.proofs.graph.steps.add_blocks.Goals as goal

pub loop-number-preserved : goal.loop-number-preserved
loop-number-preserved c =
    let n = c.loop-number.number in
    let blocks = c.args.network.now.blocks.items in
    let none : Block = record { is_implied = false } in
    let within : n < length blocks = omega (arith, c.loop-number-test.true, c.len-number-end.ensures) in
    adds_each blocks n (get_or blocks n none) (λ b block. BlockSteps c.args.network.now.is_implied c.args.source b)
    (rows_of c.args.graph.now) (rows_of c.loop-number.graph) (rows_of c.add_block.new.graph)
    (slice_get-get_or blocks n none within)
    c.loop-number.invariant
    (subst (λ k. Adds (BlockSteps c.args.network.now.is_implied c.args.source k) (rows_of c.loop-number.graph) (rows_of c.add_block.new.graph))
    c.in_ok-counted.ensures.same c.in_ok-add_block.ensures)

pub returns : goal.returns
returns c =
    adds_all c.args.network.now.blocks.items c.loop-number.number (λ b block. BlockSteps c.args.network.now.is_implied c.args.source b)
    (rows_of c.args.graph.now) (rows_of c.loop-number.graph) (omega (arith, c.loop-number-test.false, c.len-number-end.ensures)) c.loop-number.invariant
