use Rattle.std.proofs.Common.{[]}
use Rattle.std.specs.Borrow.{Bor}
use Rattle.sdl_tree.specs.declared.definitions.Definition.{Definition}
use Rattle.sdl_tree.specs.Views.{definition_value}
use Rattle.build_limits.specs.Limits.{declared_of}
use Rattle.build_limits.proofs.ListLemmas.{behind_all, behind_more}
use Rattle.build_limits.proofs.limits.declared_in.Goals as goal

pub loop-definition-preserved : goal.loop-definition-preserved
loop-definition-preserved c =
    behind_more declared_of (λ (d : Bor Definition). definition_value d.now) [] _ _ c.args.definitions.now
    c.loop-definition.definition-index
    c.definition-item.result c.loop-definition-test.true c.definition-item.is c.loop-definition.invariant
    c.in_ok-add_declared.ensures

pub returns : goal.returns
returns c =
    behind_all declared_of (λ (d : Bor Definition). definition_value d.now) [] _ c.args.definitions.now
    c.loop-definition.definition-index
    c.loop-definition-test.false c.loop-definition.invariant
