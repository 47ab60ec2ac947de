use Rattle.std.proofs.Common.{subst}
use Rattle.sdl_build.specs.Outcome.{IsRefusedAs}
use Rattle.sdl_explain.proofs.others.lines_beside.Goals as goal
use Rattle.sdl_explain.specs.Others.{beside_fault, beside_system}
use Rattle.sdl_tree.specs.Views.{tree_value}

pub returns-in-Ok-build : goal.returns-in-Ok-build
returns-in-Ok-build c =
    beside_system (tree_value c.in-Ok.tree) c.in-Ok-build.system c.in-Ok.ensures.found c.in-Ok-build.ensures.built
    c.in_ok-others-in-Ok-build.ensures

pub returns-in-Err-Broken : goal.returns-in-Err-Broken
returns-in-Err-Broken c =
    beside_fault c.in-Err-Broken.field-0-0 c.in-Err-Broken.field-0-1
    (record {
      tree = tree_value c.in-Ok.tree;
      spelled = c.in-Ok.ensures.found;
      refused = subst (IsRefusedAs (tree_value c.in-Ok.tree)) c.in-Err-Broken.field-0-is c.in-Err-Broken.ensures.refused;
    })
    c.none-in-Err-Broken.ensures.told c.none-in-Err-Broken.ensures.more c.none-in-Err-Broken.ensures.is_all
