use Rattle.std.proofs.Common.{subst}
use Rattle.sdl_build.specs.Outcome.{IsRefusedAs}
use Rattle.sdl_explain.proofs.others.found_in.Goals as goal
use Rattle.sdl_tree.specs.Views.{tree_value}

pub returns-in-Ok-build : goal.returns-in-Ok-build
returns-in-Ok-build c = record {
  tree = tree_value c.in-Ok.tree;
  spelled = c.in-Ok.ensures.found;
  system = c.in-Ok-build.field-0;
  built = c.in-Ok-build.ensures.built;
}

pub returns-in-Err-Broken : goal.returns-in-Err-Broken
returns-in-Err-Broken c = record {
  tree = tree_value c.in-Ok.tree;
  spelled = c.in-Ok.ensures.found;
  refused = subst (IsRefusedAs (tree_value c.in-Ok.tree)) c.in-Err-Broken.field-0-is c.in-Err-Broken.ensures.refused;
}
