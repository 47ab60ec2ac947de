use Rattle.std.proofs.Common.{◌∙◌, ap, subst}
use Rattle.sdl_explain.proofs.warned.suspected.Goals as goal
use Rattle.sdl_tree.specs.Views.{tree_value}
use Rattle.sdl_tree.specs.Words.{words_of}
use Rattle.sdl_warnings.specs.Found.{AreWarnings}

pub returns : goal.returns
returns c =
    let tree = tree_value c.args.tree.now in
    record {
      tree = tree;
      spelled = c.requires;
      tokens = c.in-Ok.tokens.items;
      lexed = c.in-Ok.ensures.tokens;
      words = c.in_ok-words.words.items;
      meant = c.in_ok-words.ensures ∙ ap (words_of c.args.specification.now) c.deref.ensures.value;
      are = subst (λ words. AreWarnings tree words c.in_ok-found.found.items) c.deref-2.ensures.value
          c.in_ok-found.ensures;
    }
