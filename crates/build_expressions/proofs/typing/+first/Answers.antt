use Rattle.std.proofs.Common.{◌∙◌, ap, sym}
use Rattle.build_expressions.specs.Words.{first_word}
use Rattle.build_expressions.proofs.TreeLemmas.{chain_tree}
use Rattle.build_expressions.proofs.typing.+first.Goals as goal

pub first_of_chain-returns : goal.first_of_chain-returns
first_of_chain-returns t c = c.first_token.ensures ∙ ap first_word (sym (chain_tree c.args.chain.now))
