use Rattle.std.proofs.Common.{ap, sym}
use Rattle.build_statements.specs.Contexts.{context_of}
use Rattle.build_statements.specs.Statements.{agent_name}
use Rattle.build_expressions.proofs.TreeLemmas.{chain_tree}
use Rattle.build_statements.proofs.output.agent_name.Goals as goal

pub returns-in-Chain : goal.returns-in-Chain
returns-in-Chain c =
    rw c.in-Chain.is (sym (ap (agent_name (context_of c.args.context.now).scope) (chain_tree c.in-Chain.field-0.value)))
