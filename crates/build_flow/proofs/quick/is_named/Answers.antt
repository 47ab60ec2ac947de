use Rattle.std.proofs.Common.{◌∙◌, ap, is_some}
use Rattle.build_flow.specs.Listed.{texts}
use Rattle.build_flow.specs.Mentions.{is_named}
use Rattle.build_flow.proofs.PassingLemmas.{found-named}
use Rattle.build_flow.proofs.quick.is_named.Goals as goal

pub returns : goal.returns
returns c =
    c.is_some.ensures
    ∙ ap is_some c.get.ensures
    ∙ found-named c.args.names.now c.deref.result.now
    ∙ ap (is_named (texts c.args.names.now)) c.deref.ensures
