use Rattle.std.proofs.Common.{◌∙◌, ap}
use Rattle.build_names.specs.Names.{first_of, names_in}
use Rattle.build_expressions.proofs.ScopeLemmas.{outward-first}
use Rattle.build_expressions.specs.Scope.{visible}
use Rattle.build_network.proofs.seen.Seen.meaning.Goals as goal

pub returns : goal.returns
returns c =
    let names = c.args.self.now.signals in
    c.get.ensures
    ∙ outward-first (names_in names.process) (names_in names.block) names.system.now c.deref.result.now
    ∙ ap (first_of (visible names)) c.deref.ensures
