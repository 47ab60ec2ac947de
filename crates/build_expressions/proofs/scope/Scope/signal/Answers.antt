use Rattle.std.proofs.Common.{◌∙◌, ap, option_map, sym}
use Rattle.build_names.specs.Names.{names_in}
use Rattle.build_expressions.specs.Scope.{signal_meaning, visible}
use Rattle.build_expressions.proofs.ScopeLemmas.{meaning-first, outward-first}
use Rattle.build_expressions.proofs.scope.Scope.signal.Goals as goal

pub returns : goal.returns
returns c =
    let names = c.args.self.now.signals in
    ap (option_map signal_meaning) (c.get.ensures
    ∙ outward-first (names_in names.process) (names_in names.block) names.system.now c.args.text.now)
    ∙ sym (meaning-first signal_meaning (visible names) c.args.text.now)
