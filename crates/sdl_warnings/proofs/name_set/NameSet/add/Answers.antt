use Rattle.std.proofs.Common.{◌∙◌, ap}
use Rattle.std.specs.List.{list_any}
use Rattle.sdl_warnings.proofs.NameLemmas.{added_any, same}
use Rattle.sdl_warnings.proofs.name_set.NameSet.add.Goals as goal

pub returns : goal.returns
returns c = λ text.
    ap (list_any (same text)) c.in_ok-insert.ensures.keys ∙ added_any c.args.self.now.names.keys c.args.name text
