use Rattle.std.proofs.Common.{◌∙◌, ap, sym}
use Rattle.build_states.specs.Shared.{known_in, same_turns}
use Rattle.build_states.proofs.ShareLemmas.{same-mapped}
use Rattle.build_states.proofs.known.Known.get.Goals as goal

pub returns : goal.returns
returns c =
    c.copied.ensures ∙ c.get.ensures.value
    ∙ sym (same-mapped (same_turns c.args.turns.now) c.self.inside.by_turns.entries)
    ∙ ap (λ known. known_in known c.args.turns.now) c.self.view_is
