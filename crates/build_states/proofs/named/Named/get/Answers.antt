use Rattle.std.proofs.Common.{◌∙◌, ap, option_map, sym}
use Rattle.build_states.specs.Listed.{rest_value}
use Rattle.build_states.specs.States.{named_in}
use Rattle.build_states.proofs.AnswerLemmas.{named-mapped}
use Rattle.build_states.proofs.named.Named.get.Goals as goal

pub returns : goal.returns
returns c =
    ap (option_map rest_value) (c.copied.ensures ∙ c.get.ensures.value)
    ∙ sym (named-mapped c.self.inside.by_signal.entries c.args.signal)
    ∙ ap (λ named. named_in named c.args.signal) c.self.view_is
