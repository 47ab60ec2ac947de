use Rattle.std.proofs.Common.{◌∙◌, not, rules, sym}
use Rattle.std.proofs.lemmas.Fn.{filter_same}
use Rattle.port_model.specs.Timers.{is_signal_of}
use Rattle.port_model.proofs.Backlogs.{forgot_first}
use Rattle.port_model.proofs.search.forget.Goals as goal

pub returns-in-Some-clause-items : goal.returns-in-Some-clause-items
returns-in-Some-clause-items c =
    c.pop_front.ensures.rest ∙ forgot_first c.args.key.now c.in-Some.got.now c.args.waiting.now.items (search rules) c.in-Some.ensures.lookup c.requires
    (sym c.is_signal_of.ensures ∙ c.if-is_signal_of.true)

pub returns-in_default-clause-items : goal.returns-in_default-clause-items
returns-in_default-clause-items c = filter_same _ (λ got. not (is_signal_of c.args.key.now got)) _ (λ x b f' k. search rules) _ _ c.retain.ensures.filtered
