use Rattle.std.proofs.Common.{◌∙◌, ap, option_map, sym}
use Rattle.build_names.specs.declared.faults.fault.Rule.TheVariants.{Limit}
use Rattle.build_names.specs.Faults.{earlier, least_of, limit_at, diagnostic_at}
use Rattle.build_limits.specs.Limits.{declared_name}
use Rattle.build_limits.specs.Listed.{declared_value}
use Rattle.build_limits.proofs.PastLemmas.{noted-at}
use Rattle.build_limits.proofs.limits.note_declared.Goals as goal

pub returns-in-Some : goal.returns-in-Some
returns-in-Some c =
    let old = c.args.faults.now in
    noted-at declared_name declared_value c.args.declared.now 1000 c.get.result
    old c.note.new.self c.get.ensures.lookup
    (c.note.ensures ∙ ap (λ word. earlier old (diagnostic_at Limit word)) c.of_name.ensures
    ∙ ap (λ got. least_of old (limit_at (option_map (λ one. declared_name (declared_value one.now)) got)))
    (sym c.in-Some.is))

pub returns-in_default : goal.returns-in_default
returns-in_default c =
    let old = c.args.faults.now in
    noted-at declared_name declared_value c.args.declared.now 1000 c.get.result old old c.get.ensures.lookup
    (ap (λ got. least_of old (limit_at (option_map (λ one. declared_name (declared_value one.now)) got)))
    (sym c.in_default.is))
