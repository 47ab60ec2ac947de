use Rattle.std.proofs.Common.{◌∙◌, ap, option_map, sym}
use Rattle.sdl_tree.specs.Views.{process_value}
use Rattle.build_names.specs.declared.faults.fault.Rule.TheVariants.{Limit}
use Rattle.build_names.specs.Faults.{earlier, least_of, limit_at, diagnostic_at}
use Rattle.build_limits.specs.Limits.{process_name}
use Rattle.build_limits.proofs.PastLemmas.{noted-at}
use Rattle.build_limits.proofs.limits.note_processes.Goals as goal

pub returns-in-Some : goal.returns-in-Some
returns-in-Some c =
    let old = c.args.faults.now in
    noted-at process_name (λ process. process_value process.now) c.args.processes.now 200 c.get.result
    old c.note.new.self c.get.ensures.lookup
    (c.note.ensures ∙ ap (λ word. earlier old (diagnostic_at Limit word)) c.of_name.ensures
    ∙ ap (λ got. least_of old (limit_at (option_map (λ one. process_name (process_value one.now.now)) got)))
    (sym c.in-Some.is))

pub returns-in_default : goal.returns-in_default
returns-in_default c =
    let old = c.args.faults.now in
    noted-at process_name (λ process. process_value process.now) c.args.processes.now 200 c.get.result
    old old c.get.ensures.lookup
    (ap (λ got. least_of old (limit_at (option_map (λ one. process_name (process_value one.now.now)) got)))
    (sym c.in_default.is))
