use Rattle.std.proofs.Common.{◌∙◌, ap, option_map, sym}
use Rattle.std.proofs.lemmas.List.{map-id}
use Rattle.sdl_tree.specs.Views.{name_value}
use Rattle.sdl_tree.specs.Words.{Spot}
use Rattle.build_names.specs.declared.faults.fault.Rule.TheVariants.{Limit}
use Rattle.build_names.specs.Faults.{diagnostic_at, earlier, fault_at, least_of, limit_at}
use Rattle.build_names.specs.Labels.{names_listed}
use Rattle.build_limits.proofs.PastLemmas.{noted-at}
use Rattle.build_limits.proofs.limits.note_states.Goals as goal
use Rattle.build_limits.proofs.limits.note_states.Goals.{in-Some, in_default}

pub returns : goal.returns
returns c =
    let old = c.args.faults.now in
    let seen = c.deref.result.now in
    noted-at (λ (word : Spot). word) (λ name. name_value name.now) seen 1000 c.get.result old _ c.get.ensures.lookup
    (elim c.match-get.branch [
      | in-Some w ↦ w.faults-is ∙ w.note.ensures
          ∙ ap (λ word. earlier old (diagnostic_at Limit word)) w.of_name.ensures
          ∙ ap (λ got. least_of old (limit_at (option_map (λ one. name_value one.now.now) got))) (sym w.in-Some.is)
      | in_default w ↦ w.faults-is
          ∙ ap (λ got. least_of old (limit_at (option_map (λ one. name_value one.now.now) got))) (sym w.in_default.is)
    ])
    ∙ ap (λ words. least_of old (fault_at 1000 words))
    (map-id (names_listed seen) ∙ ap names_listed c.deref.ensures.value ∙ c.in_ok-states.ensures)
