use Rattle.std.proofs.Common.{◌∙◌, ap, flat_map}
use Rattle.build_names.specs.Faults.{least_of}
use Rattle.sdl_tree.specs.Views.{process_value}
use Rattle.build_flow.specs.Listed.{beginnings_listed, terminators_listed}
use Rattle.build_flow.specs.Stays.{stay_fault}
use Rattle.build_flow.proofs.RoundLemmas.{stays-noted}
use Rattle.build_flow.proofs.stays.note_stays.Goals as goal

pub returns : goal.returns
returns c =
    stays-noted (process_value c.args.process.now) (beginnings_listed c.deref.result.now)
    (terminators_listed c.in_ok-found.found.items) c.args.faults.now c.note_found.new.faults
    (ap beginnings_listed c.deref.ensures.value ∙ c.in_ok-beginnings.ensures) c.in_ok-found.ensures
    (c.note_found.ensures
    ∙ ap (λ list. least_of c.args.faults.now (flat_map stay_fault (terminators_listed list))) c.deref-2.ensures.value)
