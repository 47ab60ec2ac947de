use Rattle.std.proofs.Common.{◌∙◌, ap, sym}
use Rattle.std.proofs.lemmas.Slice.Zip.{either_empty_from_Zip}
use Rattle.build_names.specs.Faults.{least_of}
use Rattle.build_constants.proofs.LimitLemmas.{none-told}
use Rattle.build_constants.proofs.limit.note_limit.Goals as goal

pub returns : goal.returns
returns c =
    sym (ap (least_of c.loop-entry.faults) (none-told _ _ _
    (either_empty_from_Zip c.loop-entry.entry-iterator c.next.new.self c.next.result c.in-None.is
    c.next.ensures.steps)))
    ∙ c.loop-entry.invariant.told_is
