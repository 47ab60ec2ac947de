use Rattle.std.proofs.lemmas.List.{nil_from_length}
use Rattle.run_tracks.proofs.Looking.{pass_unknown}
use Rattle.run_tracks.proofs.looks.looks_of.Goals as goal

pub loop-told-preserved-in_default-split_first : goal.loop-told-preserved-in_default-split_first
loop-told-preserved-in_default-split_first c =
    pass_unknown c.args.process.now c.args.looked c.loop-told.state c.state_after-state.result c.loop-told.told-iterator
    c.next.new.self c.loop-told.looks.items _ c.loop-told.step c.loop-told.counts.now
    (nil_from_length c.loop-told.counts.now c.in_default-split_first.ensures.cases) c.loop-told.invariant
