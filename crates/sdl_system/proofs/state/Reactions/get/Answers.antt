use Rattle.std.proofs.Common.{◌∙◌, sym}
use Rattle.sdl_system.proofs.StateLemmas.{passed}
use Rattle.sdl_system.proofs.state.Reactions.get.Goals as goal

pub loop-place-preserved : goal.loop-place-preserved
loop-place-preserved c = c.loop-place.invariant
    ∙ passed c.args.signal c.self.inside.by_signal.entries c.loop-place.place (c.in-Some.name.now, c.in-Some.reaction.now) c.in-Some.ensures.entry (sym c.if-eq.ensures)
