use Rattle.std.proofs.KnownBytes.{Keeps-trans}
use Rattle.sdl_engine.proofs.notes.note_run.Goals as goal

pub returns-clause-quiet : goal.returns-clause-quiet
returns-clause-quiet g c = λ cut known.
    Keeps-trans _ _ _ (c.note_cut.ensures cut) (c.note_stuck.ensures.quiet known)
