-- One more is noted behind those of before.
use Rattle.std.proofs.Common.{[], ◌∷◌, replicate, subst}
use Rattle.std.proofs.lemmas.List.{replicate-append-replicate}
use Rattle.serial_run.proofs.step.note_times.Goals as goal
use Rattle.serial_run.specs.ExecutionLaws.{notes_none, notes_on, notes_word}
use Rattle.serial_run.specs.Told.{NotesThese}

pub loop-init : goal.loop-init
loop-init c = notes_none _

pub loop-preserved : goal.loop-preserved
loop-preserved c =
    let begun = c.args.order.now in
    subst (λ tellers. NotesThese begun tellers c.note.new.self)
    (replicate-append-replicate c.loop.counter 1 c.args.number)
    (notes_on begun c.loop.order c.note.new.self (replicate c.loop.counter c.args.number) (c.args.number ∷ [])
    c.loop.invariant (notes_word c.loop.order c.args.number c.note.new.self c.note.ensures))
