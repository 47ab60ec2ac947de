use Rattle.std.proofs.Common.{subst, sym}
use Rattle.run_record.specs.Entry.{event_of}
use Rattle.run_record.specs.declared.entry.Entry.{Entry}
use Rattle.sdl_failures.specs.Part.{DoesCreate}
use Rattle.sdl_failures.proofs.replayed.part.does_create.Goals as goal

pub returns : goal.returns
returns c = λ yes values.
    subst (λ (e : Entry). DoesCreate c.args.creation.now c.args.part (event_of e values)) (sym c.in-Create.is)
    (c.if-part-ne0.false, c.is_number.ensures yes)
