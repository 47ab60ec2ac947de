use Rattle.std.proofs.lemmas.Slice.Zip.{either_empty_from_Zip}
use Rattle.sdl_build.proofs.VariableLemmas.{variables-done}
use Rattle.sdl_build.proofs.context.heading.variables_of.Goals as goal

pub returns : goal.returns
returns c =
    variables-done _ _ _ _ _
    (either_empty_from_Zip c.loop-entry.entry-iterator c.next.new.self c.next.result c.in-None.is c.next.ensures.steps)
    c.loop-entry.invariant
