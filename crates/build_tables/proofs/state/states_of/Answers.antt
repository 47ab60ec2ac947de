use Rattle.std.proofs.lemmas.Slice.Zip.{either_empty_from_Zip}
use Rattle.build_tables.proofs.StateLemmas.{states-done}
use Rattle.build_tables.proofs.state.states_of.Goals as goal

pub returns : goal.returns
returns c =
    states-done _ _ _ _
    (either_empty_from_Zip c.loop-name.name-iterator c.next.new.self c.next.result c.in-None.is c.next.ensures.steps)
    c.loop-name.invariant
