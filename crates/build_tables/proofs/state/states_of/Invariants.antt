use Rattle.std.proofs.Common.{◌≡◌, ◌++◌, map}
use Rattle.std.specs.Iterator.Adapters.{zip_first, zip_second}
use Rattle.std.specs.Slice.Iter.{iter_rest}
use Rattle.build_states.specs.Tabled.{names_listed}
use Rattle.build_tables.specs.Stated.{state_value, states_listed}
use Rattle.build_tables.proofs.state.states_of.Given as goal

abbrev pub invariant-loop-name : goal.invariant-loop-name
invariant-loop-name l = states_listed (names_listed l.names) l.of_states
    ≡ map state_value l.states.items
    ++ states_listed (names_listed (iter_rest (zip_first l.name-iterator))) (iter_rest (zip_second l.name-iterator))
