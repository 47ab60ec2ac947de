use Rattle.std.proofs.Common.{◌≡◌, ◌++◌, map}
use Rattle.std.specs.Iterator.Adapters.{zip_first, zip_second}
use Rattle.std.specs.Slice.Iter.{iter_rest}
use Rattle.sdl_build.specs.Headings.{variables_in}
use Rattle.build_definitions.specs.Seen.{value_seen}
use Rattle.sdl_system.specs.Behaviour.{variable_meaning}
use Rattle.sdl_build.proofs.context.heading.variables_of.Given as goal

abbrev pub invariant-loop-entry : goal.invariant-loop-entry
invariant-loop-entry l = variables_in l.process (map value_seen l.values) l.initials
    ≡ map variable_meaning l.variables.items
    ++ variables_in l.process (map value_seen (iter_rest (zip_first l.entry-iterator)))
    (iter_rest (zip_second l.entry-iterator))
