use Rattle.std.proofs.Common.{◌≡◌, flat_map, map, take}
use Rattle.build_definitions.specs.Rows.{placed_synonyms}
use Rattle.build_definitions.specs.Seen.{synonym_seen}
use Rattle.build_definitions.specs.Views.{parts_listed}
use Rattle.build_definitions.proofs.values.synonyms_in.Given as goal

abbrev pub invariant-loop-placed : goal.invariant-loop-placed
invariant-loop-placed l = map synonym_seen l.table.items ≡ flat_map placed_synonyms (parts_listed (take l.placed-index l.parts))
