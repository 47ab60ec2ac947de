use Rattle.std.proofs.Common.{◌≡◌, ◌++◌, drop, map}
use Rattle.sdl_tree.specs.Views.{synonym_value}
use Rattle.sdl_warnings.specs.Defined.{known, of_synonyms}
use Rattle.sdl_warnings.proofs.defined.Names.add_synonyms.Given as goal

abbrev pub invariant-loop-synonym : goal.invariant-loop-synonym
invariant-loop-synonym l =
    known l.self ++ of_synonyms (map synonym_value (drop l.synonym-index l.synonym-items))
    ≡ known l.fn.self ++ of_synonyms (map synonym_value l.synonym-items)
