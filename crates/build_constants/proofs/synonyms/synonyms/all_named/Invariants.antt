use Rattle.std.proofs.Common.{◌≡◌, map, take}
use Rattle.build_constants.specs.SettledSynonyms.{named_by}
use Rattle.build_constants.proofs.synonyms.synonyms.all_named.Given as goal

abbrev pub invariant-loop-synonym : goal.invariant-loop-synonym
invariant-loop-synonym l =
    map (λ numbers. numbers.items) l.named.items ≡ map named_by (take l.synonym-index l.synonyms)
