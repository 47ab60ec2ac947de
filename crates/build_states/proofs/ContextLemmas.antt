-- The signals of a list by its name.
use Rattle.std.proofs.Common.{◌≡◌, ◌∙◌, ◌++◌, ℕ, List, Option, ap, option_map, sym}
use Rattle.build_definitions.specs.declared.entries.SignalListId.{SignalListId}
use Rattle.port_model.specs.declared.values.item.SignalId.{SignalId}
use Rattle.build_names.specs.Names.{first_of, first_outward}
use Rattle.build_expressions.proofs.ScopeLemmas.{meaning-first, outward-first}
use Rattle.build_expressions.specs.Scope.{meaning}

-- what a name of a list stands for, by what is found of it
pub found-list : (f : SignalListId → List SignalId) (process block system : List (List ℕ × SignalListId))
    (text : List ℕ) (found : Option SignalListId) → found ≡ first_outward process block system text →
    option_map f found ≡ first_of (meaning f (process ++ (block ++ system))) text
found-list f process block system text found is =
    ap (option_map f) (is ∙ outward-first process block system text)
    ∙ sym (meaning-first f (process ++ (block ++ system)) text)
