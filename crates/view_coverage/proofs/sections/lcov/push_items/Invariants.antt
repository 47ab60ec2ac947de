use Rattle.std.proofs.Common.{◌≡◌, ◌++◌, take}
use Rattle.std.specs.List.{flat_map}
use Rattle.std.specs.String.{string_bytes}
use Rattle.view_coverage.specs.Lcov.{item_branch}
use Rattle.view_coverage.proofs.sections.lcov.push_items.Given as goal

abbrev pub invariant-loop-item : goal.invariant-loop-item
invariant-loop-item l =
    string_bytes l.text ≡ string_bytes l.initial.text ++ flat_map item_branch (take l.item-index l.items)
