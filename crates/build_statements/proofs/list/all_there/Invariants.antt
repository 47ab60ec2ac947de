use Rattle.std.proofs.Common.{◌≡◌, option_map}
use Rattle.build_expressions.specs.Partial.{all_some}
use Rattle.build_statements.proofs.list.all_there.Given as goal

abbrev pub invariant-loop-item : goal.invariant-loop-item
invariant-loop-item g l = option_map (λ items. items.items) l.found ≡ all_some l.yielded
