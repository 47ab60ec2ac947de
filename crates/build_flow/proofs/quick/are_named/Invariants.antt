use Rattle.std.proofs.Common.{◌≡◌, drop}
use Rattle.build_flow.specs.Listed.{texts}
use Rattle.build_flow.specs.Quick.{all_named, name_texts}
use Rattle.build_flow.proofs.quick.are_named.Given as goal

abbrev pub invariant-loop-name : goal.invariant-loop-name
invariant-loop-name l =
    all_named (texts l.names) (name_texts (drop l.name-index l.order)) ≡ all_named (texts l.names) (name_texts l.order)
