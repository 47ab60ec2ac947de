use Rattle.std.proofs.Common.{◌≡◌, take}
use Rattle.build_flow.specs.Listed.{texts}
use Rattle.build_flow.specs.Quick.{name_texts}
use Rattle.build_flow.proofs.quick.in_turn.Given as goal

abbrev pub invariant-loop-name : goal.invariant-loop-name
invariant-loop-name l = texts l.names ≡ name_texts (take l.name-index l.order)
