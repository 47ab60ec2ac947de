use Rattle.std.proofs.Common.{◌≡◌, take}
use Rattle.build_flow.specs.Listed.{found_listed, texts}
use Rattle.build_flow.specs.Quick.{all_confirmed}
use Rattle.build_flow.proofs.quick.confirmed.Given as goal

abbrev pub invariant-loop-one : goal.invariant-loop-one
invariant-loop-one l = texts l.confirmed ≡ all_confirmed l.names (found_listed (take l.one-index l.found))
