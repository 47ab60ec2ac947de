use Rattle.std.proofs.Common.{◌≡◌, map}
use Rattle.build_statements.specs.Linked.{linked, place_at}
use Rattle.build_statements.proofs.nodes.finish.link_all.Given as goal

abbrev pub invariant-loop-node : goal.invariant-loop-node
invariant-loop-node l = l.list.items ≡ map (linked (place_at l.places)) l.yielded
