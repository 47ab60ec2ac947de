use Rattle.std.proofs.Common.{◌≡◌, take}
use Rattle.build_routes.specs.Entries.{listed_at}
use Rattle.build_routes.proofs.receiver.listed.Given as goal

abbrev pub invariant-loop-receiver : goal.invariant-loop-receiver
invariant-loop-receiver l = l.list.items ≡ listed_at l.place (take l.receiver-index l.receivers)
