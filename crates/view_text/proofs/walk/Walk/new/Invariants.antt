use Rattle.std.proofs.Common.{◌≡◌, map, take}
use Rattle.view_text.proofs.Opening.{fresh}
use Rattle.view_text.proofs.walk.Walk.new.Given as goal

abbrev pub invariant-loop-record : goal.invariant-loop-record
invariant-loop-record l = l.cursors.items ≡ map fresh (take l.record-index l.record-items)
