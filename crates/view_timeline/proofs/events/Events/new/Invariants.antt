use Rattle.std.proofs.Common.{◌≡◌, map, take}
use Rattle.view_timeline.proofs.Starting.{IsFresh, fresh}
use Rattle.view_timeline.specs.Traffic.{ledger_of}
use Rattle.view_timeline.proofs.events.Events.new.Given as goal

abbrev pub invariant-loop-record : goal.invariant-loop-record
invariant-loop-record l = record {
  reached : l.reached.items ≡ map fresh (take l.record-index l.records);
  ledger : IsFresh (take l.record-index l.records) (ledger_of l.traffic);
}
