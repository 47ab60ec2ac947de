-- What callers see of an outbox.
use Rattle.std.specs.Prelude.{List}
use Rattle.run_order.specs.declared.pending.Pending.{Pending}

abbrev pub PendingList : Type 0
PendingList = List Pending
