use Rattle.std.proofs.Common.{map}
use Rattle.build_routes.specs.Entries.{AreKnown, AreRows, Keeps}
use Rattle.build_routes.proofs.table.process_rows.Given as goal

abbrev pub invariant-loop-number : goal.invariant-loop-number
invariant-loop-number l = record {
  kept : Keeps l.fn.lists l.lists;
  known : AreKnown l.lists l.known.items;
  rows : AreRows l.network l.lists l.number (map (λ row. row.items) l.rows.items);
}
