use Rattle.std.proofs.Common.{◌≢◌, ◌/◌, ◌%◌}
use Rattle.build_routes.specs.Entries.{AreKnown, IsRow, Keeps, WordTells}
use Rattle.build_routes.proofs.table.row_from.Given as goal

abbrev pub invariant-loop-number : goal.invariant-loop-number
invariant-loop-number l = record {
  kept : Keeps l.fn.lists l.lists;
  known : AreKnown l.lists l.known.items;
  row : IsRow l.network l.source l.lists l.number l.row.items;
  before : l.number % 64 ≢ 0 → WordTells l.network l.source (l.number / 64) l.lists l.word;
}
